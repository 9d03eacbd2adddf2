use Rattle.std.proofs.Common.{◌∙◌}
use Rattle.psdl_lineage.proofs.lineage.Lineage.with_homes.Goals as goal

pub providers-requires-clause-homes : goal.providers-requires-clause-homes
providers-requires-clause-homes c = c.deref.ensures.value ∙ c.requires.homes

pub invariant_of-result : goal.invariant_of-result
invariant_of-result c =
    record {
      known = record {
        headed = c.requires.headers;
        graphed = c.requires.graph;
        listed = c.requires.homes;
        related = c.in_ok-families.ensures;
        provided = c.in_ok-providers.ensures;
      };
    }
