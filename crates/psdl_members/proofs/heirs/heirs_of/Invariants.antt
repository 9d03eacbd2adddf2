use Rattle.std.proofs.Common.{◌≡◌, ◌<◌, ℕ, false, length, get_or}
use Rattle.std.specs.List.{list_any}
use Rattle.psdl_lineage.specs.Graph.{ancestry_in}
use Rattle.psdl_members.specs.inner.Heirs.{has_row}
use Rattle.psdl_members.proofs.heirs.heirs_of.Given as goal

abbrev pub invariant-loop-number : goal.invariant-loop-number
invariant-loop-number l =
    record {
      sized : length l.heirs.items ≡ l.count;
      told : (n : ℕ) → n < l.number → get_or l.heirs.items n false ≡ list_any (has_row l.rows) (ancestry_in l.graph n);
    }
