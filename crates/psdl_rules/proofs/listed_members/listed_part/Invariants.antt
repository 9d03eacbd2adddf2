use Rattle.std.proofs.Common.{◌≡◌, List, take, drop}
use Rattle.psdl_tree.specs.declared.names.Identifier.{Identifier}
use Rattle.psdl_directory.specs.Noting.{noting}
use Rattle.psdl_members.specs.Bodies.{member_views}
use Rattle.psdl_rules.specs.Words.{listed_wrong}
use Rattle.psdl_rules.specs.inner.Scopes.{AreNames, behind}
use Rattle.psdl_rules.proofs.listed_members.listed_part.Given as goal

abbrev pub invariant-loop-identifier : goal.invariant-loop-identifier
invariant-loop-identifier l =
    let wrong = listed_wrong l.kind (member_views l.members) in
    record {
      noted : (earlier : List Identifier) → AreNames l.fn.names earlier
          → noting l.least (wrong (behind earlier (take l.identifier-index l.identifiers)) (drop l.identifier-index l.identifiers)) ≡ noting l.fn.least (wrong earlier l.identifiers);
      names : (earlier : List Identifier) → AreNames l.fn.names earlier → AreNames l.names (behind earlier (take l.identifier-index l.identifiers));
    }
