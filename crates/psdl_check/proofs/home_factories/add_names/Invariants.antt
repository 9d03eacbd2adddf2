use Rattle.std.proofs.Common.{◌≡◌, ◌++◌, take}
use Rattle.psdl_lineage.specs.Descent.{names_of}
use Rattle.psdl_check.proofs.home_factories.add_names.Given as goal

abbrev pub invariant-loop-identifier : goal.invariant-loop-identifier
invariant-loop-identifier l = l.list ≡ l.fn.list ++ names_of (take l.identifier-index l.identifiers)
