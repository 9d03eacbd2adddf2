use Rattle.std.proofs.Common.{◌≡◌, ◌++◌, take}
use Rattle.type_layout.specs.Factories.{numbers_among}
use Rattle.psdl_lineage.specs.Descent.{names_of}
use Rattle.psdl_check.specs.inner.TypedMembers.{typed_names}
use Rattle.psdl_check.proofs.key_records.add_indexes.Given as goal

abbrev pub invariant-loop-name : goal.invariant-loop-name
invariant-loop-name l = l.found ≡ l.fn.found ++ numbers_among (typed_names l.members) (names_of (take l.name-index l.names))
