use Rattle.std.proofs.Common.{◌≡◌, take}
use Rattle.type_layout.specs.Factories.{numbers_among}
use Rattle.type_layout.proofs.home_factories.numbers_of.Given as goal

abbrev pub invariant-loop-name : goal.invariant-loop-name
invariant-loop-name l = l.numbers ≡ numbers_among l.members (take l.name-index l.names)
