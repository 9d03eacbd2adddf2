use Rattle.std.proofs.Common.{◌≡◌, ◌-◌, suc, length}
use Rattle.type_layout.specs.Schemas.{descends, descends_within}
use Rattle.type_layout.proofs.descent.comes_to.Given as goal

abbrev pub invariant-loop : goal.invariant-loop
invariant-loop l = descends_within (suc (length l.schema.homes) - l.counter) l.schema l.current l.of ≡ descends l.schema l.fn.home l.of
