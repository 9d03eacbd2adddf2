use Rattle.std.proofs.Common.{ℕ, ◌≡◌, false, length}
use Rattle.storage_home.specs.Extents.{is_held_in}
use Rattle.storage_home.proofs.loading.no_extents.Given as goal

abbrev pub invariant-loop : goal.invariant-loop
invariant-loop l = (length l.extents.items ≡ l.counter) × ((home serial : ℕ) → is_held_in l.extents.items home serial ≡ false)
