use Rattle.std.proofs.Common.{◌≡◌, ◌≤◌, [], ℕ, length}
use Rattle.psdl_check.specs.inner.NumbersIn.{numbers_in}
use Rattle.psdl_check.proofs.keys.Keys.new.Given as goal

abbrev pub invariant-loop : goal.invariant-loop
invariant-loop l =
    record {
      within : l.counter ≤ l.ids;
      sized : length l.of_ids.items ≡ l.counter;
      none : (n : ℕ) → numbers_in l.of_ids.items n ≡ [];
    }
