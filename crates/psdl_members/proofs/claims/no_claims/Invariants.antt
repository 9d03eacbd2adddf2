use Rattle.std.proofs.Common.{◌≡◌, ◌≤◌, [], ℕ, length}
use Rattle.psdl_members.specs.inner.Claims.{claims_in}
use Rattle.psdl_members.proofs.claims.no_claims.Given as goal

abbrev pub invariant-loop : goal.invariant-loop
invariant-loop l =
    record {
      within : l.counter ≤ l.names;
      sized : length l.claims.items ≡ l.counter;
      none : (n : ℕ) → claims_in l.claims.items n ≡ [];
    }
