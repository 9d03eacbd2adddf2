use Rattle.std.proofs.Common.{◌≡◌, ◌&&◌, ℕ, Bool, nat_lt, length}
use Rattle.psdl_members.specs.declared.entry.Entry.{Entry}
use Rattle.psdl_members.specs.inner.Claims.{claims_in, has_claim, has_named}
use Rattle.psdl_members.specs.inner.Rowed.{row_of}
use Rattle.psdl_members.proofs.claims.add_rows.Given as goal

abbrev pub invariant-loop-index : goal.invariant-loop-index
invariant-loop-index l =
    record {
      sized : length l.claims.items ≡ l.rows.names;
      rows : (n d : ℕ) (test : Entry → Bool) → has_claim (claims_in l.claims.items n) d test ≡ (nat_lt d l.index && has_named n test (row_of l.rows d));
    }
