use Rattle.std.proofs.Common.{◌≡◌, ◌||◌, ℕ, length, take}
use Rattle.psdl_members.specs.inner.Claims.{has_claim}
use Rattle.psdl_members.specs.inner.Rowed.{Entries}
use Rattle.psdl_members.specs.inner.Seeing.{AreSeen, IsGroup, Sight}
use Rattle.psdl_members.proofs.showing.show_claims.Given as goal

abbrev pub invariant-loop-claim : goal.invariant-loop-claim
invariant-loop-claim l =
    record {
      sized : length l.seen.items ≡ length l.fn.seen.items;
      seen : (es : Entries) (some : ℕ → Sight) → IsGroup l.group es → AreSeen l.fn.seen.items es some → AreSeen l.seen.items es (λ n test. some n test || has_claim (take l.claim-index l.claims) n test);
    }
