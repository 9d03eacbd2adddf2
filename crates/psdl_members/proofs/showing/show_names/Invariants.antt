use Rattle.std.proofs.Common.{◌≡◌, false, length, take}
use Rattle.psdl_members.specs.declared.rows.Rows.{Rows}
use Rattle.psdl_members.specs.inner.Claims.{AreClaims}
use Rattle.psdl_members.specs.inner.Rowed.{Entries, row_of}
use Rattle.psdl_members.specs.inner.Seeing.{AreSeen, IsGroup}
use Rattle.psdl_members.proofs.Shown.{has_of}
use Rattle.psdl_members.proofs.showing.show_names.Given as goal

abbrev pub invariant-loop-name : goal.invariant-loop-name
invariant-loop-name l =
    record {
      sized : length l.seen.items ≡ length l.fn.seen.items;
      seen : (rows : Rows) (es : Entries) → AreClaims rows l.claims → IsGroup l.group es → AreSeen l.fn.seen.items es (λ n test. false) → AreSeen l.seen.items es (λ n test. has_of (take l.name-index l.names) test (row_of rows n));
    }
