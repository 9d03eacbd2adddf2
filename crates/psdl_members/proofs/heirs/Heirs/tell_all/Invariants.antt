use Rattle.std.proofs.Common.{◌≡◌, ◌≤◌, length}
use Rattle.psdl_members.specs.inner.Heirs.{IsTold, shows}
use Rattle.psdl_members.specs.inner.Rowed.{Entries}
use Rattle.psdl_members.specs.inner.Seeing.{AreSeen}
use Rattle.psdl_members.proofs.heirs.Heirs.tell_all.Given as goal

abbrev pub invariant-loop-number : goal.invariant-loop-number
invariant-loop-number l =
    record {
      seen : length l.seen.items ≡ length l.self.heirs.items;
      sized : length l.clashes.items ≡ length l.self.heirs.items;
      told : (es : Entries) → length es ≤ 64 → AreSeen l.fn.seen.items es (shows l.self.rows.now) → IsTold l.self.graph.now l.self.rows.now es l.fn.clashes.items l.number l.seen.items l.clashes.items;
    }
