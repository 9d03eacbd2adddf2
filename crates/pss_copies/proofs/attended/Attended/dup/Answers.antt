use Rattle.std.proofs.Common.{◌≡◌, ◌+◌, refl, subst, MatchOption}
use Rattle.pss_machine.specs.Copies.{entry_numbered}
use Rattle.pss_machine.specs.Deciding.{counting}
use Rattle.pss_machine.specs.Kept.{Kept, copies_of}
use Rattle.pss_machine.specs.Effects.{Holds}
use Rattle.pss_machine.specs.Moving.{moved}
use Rattle.pss_copies.specs.declared.parts.Parts.{Parts}
use Rattle.pss_copies.specs.Seats.{Attends}
use Rattle.pss_copies.proofs.Held.{dup_attends}
use Rattle.pss_copies.proofs.attended.Attended.dup.Goals as goal

pub returns-clause-counted : goal.returns-clause-counted
returns-clause-counted c =
    let new : Parts = record { sessions = c.self.inside.parts.sessions; copies = c.dup.new.self } in
    subst (λ (old : Parts). (k : Kept) → Attends k old → MatchOption (entry_numbered (copies_of k c.args.session) c.args.number) (new ≡ old) (λ e. Attends (moved k (Holds c.args.session (counting c.args.number (e.count + 1) (copies_of k c.args.session)))) new)) c.self.view_is
    (dup_attends c.self.inside.parts new c.args.session c.args.number c.copies_hold.ensures refl c.dup.ensures.counted)
