use Rattle.std.proofs.Common.{subst, IsSomeAnd, Bool}
use Rattle.pss_machine.specs.Sessions.{open_in}
use Rattle.pss_machine.specs.Kept.{Kept}
use Rattle.pss_machine.specs.Moving.{ended}
use Rattle.pss_session.specs.Meaning.{session_at}
use Rattle.pss_copies.specs.declared.parts.Parts.{Parts}
use Rattle.pss_copies.specs.Seats.{Attends}
use Rattle.pss_copies.proofs.Associated.{end_attends}
use Rattle.pss_copies.proofs.attended.Attended.end.Goals as goal

pub returns-clause-ended : goal.returns-clause-ended
returns-clause-ended g c =
    subst (λ (old : Parts). IsSomeAnd (session_at old.sessions c.args.session) (λ x. IsSomeAnd (open_in x.association) (λ n. (k : Kept) (failed : Bool) → Attends k old → Attends (ended k c.args.session n failed) (record { sessions = c.end.new.self; copies = c.end.new.copies })))) c.self.view_is
    (end_attends c.self.inside.parts (record { sessions = c.end.new.self; copies = c.end.new.copies }) c.args.session c.copies_hold.ensures c.end.ensures.lasts c.end.ensures.left c.end.ensures.ending)
