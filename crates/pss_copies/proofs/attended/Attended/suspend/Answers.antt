use Rattle.std.proofs.Common.{refl, subst, IsSomeAnd}
use Rattle.pss_machine.specs.declared.session.Association.TheVariants.{Suspended}
use Rattle.pss_machine.specs.Sessions.{active_in}
use Rattle.pss_machine.specs.Kept.{Kept}
use Rattle.pss_machine.specs.Effects.{Associates}
use Rattle.pss_machine.specs.Moving.{moved}
use Rattle.pss_session.specs.Meaning.{session_at}
use Rattle.pss_copies.specs.declared.parts.Parts.{Parts}
use Rattle.pss_copies.specs.Seats.{Attends}
use Rattle.pss_copies.proofs.Associated.{suspend_attends, suspend_have}
use Rattle.pss_copies.proofs.attended.Attended.suspend.Goals as goal

pub invariant_of-self : goal.invariant_of-self
invariant_of-self c = suspend_have c.self.inside.parts.sessions c.suspend.new.self c.self.inside.parts.copies c.args.session c.self.invariant c.suspend.ensures

pub returns : goal.returns
returns c =
    subst (λ (old : Parts). IsSomeAnd (session_at old.sessions c.args.session) (λ x. IsSomeAnd (active_in x.association) (λ n. (k : Kept) → Attends k old → Attends (moved k (Associates c.args.session (Suspended n))) (record { sessions = c.suspend.new.self; copies = c.self.inside.parts.copies })))) c.self.view_is
    (suspend_attends c.self.inside.parts (record { sessions = c.suspend.new.self; copies = c.self.inside.parts.copies }) c.args.session refl c.suspend.ensures)
