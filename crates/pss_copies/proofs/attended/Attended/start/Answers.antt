use Rattle.std.proofs.Common.{refl, subst, sym, IsSomeAnd}
use Rattle.pss_machine.specs.declared.session.Association.TheVariants.{Active}
use Rattle.pss_session.specs.Meaning.{session_at, MayStart}
use Rattle.pss_session.proofs.Having.{have_associated, have_told}
use Rattle.pss_copies.specs.declared.parts.Parts.{Parts}
use Rattle.pss_copies.specs.Seats.{Attends}
use Rattle.pss_copies.proofs.Associated.{start_attends}
use Rattle.pss_copies.proofs.attended.Attended.start.Goals as goal

pub invariant_of-self : goal.invariant_of-self
invariant_of-self c =
    have_told c.start.new.self _ c.self.inside.parts.copies c.start.ensures
    (have_associated c.self.inside.parts.sessions c.self.inside.parts.copies c.self.inside.parts.copies c.self.invariant c.args.session (Active c.args.owner) refl)

pub returns : goal.returns
returns c k at =
    start_attends c.self.inside.parts (record { sessions = c.start.new.self; copies = c.self.inside.parts.copies }) c.args.session c.args.owner
    (subst (λ (old : Parts). IsSomeAnd (session_at old.sessions c.args.session) (MayStart c.args.owner)) (sym c.self.view_is) c.requires) c.start.ensures refl k (subst (Attends k) (sym c.self.view_is) at)
