use Rattle.std.proofs.Common.{◌+◌, refl, ap, ◌∙◌}
use Rattle.pss_session.specs.Meaning.{Meaning, finished, is_in}
use Rattle.pss_session.specs.inner.Register.{sessions_of}
use Rattle.pss_session.proofs.Registers.{left_is}
use Rattle.pss_session.proofs.Opened.{left_sound}
use Rattle.pss_session.proofs.Leaving.{left_of}
use Rattle.pss_session.proofs.Having.{have_finished, have_told}
use Rattle.pss_session.proofs.sessions.Sessions.finish.Goals as goal

pub invariant_of-self : goal.invariant_of-self
invariant_of-self g c = left_sound c.self.inside.register (record { rows = c.leave.new.rows; names = c.self.inside.register.names; last = c.self.inside.register.last }) c.self.invariant c.args.owner c.leave.ensures refl refl

pub returns-clause-finished : goal.returns-clause-finished
returns-clause-finished g c =
    (λ i. record { sessions = (ap sessions_of c.leave.ensures ∙ left_is c.args.owner c.self.inside.register.rows.entries) i; next = c.self.inside.register.last + 1 }) ∙ ap (λ m. finished m c.args.owner) c.self.view_is

pub returns-clause-left : goal.returns-clause-left
returns-clause-left g c =
    left_of (is_in c.args.owner) c.self.inside.register.rows.entries c.self.invariant.sorted c.args.self.now (ap (λ (m : Meaning). m.sessions) c.self.view_is) c.args.copies.now c.detach_all.new.copies c.detach_all.ensures.left

pub returns-clause-have : goal.returns-clause-have
returns-clause-have g c =
    have_told _ (finished c.args.self.now c.args.owner) c.detach_all.new.copies
    ((λ i. record { sessions = (ap sessions_of c.leave.ensures ∙ left_is c.args.owner c.self.inside.register.rows.entries) i; next = c.self.inside.register.last + 1 }) ∙ ap (λ m. finished m c.args.owner) c.self.view_is)
    (have_finished c.args.self.now c.args.copies.now c.detach_all.new.copies c.requires c.args.owner c.detach_all.ensures.lasts)
