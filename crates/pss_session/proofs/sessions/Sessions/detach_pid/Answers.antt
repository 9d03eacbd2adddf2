use Rattle.std.proofs.Common.{◌≡◌, length, sym, ap, ◌∙◌, arith}
use Rattle.std.specs.FinMap as map
use Rattle.pss_session.specs.Meaning.{Meaning, belongs_to, on_unchanged}
use Rattle.pss_session.proofs.Registers.{count_is}
use Rattle.pss_session.proofs.Leaving.{left_both}
use Rattle.pss_session.proofs.sessions.Sessions.detach_pid.Goals as goal

pub returns-clause-left : goal.returns-clause-left
returns-clause-left g c =
    left_both (belongs_to c.args.owner) (on_unchanged c.args.pid) c.self.inside.register.rows.entries c.self.invariant.sorted c.args.self.now (ap (λ (m : Meaning). m.sessions) c.self.view_is) c.args.copies.now c.detach_pid.new.copies c.detach_pid.ensures.left

pub returns-clause-steps : goal.returns-clause-steps
returns-clause-steps g c =
    let count : map.len c.args.self.now.sessions ≡ length c.self.inside.register.rows.entries = sym (ap (λ (m : Meaning). map.len m.sessions) c.self.view_is) ∙ count_is c.self.inside.register.rows.entries c.self.invariant.sorted in
    omega (arith, c.detach_pid.ensures.steps, count)
