use Rattle.std.proofs.Common.{sym, ap, ◌∙◌, arith}
use Rattle.std.specs.FinMap as map
use Rattle.pss_session.specs.Meaning.{Meaning}
use Rattle.pss_session.proofs.Registers.{count_is}
use Rattle.pss_session.proofs.sessions.Sessions.count.Goals as goal

pub overflow_cast-result : goal.overflow_cast-result
overflow_cast-result c = grind (arith, c.self.invariant.fewer, c.self.invariant.small, c.len.ensures.len)

pub returns : goal.returns
returns c = c.len.ensures.len ∙ sym (count_is c.self.inside.register.rows.entries c.self.invariant.sorted) ∙ ap (λ (m : Meaning). map.len m.sessions) c.self.view_is
