use Rattle.std.proofs.Common.{ap, ◌∙◌}
use Rattle.std.specs.FinMap.{len}
use Rattle.pss_machine.specs.Sessions.{Sessions}
use Rattle.pss_session.specs.Meaning.{Meaning}
use Rattle.connector_parts.proofs.Bounds.{in_order_at}
use Rattle.session_calls.proofs.Tellings.{told_counts}
use Rattle.session_calls.proofs.telling.stat.Goals as goal

pub returns : goal.returns
returns c k at =
    let stands = at.stands in
    let ordered = in_order_at c.args.parts.now k at in
    let history = c.history.ensures c.args.parts.now.schema k stands.accounts in
    told_counts c.args.parts.now k at c.from.result c.from-2.result c.entries.result c.attached.result c.bodies.result c.locks.result c.commits.result c.objects.result
    (c.from.ensures ∙ c.count.ensures ∙ ap (λ (m : Meaning). len m.sessions) c.sessions.ensures ∙ ap (λ (s : Sessions). len s) stands.attended.sessions)
    (c.from-2.ensures ∙ c.transactions.ensures.machine k (c.titles.ensures c.args.parts.now.schema k stands.accounts))
    (c.entries.ensures k ordered stands.attended)
    (c.attached.ensures k ordered stands.attended)
    (c.bodies.ensures k ordered stands.attended)
    (c.locks.ensures c.args.parts.now.schema k stands.accounts)
    (c.commits.ensures ∙ history.commits)
    (c.objects.ensures c.args.parts.now.schema k stands.accounts)
