use Rattle.std.proofs.Common.{sym, ap, ◌∙◌}
use Rattle.pss_machine.specs.Owners.{view}
use Rattle.pss_machine.specs.Asking.{Asked}
use Rattle.pss_asking.specs.Telling.{plain_asked}
use Rattle.connector_parts.proofs.Tellings.{if_ok}
use Rattle.data_calls.specs.declared.granting.Grant.{Grant}
use Rattle.data_calls.specs.Asking.{MayTake, decision_on, IsGranted}
use Rattle.data_calls.specs.Copied.{told_as, MayLead, MayAct}
use Rattle.data_calls.proofs.stepping.step.Goals as goal

pub take-requires : goal.take-requires
take-requires c =
    let m = c.requires in
    record { take = m; told = sym (c.in_ok-consult.ensures m.asks.kept m.asks.is m.asks.at) ∙ ap (told_as (view m.asks.kept.catalog m.asks.is.owner)) c.in-Nothing.is }

pub tell-requires : goal.tell-requires
tell-requires c =
    let m = c.requires in
    (plain_asked c.args.asked.now, record { take = m; told = sym (c.in_ok-consult.ensures m.asks.kept m.asks.is m.asks.at) ∙ ap (told_as (view m.asks.kept.catalog m.asks.is.owner)) c.in-Answer.is })

pub lead-requires : goal.lead-requires
lead-requires c =
    let m = c.requires in
    (plain_asked c.args.asked.now, record { take = m; told = sym (c.in_ok-consult.ensures m.asks.kept m.asks.is m.asks.at) ∙ ap (told_as (view m.asks.kept.catalog m.asks.is.owner)) c.in-Lead.is })

pub returns-in-Nothing : goal.returns-in-Nothing
returns-in-Nothing c =
    if_ok
    (λ (grant : Grant). (m : MayAct c.args.parts.now c.args.acting (plain_asked c.args.asked.now)) → IsGranted c.args.parts.now m.take.asks.kept (decision_on m.take.asks) c.args.acting (plain_asked c.args.asked.now) grant c.take.new.parts)
    (λ (grant : Grant). (m : MayTake c.args.parts.now c.args.acting (plain_asked c.args.asked.now)) → IsGranted c.args.parts.now m.asks.kept (decision_on m.asks) c.args.acting (plain_asked c.args.asked.now) grant c.take.new.parts)
    c.take.result
    (λ grant h m. h (record { take = m; told = sym (c.in_ok-consult.ensures m.asks.kept m.asks.is m.asks.at) ∙ ap (told_as (view m.asks.kept.catalog m.asks.is.owner)) c.in-Nothing.is })) c.take.ensures

pub returns-in-Answer : goal.returns-in-Answer
returns-in-Answer c m =
    c.tell.ensures (plain_asked c.args.asked.now) (record { take = m; told = sym (c.in_ok-consult.ensures m.asks.kept m.asks.is m.asks.at) ∙ ap (told_as (view m.asks.kept.catalog m.asks.is.owner)) c.in-Answer.is })

pub returns-in-Lead : goal.returns-in-Lead
returns-in-Lead c =
    if_ok
    (λ (grant : Grant). (asked : Asked) (m : MayLead c.args.parts.now c.args.acting asked c.in-Lead.pid) → IsGranted c.args.parts.now m.take.asks.kept (decision_on m.take.asks) c.args.acting asked grant c.lead.new.parts)
    (λ (grant : Grant). (m : MayTake c.args.parts.now c.args.acting (plain_asked c.args.asked.now)) → IsGranted c.args.parts.now m.asks.kept (decision_on m.asks) c.args.acting (plain_asked c.args.asked.now) grant c.lead.new.parts)
    c.lead.result
    (λ grant h m. h (plain_asked c.args.asked.now) (record { take = m; told = sym (c.in_ok-consult.ensures m.asks.kept m.asks.is m.asks.at) ∙ ap (told_as (view m.asks.kept.catalog m.asks.is.owner)) c.in-Lead.is })) c.lead.ensures
