use Rattle.pss_machine.specs.Asking.{Asked}
use Rattle.pss_asking.specs.Telling.{plain_asked}
use Rattle.connector_parts.proofs.Tellings.{if_ok}
use Rattle.data_calls.specs.declared.granting.Grant.{Grant}
use Rattle.data_calls.specs.Asking.{decision_on, IsGranted}
use Rattle.data_calls.specs.Copied.{MayAct, MayFollow}
use Rattle.data_calls.proofs.stepping.go.Goals as goal

pub lead_off-requires : goal.lead_off-requires
lead_off-requires c = (plain_asked c.args.asked.now, record { act = c.requires; led = c.in-Some.ensures c.requires })

pub returns-in-Some : goal.returns-in-Some
returns-in-Some c =
    if_ok
    (λ (grant : Grant). (asked : Asked) (m : MayFollow c.args.parts.now c.args.acting asked c.in-Some.followed.pid c.in-Some.followed.to) → IsGranted c.args.parts.now m.act.take.asks.kept (decision_on m.act.take.asks) c.args.acting asked grant c.lead_off.new.parts)
    (λ (grant : Grant). (m : MayAct c.args.parts.now c.args.acting (plain_asked c.args.asked.now)) → IsGranted c.args.parts.now m.take.asks.kept (decision_on m.take.asks) c.args.acting (plain_asked c.args.asked.now) grant c.lead_off.new.parts)
    c.lead_off.result
    (λ grant h m. h (plain_asked c.args.asked.now) (record { act = m; led = c.in-Some.ensures m })) c.lead_off.ensures
