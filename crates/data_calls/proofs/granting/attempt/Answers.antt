use Rattle.std.specs.Prelude.{Ok}
use Rattle.pss_asking.specs.Telling.{plain_asked}
use Rattle.connector_parts.proofs.Tellings.{if_ok}
use Rattle.data_calls.specs.declared.granting.Grant.{Grant}
use Rattle.data_calls.specs.Asking.{Asks, MayTake, decision_on, IsGranted}
use Rattle.data_calls.proofs.Granted.{beyond}
use Rattle.data_calls.proofs.Taking.{refuses}
use Rattle.data_calls.proofs.granting.attempt.Goals as goal

pub step-requires : goal.step-requires
step-requires c = (let is = c.in-Ok.ensures c.requires in record { asks = c.requires; within_them = is.0; serials = is.1 })

pub returns-in-Ok : goal.returns-in-Ok
returns-in-Ok c =
    if_ok
    (λ (grant : Grant). (m : MayTake c.args.parts.now c.args.acting (plain_asked c.args.asked.now)) → IsGranted c.args.parts.now m.asks.kept (decision_on m.asks) c.args.acting (plain_asked c.args.asked.now) grant c.step.new.parts)
    (λ (grant : Grant). (a : Asks c.args.parts.now c.args.acting (Ok (plain_asked c.args.asked.now))) → IsGranted c.args.parts.now a.kept (decision_on a) c.args.acting (plain_asked c.args.asked.now) grant c.step.new.parts)
    c.step.result
    (λ grant h a. let is = c.in-Ok.ensures a in h (record { asks = a; within_them = is.0; serials = is.1 })) c.step.ensures

pub returns-in-Err : goal.returns-in-Err
returns-in-Err c a =
    refuses a c.in-Err.reply
    (beyond c.args.parts.now.schema c.args.parts.now.limits a.kept c.args.acting.session a.is.session c.args.acting.owner a.is.owner a.is.acts (plain_asked c.args.asked.now) c.in-Err.reply (c.in-Err.ensures a))
