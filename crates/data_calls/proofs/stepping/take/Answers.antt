use Rattle.std.proofs.Common.{subst}
use Rattle.std.specs.Option.{IfSome}
use Rattle.type_layout.specs.Views.{plain_value}
use Rattle.pss_machine.specs.Operations.{Val}
use Rattle.pss_machine.specs.Asking.{Asked}
use Rattle.pss_asking.specs.Telling.{plain_asked}
use Rattle.connector_parts.proofs.Tellings.{if_ok}
use Rattle.data_calls.specs.declared.granting.Grant.{Grant}
use Rattle.data_calls.specs.declared.looking.Sight.{Sight}
use Rattle.data_calls.specs.Asking.{decision_on, IsGranted}
use Rattle.data_calls.specs.Copied.{MayAct, MayLook, IsRead}
use Rattle.data_calls.proofs.stepping.take.Goals as goal

pub look-requires : goal.look-requires
look-requires c =
    let read = subst (λ o. IfSome o (λ (sight : Sight). (m : MayAct c.args.parts.now c.args.acting (plain_asked c.args.asked.now)) → IsRead m sight.pid (Val (plain_value sight.value)))) c.in-Some.is c.in_ok-sight.ensures in
    (plain_asked c.args.asked.now, record { act = c.requires; read = read c.requires })

pub returns-in-Some : goal.returns-in-Some
returns-in-Some c =
    let read = subst (λ o. IfSome o (λ (sight : Sight). (m : MayAct c.args.parts.now c.args.acting (plain_asked c.args.asked.now)) → IsRead m sight.pid (Val (plain_value sight.value)))) c.in-Some.is c.in_ok-sight.ensures in
    if_ok
    (λ (grant : Grant). (asked : Asked) (m : MayLook c.args.parts.now c.args.acting asked c.in-Some.sight.pid (Val (plain_value c.in-Some.sight.value))) → IsGranted c.args.parts.now m.act.take.asks.kept (decision_on m.act.take.asks) c.args.acting asked grant c.look.new.parts)
    (λ (grant : Grant). (m : MayAct c.args.parts.now c.args.acting (plain_asked c.args.asked.now)) → IsGranted c.args.parts.now m.take.asks.kept (decision_on m.take.asks) c.args.acting (plain_asked c.args.asked.now) grant c.look.new.parts)
    c.look.result
    (λ grant h m. h (plain_asked c.args.asked.now) (record { act = m; read = read m })) c.look.ensures
