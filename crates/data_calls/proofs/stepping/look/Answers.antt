use Rattle.std.proofs.Common.{◌≡◌, None, Some, IsSome, refl, sym, subst}
use Rattle.std.specs.Prelude.{◌↔◌}
use Rattle.pss_base.specs.declared.owner.OwnerNo.{OwnerNo}
use Rattle.pss_base.specs.declared.session.SessionNo.{SessionNo}
use Rattle.type_layout.specs.declared.schema.Schema.{Schema}
use Rattle.pss_machine.specs.declared.answer.Answer.TheVariants as told
use Rattle.pss_machine.specs.Operations.{Exists, Ask, Val}
use Rattle.pss_machine.specs.Owners.{blocker}
use Rattle.pss_machine.specs.Asking.{Asked}
use Rattle.pss_machine.specs.Moving.{after_step}
use Rattle.owner_accounts.specs.Accounts.{AreAccounts}
use Rattle.owner_accounts.specs.Steps.{MayStep, step_in}
use Rattle.pss_machine.specs.declared.reply.Reply.TheVariants as reply
use Rattle.pss_machine.specs.Kept.{Kept, name_of}
use Rattle.connector_parts.specs.Stands.{Stands}
use Rattle.connector_parts.proofs.Tellings.{if_ok}
use Rattle.data_calls.specs.declared.granting.Grant.{Grant}
use Rattle.data_calls.specs.declared.granting.Grant.TheVariants.{Refused}
use Rattle.data_calls.specs.Asking.{decision_on, IsGranted}
use Rattle.data_calls.specs.Copied.{MayLook}
use Rattle.type_layout.specs.Views.{plain_value}
use Rattle.data_calls.proofs.Taking.{with_accounts, none_where, some_there}
use Rattle.data_calls.proofs.Bodies.{may_look, look_busy, look_takes}
use Rattle.data_calls.proofs.stepping.look.Goals as goal

pub act-requires : goal.act-requires
act-requires c = subst (λ (S : Schema). MayStep S c.args.parts.now.accounts c.args.acting.owner (Ask (Exists c.args.sight.pid))) (sym c.schema-schema.ensures) (may_look c.requires.1)

pub returns-in-Busy : goal.returns-in-Busy
returns-in-Busy c =
    if_ok (λ (grant : Grant). (k : Kept) → Stands (with_accounts c.args.parts.now c.act.new.self) k → grant ≡ Refused (reply.Busy (name_of k c.in-Busy.other)))
    (λ (grant : Grant). (asked : Asked) (m : MayLook c.args.parts.now c.args.acting asked c.args.sight.pid (Val (plain_value c.args.sight.value))) → IsGranted c.args.parts.now m.act.take.asks.kept (decision_on m.act.take.asks) c.args.acting asked grant (with_accounts c.args.parts.now c.act.new.self)) c.held_up.result
    (λ grant said asked m.
    (let a = c.args.parts.now.accounts in
    let n = c.args.acting.owner in
    let op = Ask (Exists c.args.sight.pid) in
    let busy = subst (λ (S : Schema). (m : MayStep S a n op) (b : OwnerNo) → (c.in_ok-answer.answer ≡ told.Busy b) ↔ (blocker m.by.kept.owners n (step_in m).needs ≡ Some b)) c.schema-schema.ensures c.in_ok-answer.ensures.busy in
    let held = subst (λ (S : Schema). (m : MayStep S a n op) → IsSome (blocker m.by.kept.owners n (step_in m).needs) → AreAccounts S c.act.new.self m.by.kept) c.schema-schema.ensures c.in_ok-answer.ensures.held_up in
    let is = (busy (may_look m) c.in-Busy.other).0 c.in-Busy.is in
    let accounts = held (may_look m) (some_there is) in
    subst (λ (g : Grant). IsGranted c.args.parts.now m.act.take.asks.kept (decision_on m.act.take.asks) c.args.acting asked g (with_accounts c.args.parts.now c.act.new.self)) (sym (said m.act.take.asks.kept (record { accounts = accounts; attended = m.act.take.asks.at.stands.attended })))
    (look_busy m c.in-Busy.other _ is refl (with_accounts c.args.parts.now c.act.new.self) (record { schema = refl; limits = refl }) refl accounts)))
    c.held_up.ensures

pub returns-in_default : goal.returns-in_default
returns-in_default c asked m =
    let a = c.args.parts.now.accounts in
    let n = c.args.acting.owner in
    let op = Ask (Exists c.args.sight.pid) in
    let busy = subst (λ (S : Schema). (m : MayStep S a n op) (b : OwnerNo) → (c.in_ok-answer.answer ≡ told.Busy b) ↔ (blocker m.by.kept.owners n (step_in m).needs ≡ Some b)) c.schema-schema.ensures c.in_ok-answer.ensures.busy in
    let stepped = subst (λ (S : Schema). (m : MayStep S a n op) (s : SessionNo) (asked : Asked) → blocker m.by.kept.owners n (step_in m).needs ≡ None → AreAccounts S c.act.new.self (after_step m.by.kept n s (step_in m) asked)) c.schema-schema.ensures c.in_ok-answer.ensures.stepped in
    let none = none_where (blocker m.act.take.asks.kept.owners n (step_in (may_look m)).needs) (λ b is. c.in_default.not-Busy b ((busy (may_look m) b).1 is)) in
    look_takes m none _ (record { schema = refl; limits = refl }) refl (stepped (may_look m) c.args.acting.session asked none)
