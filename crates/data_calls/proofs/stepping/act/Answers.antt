use Rattle.std.proofs.Common.{◌≡◌, None, Some, IsSome, refl, sym, subst}
use Rattle.std.specs.Prelude.{◌↔◌}
use Rattle.pss_base.specs.declared.owner.OwnerNo.{OwnerNo}
use Rattle.pss_base.specs.declared.session.SessionNo.{SessionNo}
use Rattle.type_layout.specs.declared.schema.Schema.{Schema}
use Rattle.pss_machine.specs.declared.answer.Answer.TheVariants as told
use Rattle.pss_machine.specs.Operations.{plain_op, plain_answer}
use Rattle.pss_machine.specs.Owners.{blocker}
use Rattle.pss_machine.specs.Asking.{Asked}
use Rattle.pss_machine.specs.Moving.{after_step}
use Rattle.owner_accounts.specs.Accounts.{AreAccounts}
use Rattle.owner_accounts.specs.Steps.{MayStep, step_in}
use Rattle.pss_asking.specs.Telling.{plain_asked}
use Rattle.pss_machine.specs.declared.reply.Reply.TheVariants as reply
use Rattle.pss_machine.specs.Kept.{Kept, name_of}
use Rattle.connector_parts.specs.Stands.{Stands}
use Rattle.connector_parts.proofs.Tellings.{if_ok}
use Rattle.data_calls.specs.declared.granting.Grant.{Grant}
use Rattle.data_calls.specs.declared.granting.Grant.TheVariants.{Refused}
use Rattle.data_calls.specs.Asking.{decision_on, IsGranted}
use Rattle.data_calls.specs.Copied.{MayAct}
use Rattle.data_calls.proofs.Taking.{with_accounts, may_step, act_busy, act_takes, none_where, some_there}
use Rattle.data_calls.proofs.stepping.act.Goals as goal

pub act-requires : goal.act-requires
act-requires c = subst (λ (S : Schema). MayStep S c.args.parts.now.accounts c.args.acting.owner (plain_op c.args.asked.now.op)) (sym c.schema.ensures) (may_step c.requires.take)

pub returns-in-Busy : goal.returns-in-Busy
returns-in-Busy c =
    if_ok (λ (grant : Grant). (k : Kept) → Stands (with_accounts c.args.parts.now c.act.new.self) k → grant ≡ Refused (reply.Busy (name_of k c.in-Busy.other)))
    (λ (grant : Grant). (m : MayAct c.args.parts.now c.args.acting (plain_asked c.args.asked.now)) → IsGranted c.args.parts.now m.take.asks.kept (decision_on m.take.asks) c.args.acting (plain_asked c.args.asked.now) grant (with_accounts c.args.parts.now c.act.new.self)) c.held_up.result
    (λ grant said m.
    (let a = c.args.parts.now.accounts in
    let n = c.args.acting.owner in
    let op = plain_op c.args.asked.now.op in
    let busy = subst (λ (S : Schema). (m : MayStep S a n op) (b : OwnerNo) → (c.in_ok-answer.answer ≡ told.Busy b) ↔ (blocker m.by.kept.owners n (step_in m).needs ≡ Some b)) c.schema.ensures c.in_ok-answer.ensures.busy in
    let held = subst (λ (S : Schema). (m : MayStep S a n op) → IsSome (blocker m.by.kept.owners n (step_in m).needs) → AreAccounts S c.act.new.self m.by.kept) c.schema.ensures c.in_ok-answer.ensures.held_up in
    let is = (busy (may_step m.take) c.in-Busy.other).0 c.in-Busy.is in
    let accounts = held (may_step m.take) (some_there is) in
    subst (λ (g : Grant). IsGranted c.args.parts.now m.take.asks.kept (decision_on m.take.asks) c.args.acting (plain_asked c.args.asked.now) g (with_accounts c.args.parts.now c.act.new.self)) (sym (said m.take.asks.kept (record { accounts = accounts; attended = m.take.asks.at.stands.attended })))
    (act_busy m c.in-Busy.other _ is refl (with_accounts c.args.parts.now c.act.new.self) (record { schema = refl; limits = refl }) refl accounts)))
    c.held_up.ensures

pub returns-in_default : goal.returns-in_default
returns-in_default c m =
    let a = c.args.parts.now.accounts in
    let n = c.args.acting.owner in
    let op = plain_op c.args.asked.now.op in
    let busy = subst (λ (S : Schema). (m : MayStep S a n op) (b : OwnerNo) → (c.in_ok-answer.answer ≡ told.Busy b) ↔ (blocker m.by.kept.owners n (step_in m).needs ≡ Some b)) c.schema.ensures c.in_ok-answer.ensures.busy in
    let answered = subst (λ (S : Schema). (m : MayStep S a n op) → blocker m.by.kept.owners n (step_in m).needs ≡ None → plain_answer c.in_ok-answer.answer ≡ (step_in m).answer) c.schema.ensures c.in_ok-answer.ensures.answer in
    let stepped = subst (λ (S : Schema). (m : MayStep S a n op) (s : SessionNo) (asked : Asked) → blocker m.by.kept.owners n (step_in m).needs ≡ None → AreAccounts S c.act.new.self (after_step m.by.kept n s (step_in m) asked)) c.schema.ensures c.in_ok-answer.ensures.stepped in
    let none = none_where (blocker m.take.asks.kept.owners n (step_in (may_step m.take)).needs) (λ b is. c.in_default.not-Busy b ((busy (may_step m.take) b).1 is)) in
    act_takes m (plain_answer c.in_ok-answer.answer) none (answered (may_step m.take) none) _ (record { schema = refl; limits = refl }) refl (stepped (may_step m.take) c.args.acting.session (plain_asked c.args.asked.now) none)
