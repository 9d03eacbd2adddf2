use Rattle.std.proofs.Common.{◌≡◌, None, Some, IsSome, refl, sym, subst}
use Rattle.std.specs.Prelude.{◌↔◌}
use Rattle.pss_base.specs.declared.owner.OwnerNo.{OwnerNo}
use Rattle.pss_base.specs.declared.session.SessionNo.{SessionNo}
use Rattle.type_layout.specs.declared.schema.Schema.{Schema}
use Rattle.pss_machine.specs.declared.answer.Answer.TheVariants as told
use Rattle.pss_machine.specs.Operations.{plain_answer}
use Rattle.pss_machine.specs.Owners.{blocker}
use Rattle.pss_machine.specs.Asking.{Asked}
use Rattle.pss_machine.specs.Moving.{after_step}
use Rattle.owner_accounts.specs.Accounts.{AreAccounts}
use Rattle.owner_accounts.specs.Steps.{MayFollow, step_in}
use Rattle.pss_machine.specs.declared.reply.Reply.TheVariants as reply
use Rattle.pss_machine.specs.Kept.{Kept, name_of}
use Rattle.connector_parts.specs.Stands.{Stands}
use Rattle.connector_parts.proofs.Tellings.{if_ok}
use Rattle.data_calls.specs.declared.granting.Grant.{Grant}
use Rattle.data_calls.specs.declared.granting.Grant.TheVariants.{Refused}
use Rattle.data_calls.specs.Asking.{decision_on, IsGranted}
use Rattle.data_calls.specs.Copied.{MayFollow as MayBeFollowed}
use Rattle.data_calls.proofs.Taking.{with_accounts, none_where, some_there}
use Rattle.data_calls.proofs.Bodies.{may_follow, follow_busy, follow_takes}
use Rattle.data_calls.proofs.stepping.lead_off.Goals as goal

pub follow-requires : goal.follow-requires
follow-requires c = subst (λ (S : Schema). MayFollow S c.args.parts.now.accounts c.args.acting.owner c.args.followed.pid c.args.followed.to) (sym c.schema.ensures) (may_follow c.requires.1)

pub returns-in-Busy : goal.returns-in-Busy
returns-in-Busy c =
    if_ok (λ (grant : Grant). (k : Kept) → Stands (with_accounts c.args.parts.now c.follow.new.self) k → grant ≡ Refused (reply.Busy (name_of k c.in-Busy.other)))
    (λ (grant : Grant). (asked : Asked) (m : MayBeFollowed c.args.parts.now c.args.acting asked c.args.followed.pid c.args.followed.to) → IsGranted c.args.parts.now m.act.take.asks.kept (decision_on m.act.take.asks) c.args.acting asked grant (with_accounts c.args.parts.now c.follow.new.self)) c.held_up.result
    (λ grant said asked m.
    (let a = c.args.parts.now.accounts in
    let n = c.args.acting.owner in
    let p = c.args.followed.pid in
    let to = c.args.followed.to in
    let busy = subst (λ (S : Schema). (m : MayFollow S a n p to) (b : OwnerNo) → (c.in_ok-told.told ≡ told.Busy b) ↔ (blocker m.step.by.kept.owners n (step_in m.step).needs ≡ Some b)) c.schema.ensures c.in_ok-told.ensures.busy in
    let held = subst (λ (S : Schema). (m : MayFollow S a n p to) → IsSome (blocker m.step.by.kept.owners n (step_in m.step).needs) → AreAccounts S c.follow.new.self m.step.by.kept) c.schema.ensures c.in_ok-told.ensures.held_up in
    let is = (busy (may_follow m) c.in-Busy.other).0 c.in-Busy.is in
    let accounts = held (may_follow m) (some_there is) in
    subst (λ (g : Grant). IsGranted c.args.parts.now m.act.take.asks.kept (decision_on m.act.take.asks) c.args.acting asked g (with_accounts c.args.parts.now c.follow.new.self)) (sym (said m.act.take.asks.kept (record { accounts = accounts; attended = m.act.take.asks.at.stands.attended })))
    (follow_busy m c.in-Busy.other _ is refl (with_accounts c.args.parts.now c.follow.new.self) (record { schema = refl; limits = refl }) refl accounts)))
    c.held_up.ensures

pub returns-in_default : goal.returns-in_default
returns-in_default c asked m =
    let a = c.args.parts.now.accounts in
    let n = c.args.acting.owner in
    let p = c.args.followed.pid in
    let to = c.args.followed.to in
    let busy = subst (λ (S : Schema). (m : MayFollow S a n p to) (b : OwnerNo) → (c.in_ok-told.told ≡ told.Busy b) ↔ (blocker m.step.by.kept.owners n (step_in m.step).needs ≡ Some b)) c.schema.ensures c.in_ok-told.ensures.busy in
    let answered = subst (λ (S : Schema). (m : MayFollow S a n p to) → blocker m.step.by.kept.owners n (step_in m.step).needs ≡ None → plain_answer c.in_ok-told.told ≡ (step_in m.step).answer) c.schema.ensures c.in_ok-told.ensures.answer in
    let stepped = subst (λ (S : Schema). (m : MayFollow S a n p to) (s : SessionNo) (asked : Asked) → blocker m.step.by.kept.owners n (step_in m.step).needs ≡ None → AreAccounts S c.follow.new.self (after_step m.step.by.kept n s (step_in m.step) asked)) c.schema.ensures c.in_ok-told.ensures.stepped in
    let none = none_where (blocker m.act.take.asks.kept.owners n (step_in (may_follow m).step).needs) (λ b is. c.in_default.not-Busy b ((busy (may_follow m) b).1 is)) in
    follow_takes m (plain_answer c.in_ok-told.told) none (answered (may_follow m) none) _ (record { schema = refl; limits = refl }) refl (stepped (may_follow m) c.args.acting.session asked none)
