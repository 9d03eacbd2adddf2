use Rattle.std.proofs.Common.{◌≡◌, None, Some, refl, sym, ap, ◌∙◌, subst}
use Rattle.pss_base.specs.declared.session.SessionNo.{SessionNo}
use Rattle.type_layout.specs.declared.schema.Schema.{Schema}
use Rattle.pss_machine.specs.Operations.{FindPid, Ask, Found, Gone, plain_answer}
use Rattle.pss_machine.specs.Owners.{blocker, view}
use Rattle.pss_machine.specs.Asking.{Asked}
use Rattle.pss_machine.specs.Moving.{after_step}
use Rattle.owner_accounts.specs.Accounts.{AreAccounts}
use Rattle.owner_accounts.specs.Steps.{MayStep, step_in}
use Rattle.data_calls.proofs.Taking.{may_look, look_free, look_takes, lead_found, lead_gone, plain_found}
use Rattle.data_calls.proofs.stepping.lead.Goals as goal

pub act-requires : goal.act-requires
act-requires c = subst (λ (S : Schema). MayStep S c.args.parts.now.accounts c.args.acting.owner (Ask (FindPid c.args.pid))) (sym c.schema-schema.ensures) (may_look c.requires.1.take c.args.pid)

pub returns-in-Found : goal.returns-in-Found
returns-in-Found c asked m =
    let a = c.args.parts.now.accounts in
    let n = c.args.acting.owner in
    let q = c.args.pid in
    let answered = subst (λ (S : Schema). (m : MayStep S a n (Ask (FindPid q))) → blocker m.by.kept.owners n (step_in m).needs ≡ None → plain_answer c.in_ok-act.field-0 ≡ (step_in m).answer) c.schema-schema.ensures c.in_ok-act.ensures.answer in
    let stepped = subst (λ (S : Schema). (m : MayStep S a n (Ask (FindPid q))) (s : SessionNo) (asked : Asked) → blocker m.by.kept.owners n (step_in m).needs ≡ None → AreAccounts S c.act.new.self (after_step m.by.kept n s (step_in m) asked)) c.schema-schema.ensures c.in_ok-act.ensures.stepped in
    let V = view m.take.asks.kept.catalog m.take.asks.is.owner in
    let free = look_free m.take _ m.told q in
    let found = lead_found V q _ (sym (ap plain_answer c.in-Found.is) ∙ answered (may_look m.take q) free) in
    look_takes m.take (Found q) (m.told ∙ ap Some found) q _ (record { schema = refl; limits = refl }) refl (stepped (may_look m.take q) c.args.acting.session asked free)

pub returns : goal.returns
returns c asked m =
    let a = c.args.parts.now.accounts in
    let n = c.args.acting.owner in
    let q = c.args.pid in
    let answered = subst (λ (S : Schema). (m : MayStep S a n (Ask (FindPid q))) → blocker m.by.kept.owners n (step_in m).needs ≡ None → plain_answer c.in_ok-act.field-0 ≡ (step_in m).answer) c.schema-schema.ensures c.in_ok-act.ensures.answer in
    let stepped = subst (λ (S : Schema). (m : MayStep S a n (Ask (FindPid q))) (s : SessionNo) (asked : Asked) → blocker m.by.kept.owners n (step_in m).needs ≡ None → AreAccounts S c.act.new.self (after_step m.by.kept n s (step_in m) asked)) c.schema-schema.ensures c.in_ok-act.ensures.stepped in
    let V = view m.take.asks.kept.catalog m.take.asks.is.owner in
    let free = look_free m.take _ m.told q in
    let gone = lead_gone V q (plain_answer c.in_ok-act.field-0) (λ p is. c.in_default.not-Found p (plain_found c.in_ok-act.field-0 p is)) (answered (may_look m.take q) free) in
    look_takes m.take (Gone q) (m.told ∙ ap Some gone) q _ (record { schema = refl; limits = refl }) refl (stepped (may_look m.take q) c.args.acting.session asked free)
