use Rattle.std.proofs.Common.{refl, sym, ap, ◌∙◌, subst}
use Rattle.std.specs.Prelude.{Result}
use Rattle.pss_machine.specs.declared.command.Command.TheVariants as command
use Rattle.pss_machine.specs.declared.reply.Reply.{Reply}
use Rattle.pss_machine.specs.Kept.{Kept, copies_of}
use Rattle.pss_machine.specs.Asking.{Asked, setting}
use Rattle.pss_asking.specs.Telling.{Tells, plain_asked}
use Rattle.connector_parts.specs.Stands.{IsAt, Comes}
use Rattle.connector_parts.proofs.Tellings.{if_ok}
use Rattle.data_calls.specs.Asking.{Asks, decision_on, Follows}
use Rattle.data_calls.proofs.Fair.{setting_right}
use Rattle.data_calls.proofs.Words.{named_as, any_asks, comes, idle}
use Rattle.data_calls.proofs.changing.set.Goals as goal

pub ask-requires : goal.ask-requires
ask-requires g c =
    let k = c.requires.any.kept in
    let at = c.requires.any.at in
    let named = named_as c.as_slice.result.now c.args.name.now c.as_slice.ensures (c.in-Ok.ensures k at) in
    any_asks c.args.parts.now k at c.args.name.now c.in-Ok.acting named (command.Set c.args.name.now c.args.entry c.args.member.now c.args.value.now) (λ s session. setting c.args.parts.now.schema session (copies_of k s) c.args.entry c.args.member.now c.args.value.now) (λ owners. refl)
    (setting_right c.args.parts.now.schema (copies_of k c.in-Ok.acting.session) named.is.session c.args.entry c.args.member.now c.args.value.now) c.set-asked.result
    (subst (Tells plain_asked c.set-asked.result) (ap (λ S. setting S named.is.session (copies_of k c.in-Ok.acting.session) c.args.entry c.as_slice-in-Ok.result.now c.args.value.now) c.asking.ensures.schema ∙ ap (λ w. setting c.args.parts.now.schema named.is.session (copies_of k c.in-Ok.acting.session) c.args.entry w c.args.value.now) c.as_slice-in-Ok.ensures) (c.set-asked.ensures named.is.session (copies_of k c.in-Ok.acting.session) c.args.entry (named.is.access_is ∙ sym c.asking.ensures.access) (c.named-entry.ensures k at)))

pub returns-in-Ok : goal.returns-in-Ok
returns-in-Ok g c =
    if_ok
    (λ (reply : Reply). (told : Result Asked Reply) (a : Asks c.args.parts.now c.in-Ok.acting told) → Tells plain_asked c.set-asked.result told → Follows c.args.parts.now a.kept (decision_on a) reply c.ask.new.parts)
    (λ (reply : Reply). (k : Kept) → IsAt c.args.parts.now k → Comes c.args.parts.now k (command.Set c.args.name.now c.args.entry c.args.member.now c.args.value.now) reply c.ask.new.parts)
    c.ask.result
    (λ reply h k at.
    let named = named_as c.as_slice.result.now c.args.name.now c.as_slice.ensures (c.in-Ok.ensures k at) in
    comes c.args.parts.now k at c.args.name.now c.in-Ok.acting named (command.Set c.args.name.now c.args.entry c.args.member.now c.args.value.now) (λ s session. setting c.args.parts.now.schema session (copies_of k s) c.args.entry c.args.member.now c.args.value.now) (λ owners. refl)
    (setting_right c.args.parts.now.schema (copies_of k c.in-Ok.acting.session) named.is.session c.args.entry c.args.member.now c.args.value.now) c.set-asked.result
    (subst (Tells plain_asked c.set-asked.result) (ap (λ S. setting S named.is.session (copies_of k c.in-Ok.acting.session) c.args.entry c.as_slice-in-Ok.result.now c.args.value.now) c.asking.ensures.schema ∙ ap (λ w. setting c.args.parts.now.schema named.is.session (copies_of k c.in-Ok.acting.session) c.args.entry w c.args.value.now) c.as_slice-in-Ok.ensures) (c.set-asked.ensures named.is.session (copies_of k c.in-Ok.acting.session) c.args.entry (named.is.access_is ∙ sym c.asking.ensures.access) (c.named-entry.ensures k at))) reply c.ask.new.parts h)
    c.ask.ensures

pub returns-in-Err : goal.returns-in-Err
returns-in-Err g c k at = idle c.args.parts.now k at c.as_slice.result.now c.args.name.now c.as_slice.ensures c.in-Err.reply (c.in-Err.ensures k at) (command.Set c.args.name.now c.args.entry c.args.member.now c.args.value.now) (λ s session. setting c.args.parts.now.schema session (copies_of k s) c.args.entry c.args.member.now c.args.value.now) (λ owners. refl)
