use Rattle.std.proofs.Common.{refl, sym, ap, ◌∙◌, subst}
use Rattle.std.specs.Prelude.{Result}
use Rattle.pss_machine.specs.declared.command.Command.TheVariants as command
use Rattle.pss_machine.specs.declared.reply.Reply.{Reply}
use Rattle.pss_machine.specs.Kept.{Kept, copies_of}
use Rattle.pss_machine.specs.Asking.{Asked, creating}
use Rattle.pss_asking.specs.Telling.{Tells, plain_asked}
use Rattle.connector_parts.specs.Stands.{IsAt, Comes}
use Rattle.connector_parts.proofs.Tellings.{if_ok}
use Rattle.data_calls.specs.Asking.{Asks, decision_on, Follows}
use Rattle.data_calls.proofs.Fair.{creating_right}
use Rattle.data_calls.proofs.Words.{named_as, any_asks, comes, idle}
use Rattle.data_calls.proofs.making.create.Goals as goal

pub ask-requires : goal.ask-requires
ask-requires g c =
    let k = c.requires.any.kept in
    let at = c.requires.any.at in
    let named = named_as c.as_slice.result.now c.args.name.now c.as_slice.ensures (c.in-Ok.ensures k at) in
    any_asks c.args.parts.now k at c.args.name.now c.in-Ok.acting named (command.Create c.args.name.now c.args.home.now c.args.values.now) (λ s session. creating c.args.parts.now.schema k.next session c.args.home.now c.args.values.now) (λ owners. refl)
    (creating_right c.args.parts.now.schema (copies_of k c.in-Ok.acting.session) k.next named.is.session c.args.home.now c.args.values.now) c.create-asked.result
    (subst (Tells plain_asked c.create-asked.result) (ap (λ S. creating S c.asking.result.next named.is.session c.as_slice-in-Ok.result.now c.args.values.now) c.asking.ensures.schema ∙ ap (λ n. creating c.args.parts.now.schema n named.is.session c.as_slice-in-Ok.result.now c.args.values.now) (c.asking.ensures.next k at) ∙ ap (λ h. creating c.args.parts.now.schema k.next named.is.session h c.args.values.now) c.as_slice-in-Ok.ensures) (c.create-asked.ensures named.is.session (named.is.access_is ∙ sym c.asking.ensures.access)))

pub returns-in-Ok : goal.returns-in-Ok
returns-in-Ok g c =
    if_ok
    (λ (reply : Reply). (told : Result Asked Reply) (a : Asks c.args.parts.now c.in-Ok.acting told) → Tells plain_asked c.create-asked.result told → Follows c.args.parts.now a.kept (decision_on a) reply c.ask.new.parts)
    (λ (reply : Reply). (k : Kept) → IsAt c.args.parts.now k → Comes c.args.parts.now k (command.Create c.args.name.now c.args.home.now c.args.values.now) reply c.ask.new.parts)
    c.ask.result
    (λ reply h k at.
    let named = named_as c.as_slice.result.now c.args.name.now c.as_slice.ensures (c.in-Ok.ensures k at) in
    comes c.args.parts.now k at c.args.name.now c.in-Ok.acting named (command.Create c.args.name.now c.args.home.now c.args.values.now) (λ s session. creating c.args.parts.now.schema k.next session c.args.home.now c.args.values.now) (λ owners. refl)
    (creating_right c.args.parts.now.schema (copies_of k c.in-Ok.acting.session) k.next named.is.session c.args.home.now c.args.values.now) c.create-asked.result
    (subst (Tells plain_asked c.create-asked.result) (ap (λ S. creating S c.asking.result.next named.is.session c.as_slice-in-Ok.result.now c.args.values.now) c.asking.ensures.schema ∙ ap (λ n. creating c.args.parts.now.schema n named.is.session c.as_slice-in-Ok.result.now c.args.values.now) (c.asking.ensures.next k at) ∙ ap (λ h. creating c.args.parts.now.schema k.next named.is.session h c.args.values.now) c.as_slice-in-Ok.ensures) (c.create-asked.ensures named.is.session (named.is.access_is ∙ sym c.asking.ensures.access))) reply c.ask.new.parts h)
    c.ask.ensures

pub returns-in-Err : goal.returns-in-Err
returns-in-Err g c k at = idle c.args.parts.now k at c.as_slice.result.now c.args.name.now c.as_slice.ensures c.in-Err.reply (c.in-Err.ensures k at) (command.Create c.args.name.now c.args.home.now c.args.values.now) (λ s session. creating c.args.parts.now.schema k.next session c.args.home.now c.args.values.now) (λ owners. refl)
