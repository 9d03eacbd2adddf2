use Rattle.std.proofs.Common.{refl, ap, ◌∙◌}
use Rattle.pss_machine.specs.declared.command.Command.TheVariants as command
use Rattle.pss_machine.specs.declared.reply.Reply.TheVariants as reply
use Rattle.pss_machine.specs.Names.{home_named}
use Rattle.pss_machine.specs.Deciding.{telling_home}
use Rattle.connector_parts.proofs.Decisions.{no_session, found_as, replied}
use Rattle.session_calls.proofs.Tellings.{told_home, told_no_home}
use Rattle.session_calls.proofs.telling.home.Goals as goal

pub returns-in_default : goal.returns-in_default
returns-in_default c k at = no_session c.args.parts.now k at c.args.name.now _ (command.Home c.args.name.now c.args.word.now) (λ s session. telling_home c.args.parts.now.schema c.args.word.now) refl c.as_slice.ensures (c.in_default.ensures k at.stands)

pub returns : goal.returns
returns c k at =
    replied c.args.parts.now c.args.parts.now k (command.Home c.args.name.now c.args.word.now) _ _ (ap (reply.HomeFound c.in-Some-home.home) c.in_ok-name.ensures)
    (told_home c.args.parts.now k at c.args.name.now c.in-Some.field-0 (found_as k _ c.args.name.now c.in-Some.field-0 c.as_slice.ensures (c.in-Some.ensures k at.stands)) c.args.word.now c.in-Some-home.home (c.in-Some-home.ensures ∙ ap (home_named c.args.parts.now.schema) c.as_slice-2.ensures))

pub returns-in_default-home : goal.returns-in_default-home
returns-in_default-home c k at =
    told_no_home c.args.parts.now k at c.args.name.now c.in-Some.field-0 (found_as k _ c.args.name.now c.in-Some.field-0 c.as_slice.ensures (c.in-Some.ensures k at.stands)) c.args.word.now (c.in_default-home.ensures ∙ ap (home_named c.args.parts.now.schema) c.as_slice-2.ensures)
