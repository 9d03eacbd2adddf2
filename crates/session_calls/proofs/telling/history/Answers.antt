use Rattle.std.proofs.Common.{ℕ, ap, ◌∙◌}
use Rattle.pss_machine.specs.declared.command.Command.TheVariants as command
use Rattle.pss_machine.specs.declared.reply.Reply.TheVariants as reply
use Rattle.connector_parts.proofs.Decisions.{replied}
use Rattle.session_calls.proofs.Tellings.{told_history}
use Rattle.session_calls.proofs.telling.history.Goals as goal

pub returns : goal.returns
returns c k at =
    replied c.args.parts.now c.args.parts.now k command.History _ _ (ap (λ (n : ℕ). reply.History n c.in_ok-recent.field-0) c.commits.ensures ∙ ap (reply.History c.history-history.result.now.commits) c.in_ok-recent.ensures)
    (told_history c.args.parts.now k at c.history-history.result.now (c.history-history.ensures c.args.parts.now.schema k at.stands.accounts))
