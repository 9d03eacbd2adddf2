use Rattle.std.proofs.Common.{sym, ap, ◌∙◌}
use Rattle.pss_machine.specs.Kept.{transaction_named}
use Rattle.pss_copies.proofs.Tying.{named_transaction}
use Rattle.connector_parts.proofs.Bounds.{own_at}
use Rattle.session_calls.proofs.Goings.{rollback_done, rollback_none}
use Rattle.session_calls.proofs.closing.rollback.Goals as goal

pub returns-in-Some : goal.returns-in-Some
returns-in-Some g c k at =
    (let named = (c.in-Some.ensures.machine k (c.titles.ensures c.args.parts.now.schema k at.stands.accounts) ∙ ap (transaction_named k) c.as_slice.ensures) in rollback_done c.args.parts.now k at c.args.transaction.now c.in-Some.owner named c.finish.new.self c.finish.ensures.rest
    (c.finish.ensures.finished k (own_at c.args.parts.now k at) (named_transaction k c.args.transaction.now c.in-Some.owner (sym named)) at.stands))

pub returns-in-None : goal.returns-in-None
returns-in-None g c k at = rollback_none c.args.parts.now k at c.args.transaction.now (c.in-None.ensures.machine k (c.titles.ensures c.args.parts.now.schema k at.stands.accounts) ∙ ap (transaction_named k) c.as_slice.ensures)
