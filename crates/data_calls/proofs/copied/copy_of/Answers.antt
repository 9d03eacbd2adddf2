use Rattle.std.proofs.Common.{sym, ◌∙◌}
use Rattle.data_calls.proofs.Standing.{copied_has, copied_none}
use Rattle.data_calls.proofs.copied.copy_of.Goals as goal

pub returns-then-has_body : goal.returns-then-has_body
returns-then-has_body c k at =
    c.value.ensures
    ∙ copied_has k c.args.parts.now.attended c.copies-copies.result.now c.copies-copies.ensures c.copies_hold.ensures at.stands.attended c.args.session c.args.number c.in-Some.pid c.in-Some.ensures (sym c.has_body.ensures ∙ c.if-has_body.true)

pub returns-else-has_body : goal.returns-else-has_body
returns-else-has_body c k at =
    copied_none k c.args.parts.now.attended c.copies-copies.result.now c.copies-copies.ensures c.copies_hold.ensures at.stands.attended c.args.session c.args.number c.in-Some.pid c.in-Some.ensures (sym c.has_body.ensures ∙ c.if-has_body.false)
