use Rattle.std.proofs.Common.{sym, ◌∙◌}
use Rattle.type_layout.proofs.OfType.{too_many}
use Rattle.type_layout.proofs.of_type.+of_type.Goals as goal

pub are_of-returns-in_default : goal.are_of-returns-in_default
are_of-returns-in_default t c =
    sym (too_many c.args.fields.now c.loop-field.field-index c.loop-field.remaining.now c.loop-field-test.false c.in_default.len_at_least) ∙ c.loop-field.invariant
