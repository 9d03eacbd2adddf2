use Rattle.std.proofs.Common.{◌++◌, ◌∷◌, [], ap, ◌∙◌}
use Rattle.type_layout.specs.Views.{plain_type, plain_values}
use Rattle.type_layout.specs.Defaults.{default}
use Rattle.type_layout.proofs.Joining.{one_copy, no_copy, one_field, no_field}
use Rattle.type_layout.proofs.defaults.+default_of.Goals as goal

pub array_of-loop-preserved : goal.array_of-loop-preserved
array_of-loop-preserved t c =
    one_copy (plain_values c.loop.values) (plain_values c.push.new.self) (default (plain_type c.args.item.now)) c.args.count c.loop.counter _ c.loop-test.true
    (c.in_ok-push.ensures.ok ∙ ap (λ v. plain_values c.loop.values ++ v ∷ []) c.in_ok-default_of.ensures)
    c.loop.invariant

pub array_of-returns : goal.array_of-returns
array_of-returns t c = no_copy (plain_values c.loop.values) (default (plain_type c.args.item.now)) c.args.count c.loop.counter _ c.loop-test.false c.loop.invariant

pub struct_of-loop-field-preserved : goal.struct_of-loop-field-preserved
struct_of-loop-field-preserved t c =
    one_field (plain_values c.loop-field.values) (plain_values c.push.new.self) c.args.fields.now c.loop-field.field-index c.field-item.result _ c.loop-field-test.true c.field-item.is
    (c.in_ok-push.ensures.ok ∙ ap (λ v. plain_values c.loop-field.values ++ v ∷ []) c.in_ok-field_default.ensures)
    c.loop-field.invariant

pub struct_of-returns : goal.struct_of-returns
struct_of-returns t c = no_field (plain_values c.loop-field.values) c.args.fields.now c.loop-field.field-index _ c.loop-field-test.false c.loop-field.invariant
