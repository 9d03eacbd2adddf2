use Rattle.std.proofs.Common.{◌≡◌, sym, ◌∙◌}
use Rattle.type_layout.specs.Types.{values_of}
use Rattle.type_layout.specs.Values.{layout_fields}
use Rattle.type_layout.specs.Testing.{are_of}
use Rattle.type_layout.proofs.OfType.{fields_tell}
use Rattle.type_layout.proofs.of_type.is_record.Goals as goal

pub returns : goal.returns
returns c =
    let values = c.as_slice-2.ensures ∙ c.values.view_is in
    let is : c.are_of_members.result ≡ are_of (layout_fields c.args.layout.now.members) (values_of c.args.values.now) = c.are_of_members.ensures ∙ (λ i. are_of (layout_fields (c.as_slice.ensures i)) (values_of (values i))) in
    let tells = fields_tell (layout_fields c.args.layout.now.members) (values_of c.args.values.now) in
    (λ h. tells.0 (sym is ∙ h), λ h. is ∙ tells.1 h)
