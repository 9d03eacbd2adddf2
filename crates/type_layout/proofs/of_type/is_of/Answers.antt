use Rattle.std.proofs.Common.{sym, ◌∙◌}
use Rattle.type_layout.specs.Views.{plain_type, plain_value}
use Rattle.type_layout.proofs.OfType.{type_tells}
use Rattle.type_layout.proofs.of_type.is_of.Goals as goal

pub returns : goal.returns
returns c =
    let tells = type_tells (plain_type c.args.ty.now) (plain_value c.args.value.now) in
    (λ h. tells.0 (sym c.passes.ensures ∙ h), λ h. c.passes.ensures ∙ tells.1 h)
