use Rattle.std.proofs.Common.{◌∙◌, ◌||◌, ◌==◌, ◌+◌, ◌*◌, Bool, ap}
use Rattle.psdl_check.specs.inner.Masks.{has_bit}
use Rattle.psdl_check.proofs.Masks.{or_bit}
use Rattle.psdl_check.proofs.heirs.heir_mask.Goals as goal

pub returns : goal.returns
returns c k low =
    or_bit c.own_mask.result c.joined_mask.result k
    ∙ ap (λ (b : Bool). b || has_bit c.joined_mask.result k) (c.own_mask.ensures k low)
    ∙ ap (λ (b : Bool). (c.args.number == c.args.group * 64 + k) || b) (c.joined_mask.ensures k)
