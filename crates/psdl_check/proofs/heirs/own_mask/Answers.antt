use Rattle.std.proofs.Common.{◌∙◌, ◌%◌, ℕ, ap, arith}
use Rattle.std.proofs.lemmas.Nat.{one_shl}
use Rattle.psdl_check.specs.inner.Masks.{has_bit}
use Rattle.psdl_check.proofs.Masks.{own_bit, other_group}
use Rattle.psdl_check.proofs.heirs.own_mask.Goals as goal

pub returns-then-number-group : goal.returns-then-number-group
returns-then-number-group c k low = other_group c.args.number c.args.group k low c.if-number-group.true

pub returns : goal.returns
returns c k low = ap (λ (m : ℕ). has_bit m k) (one_shl (c.args.number % 64) 64 (omega arith)) ∙ own_bit c.args.number c.args.group k low c.if-number-group.false
