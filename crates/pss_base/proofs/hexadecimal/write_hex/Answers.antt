use Rattle.std.proofs.Common.{◌≡◌, ◌<◌, ◌-◌, ◌++◌, ◌∙◌, ap, sym, length, take, replicate, arith}
use Rattle.std.proofs.lemmas.Grind.{common_steps}
use Rattle.std.proofs.Math.Seq.{drop-length}
use Rattle.std.proofs.lemmas.List.{take-replicate, take-set-le, append-nil}
use Rattle.pss_base.specs.Hexadecimal.{hex_digits}
use Rattle.pss_base.proofs.Digits.{digit_more, all_written, zeros_are_left}
use Rattle.pss_base.proofs.hexadecimal.write_hex.Goals as goal

pub digits-preserved : goal.digits-preserved
digits-preserved c =
    let kept = c.digits.invariant in
    let some : 0 < c.digits.at = omega arith in
    record {
      within = grind (arith, common_steps);
      front = digit_more c.digits.digits c.digits.at c.args.number c.digits.left c.hex_digit.result kept.front some kept.within c.hex_digit.ensures;
      zeros = λ m le. take-set-le m c.digits.digits (c.digits.at - 1) c.hex_digit.result le ∙ kept.zeros m (omega arith);
    }

pub returns-else-at-gt0 : goal.returns-else-at-gt0
returns-else-at-gt0 c =
    let none : c.digits.at ≡ 0 = omega arith in
    let size : length c.args.digits.now ≡ length c.digits.digits = sym (c.digits.auto.digits ∙ c.fill.ensures.len) in
    rw size (all_written c.digits.digits c.digits.at c.args.number c.digits.left c.digits.invariant.front none)

pub returns-after-digits : goal.returns-after-digits
returns-after-digits c =
    let none : c.digits.left ≡ 0 = omega arith in
    let size : length c.args.digits.now ≡ length c.digits.digits = sym (c.digits.auto.digits ∙ c.fill.ensures.len) in
    rw size (zeros_are_left c.digits.digits c.digits.at c.args.number c.digits.left c.digits.invariant.front (c.digits.invariant.zeros c.digits.at (omega arith)) none)

pub digits-init : goal.digits-init
digits-init c =
    let filled : c.fill.new.self ≡ replicate (length c.args.digits.now) 48 = c.fill.ensures.after (λ y is. is) in
    record {
      within = omega arith;
      front = sym (ap (λ xs. hex_digits (length c.fill.new.self) c.args.number ++ xs) (drop-length c.fill.new.self) ∙ append-nil (hex_digits (length c.fill.new.self) c.args.number));
      zeros = λ m le. ap (take m) filled ∙ take-replicate m (length c.args.digits.now) 48 (rw (sym c.fill.ensures.len) le);
    }
