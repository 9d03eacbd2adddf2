use Rattle.std.proofs.Common.{◌∙◌, ◌<◌, ◌||◌, ℕ, Bool, List, length, take, get_or, sym, ap, arith}
use Rattle.std.specs.List.{list_any}
use Rattle.std.proofs.lemmas.List.{take_all}
use Rattle.std.proofs.lemmas.List.Folds.{list_any_more}
use Rattle.psdl_check.specs.inner.Masks.{has_bit}
use Rattle.psdl_check.proofs.Masks.{no_bit, or_bit}
use Rattle.psdl_check.proofs.heirs.joined_mask.Goals as goal

pub loop-number-init : goal.loop-number-init
loop-number-init c k = no_bit k

pub loop-number-preserved : goal.loop-number-preserved
loop-number-preserved c k =
    let masks : List ℕ = c.args.masks.now in
    let numbers : List ℕ = c.args.numbers.now in
    let i : ℕ = c.loop-number.number-index in
    let test : ℕ → Bool = λ p. has_bit (get_or masks p 0) k in
    let lt : i < length numbers = omega (arith, c.loop-number-test.true) in
    or_bit c.loop-number.joined c.mask_at-joined.result k
    ∙ ap (λ (b : Bool). b || has_bit c.mask_at-joined.result k) (c.loop-number.invariant k)
    ∙ ap (λ (m : ℕ). list_any test (take i numbers) || has_bit m k) c.mask_at-joined.ensures
    ∙ sym (list_any_more test numbers i 0 lt)

pub returns : goal.returns
returns c k =
    let numbers : List ℕ = c.args.numbers.now in
    let test : ℕ → Bool = λ p. has_bit (get_or c.args.masks.now p 0) k in
    c.loop-number.invariant k ∙ ap (list_any test) (take_all c.loop-number.number-index numbers (omega (arith, c.loop-number-test.false)))
