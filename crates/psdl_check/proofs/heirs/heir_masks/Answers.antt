use Rattle.std.proofs.Common.{◌∙◌, ◌==◌, ◌||◌, ◌<◌, ◌+◌, ◌*◌, List, ℕ, length, length-set, get_or, sym, ap, arith}
use Rattle.std.proofs.lemmas.List.{length-replicate}
use Rattle.std.specs.List.{list_any}
use Rattle.psdl_check.specs.inner.Masks.{has_bit}
use Rattle.psdl_check.proofs.Masks.{told_more, bit_there}
use Rattle.psdl_check.proofs.heirs.heir_masks.Goals as goal

pub loop-number-init : goal.loop-number-init
loop-number-init c = record { sized = search (arith, length-replicate); told = λ k low n never. absurd (omega (arith, never)) }

pub loop-number-preserved : goal.loop-number-preserved
loop-number-preserved c =
    let graph : List (List ℕ) = c.args.graph.now in
    let i : ℕ = c.loop-number.number in
    let masks : List ℕ = c.loop-number.masks.items in
    let group : ℕ = c.args.group in
    let lt : i < length graph = omega (arith, c.loop-number-test.true, c.len-number-end.ensures) in
    record {
      sized = length-set masks i c.heir_mask-mask.result ∙ c.loop-number.invariant.sized;
      told = told_more graph group i masks c.heir_mask-mask.result c.requires lt c.loop-number.invariant.sized c.loop-number.invariant.told
          (λ k low.
          c.heir_mask-mask.ensures k low
          ∙ ap (λ (ms : List ℕ). (i == group * 64 + k) || list_any (λ p. has_bit (get_or ms p 0) k) c.parents.result.now) c.deref.ensures.value
          ∙ ap (λ (ps : List ℕ). (i == group * 64 + k) || list_any (λ p. has_bit (get_or masks p 0) k) ps) c.parents.ensures.parents);
    }

pub returns : goal.returns
returns c n k lt low =
    let masks : List ℕ = c.loop-number.masks.items in
    sym (bit_there masks k n) ∙ c.loop-number.invariant.told k low n (omega (arith, lt, c.loop-number-test.false, c.len-number-end.ensures))
