use Rattle.std.proofs.Common.{◌<◌, ◌∙◌, ℕ, length, get_or, sym, refl, arith, length-set, true}
use Rattle.psdl_lineage.proofs.Firsts.{there_at}
use Rattle.psdl_members.proofs.Twice.{noted_start, noted_end, one_noted, one_twice}
use Rattle.psdl_members.proofs.type_clash.comes_twice.Goals as goal

pub loop-number-init : goal.loop-number-init
loop-number-init c = record { sized = refl; noted = λ xs w. noted_start c.args.marks.now xs c.args.numbers.now w }

pub has-requires : goal.has-requires
has-requires c =
    omega (arith, c.requires (get_or c.args.numbers.now c.loop-number.number-index 0) (there_at c.args.numbers.now c.loop-number.number-index c.loop-number-test.true), c.loop-number.invariant.sized)

pub mark-requires : goal.mark-requires
mark-requires c =
    omega (arith, c.requires (get_or c.args.numbers.now c.loop-number.number-index 0) (there_at c.args.numbers.now c.loop-number.number-index c.loop-number-test.true), c.loop-number.invariant.sized)

pub loop-number-preserved : goal.loop-number-preserved
loop-number-preserved c =
    let i : ℕ = c.loop-number.number-index in
    let x : ℕ = get_or c.args.numbers.now i 0 in
    let below : x < length c.loop-number.marks = omega (arith, c.requires x (there_at c.args.numbers.now i c.loop-number-test.true), c.loop-number.invariant.sized) in
    record {
      sized = rw c.mark.ensures (length-set c.loop-number.marks x true ∙ c.loop-number.invariant.sized);
      noted = λ xs w.
          rw c.mark.ensures (one_noted c.loop-number.marks xs c.args.numbers.now i c.loop-number-test.true (c.loop-number.invariant.noted xs w) below (sym c.has.ensures ∙ c.if-has.false));
    }

pub returns-then-has-clause-noted : goal.returns-then-has-clause-noted
returns-then-has-clause-noted c xs w =
    one_twice c.loop-number.marks xs c.args.numbers.now c.loop-number.number-index c.loop-number-test.true (c.loop-number.invariant.noted xs w) (sym c.has.ensures ∙ c.if-has.true)

pub returns-clause-noted : goal.returns-clause-noted
returns-clause-noted c xs w =
    noted_end c.loop-number.marks xs c.args.numbers.now c.loop-number.number-index (omega (arith, c.loop-number-test.false)) (c.loop-number.invariant.noted xs w)
