use Rattle.std.proofs.Common.{◌<◌, ℕ, length, arith, get_or, length-set, ◌∙◌, Some}
use Rattle.psdl_lineage.proofs.Firsts.{there_at, given_more}
use Rattle.psdl_lineage.proofs.descendants.give.Goals as goal

pub index_mut-requires : goal.index_mut-requires
index_mut-requires c =
    omega (arith, c.requires (get_or c.args.numbers.now c.loop-number.number-index 0) (there_at c.args.numbers.now c.loop-number.number-index c.loop-number-test.true), c.loop-number.invariant.len, c.loop-number.firsts.ok.0)

pub loop-number-preserved : goal.loop-number-preserved
loop-number-preserved c =
    let i : ℕ = get_or c.args.numbers.now c.loop-number.number-index 0 in
    let lt : i < length c.loop-number.firsts.items =
    omega (arith, c.requires i (there_at c.args.numbers.now c.loop-number.number-index c.loop-number-test.true), c.loop-number.invariant.len) in
    record {
      len = length-set c.loop-number.firsts.items i (Some c.args.root) ∙ c.loop-number.invariant.len;
      given = given_more c.loop-number.firsts.items c.args.firsts.now.items c.args.numbers.now c.loop-number.number-index c.args.root c.loop-number-test.true lt c.loop-number.invariant.given;
    }
