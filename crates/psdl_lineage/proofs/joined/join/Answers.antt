use Rattle.std.proofs.Common.{◌≡◌, ◌∙◌, get_or, arith}
use Rattle.std.proofs.lemmas.Grind.{get_or_default_zero}
use Rattle.psdl_lineage.proofs.Firsts.{there_at}
use Rattle.psdl_lineage.proofs.Joining.{joined_more}
use Rattle.psdl_lineage.proofs.joined.join.Goals as goal

pub add-requires-clause-below : goal.add-requires-clause-below
add-requires-clause-below c =
    let is : c.number-item.result ≡ get_or c.args.numbers.now c.loop-number.number-index 0 = c.number-item.is ∙ get_or_default_zero c.args.numbers.now c.loop-number.number-index c.number-item.result c.loop-number-test.true in
    omega (arith, is, c.requires.below (get_or c.args.numbers.now c.loop-number.number-index 0) (there_at c.args.numbers.now c.loop-number.number-index c.loop-number-test.true), c.loop-number.invariant.sized)

pub loop-number-preserved : goal.loop-number-preserved
loop-number-preserved c =
    let is : c.number-item.result ≡ get_or c.args.numbers.now c.loop-number.number-index 0 = c.number-item.is ∙ get_or_default_zero c.args.numbers.now c.loop-number.number-index c.number-item.result c.loop-number-test.true in
    record {
      sized = c.in_ok-add.ensures.sized ∙ c.loop-number.invariant.sized;
      joined = c.in_ok-add.ensures.joined;
      items =
          joined_more c.args.joined.now.items c.args.numbers.now c.loop-number.number-index c.loop-number.joined.items c.add.new.joined.items c.loop-number-test.true c.loop-number.invariant.items
          (rw is at c.in_ok-add.ensures.items);
    }
