use Rattle.std.proofs.Common.{◌∙◌, arith, sym, rules}
use Rattle.psdl_check.proofs.Numbers.{found_here, none_more}
use Rattle.psdl_check.proofs.key_records.place_of.Goals as goal

pub returns-then-is_called-clause-place : goal.returns-then-is_called-clause-place
returns-then-is_called-clause-place c =
    found_here c.args.name.now c.args.members.now c.loop-place.place c.index-members-place.result c.loop-place-test.true (search rules) (sym c.is_called.ensures ∙ c.if-is_called.true) c.loop-place.invariant.none

pub loop-place-preserved : goal.loop-place-preserved
loop-place-preserved c = record {
  within = omega (arith, c.loop-place-test.true);
  none = none_more c.args.name.now c.args.members.now c.loop-place.place c.index-members-place.result c.loop-place-test.true (search rules) (sym c.is_called.ensures ∙ c.if-is_called.false) c.loop-place.invariant.none;
}
