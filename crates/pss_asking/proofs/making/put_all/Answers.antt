use Rattle.std.proofs.Common.{refl, arith}
use Rattle.type_layout.specs.Views.{plain_values}
use Rattle.pss_asking.proofs.Putting.{one_put}
use Rattle.pss_asking.proofs.making.put_all.Goals as goal

pub loop-place-preserved : goal.loop-place-preserved
loop-place-preserved c =
    one_put c.args.numbers.now (plain_values c.args.given.now) (plain_values c.args.values.now) c.loop-place.place _ _ (plain_values c.loop-place.given) (plain_values c.loop-place.values) (plain_values c.put_given.new.given) (plain_values c.put_given.new.values) (omega arith) c.loop-place-test.true refl
    c.put_given.ensures.values c.put_given.ensures.rest c.loop-place.invariant
