use Rattle.std.proofs.Common.{◌≡◌, ◌+◌, suc, ◌∙◌, refl, arith}
use Rattle.pss_copies.proofs.Settled.{bodies_none, bodies_more, bodies_all}
use Rattle.pss_copies.proofs.settling.detach_bodies.Goals as goal

pub loop-pid-init : goal.loop-pid-init
loop-pid-init g c = record { lasts = refl; left = bodies_none c.args.view c.args.copies.now c.copies_hold.ensures }

pub loop-pid-preserved : goal.loop-pid-preserved
loop-pid-preserved g c =
    let next : c.loop-pid.pid-index + 1 ≡ suc c.loop-pid.pid-index = omega arith in
    record {
      lasts = c.detach_body.ensures.lasts ∙ c.loop-pid.invariant.lasts;
      left = bodies_more c.args.view c.args.pids.now c.loop-pid.pid-index (c.loop-pid.pid-index + 1) _ (record { home = 0; serial = 0 }) c.args.copies.now c.loop-pid.copies c.detach_body.new.self next c.loop-pid-test.true refl c.loop-pid.invariant.left c.detach_body.ensures.left;
    }

pub returns : goal.returns
returns g c = record {
  lasts = c.loop-pid.invariant.lasts;
  left = bodies_all c.args.view c.args.pids.now c.loop-pid.pid-index c.args.copies.now c.loop-pid.copies c.loop-pid-test.false c.loop-pid.invariant.left;
}
