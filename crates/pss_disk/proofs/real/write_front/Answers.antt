use Rattle.std.proofs.Common.{◌-◌, ◌≤◌, length, take, drop, sym, subst, arith, length-take, length-drop}
use Rattle.std.specs.Io.KnownBytes.{Appends}
use Rattle.pss_disk.proofs.Spoken.{appends_then, appends_keeps, next_front}
use Rattle.pss_disk.proofs.real.write_front.Goals as goal
use Rattle.pss_disk.proofs.real.write_front.Goals.{in-Ok, in-Err}

pub loop-preserved : goal.loop-preserved
loop-preserved g c =
    let before = g.O.Write.contents c.args.out.now in
    let now = g.O.Write.contents c.loop.out in
    let later = g.O.Write.contents c.write.new.self in
    elim c.match-write.branch as (λ _. (c.match-write.count ≤ length c.args.bytes.now) × Appends before later (take c.match-write.count c.args.bytes.now)) [
      | in-Ok w ↦ (
        omega (arith, w.in-Ok.ensures.bound, length-drop c.loop.count c.args.bytes.now, length-take (length c.args.bytes.now - c.loop.count) (drop c.loop.count c.args.bytes.now)),
        appends_then before now later _ _ _ (next_front c.loop.count w.in-Ok.more c.match-write.count c.args.bytes.now w.count-is) c.loop.invariant.1 w.in-Ok.ensures.bytes,
      )
      | in-Err w ↦ (
        omega (arith, c.loop.invariant.0),
        appends_keeps before now later _ (subst (λ n. Appends before now (take n c.args.bytes.now)) (sym w.count-is) c.loop.invariant.1) w.in-Err.ensures.bytes,
      )
    ]
