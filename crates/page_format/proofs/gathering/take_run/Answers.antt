use Rattle.std.proofs.Common.{◌+◌, ◌*◌, ◌-◌, ◌≤◌, arith, drop, get_or, length, length-drop, length-take}
use Rattle.page_format.proofs.Runs.{run_ends, run_in_list}
use Rattle.page_format.proofs.gathering.take_run.Goals as goal

pub read_at-requires : goal.read_at-requires
read_at-requires g c =
    let slots = c.args.ahead.now.slots.now in
    let count = c.run_of-count.result in
    let ends : get_or slots c.args.ahead.now.k 0 + count ≤ 16384 =
    run_ends slots c.args.ahead.now.k count c.run_of-count.ensures.some (omega (arith, c.run_of-count.ensures.within, c.requires.within, length-drop c.args.ahead.now.k slots, length-take (length slots - c.args.ahead.now.k) (drop c.args.ahead.now.k slots))) c.requires.slots (run_in_list slots c.args.ahead.now.k count c.run_of-count.ensures.run) in
    record { within = omega (arith, ends, c.start_of.ensures, length-take (count * 16384) c.args.octets.now) }

pub add_pages-requires-clause-run : goal.add_pages-requires-clause-run
add_pages-requires-clause-run g c = run_in_list c.args.ahead.now.slots.now c.args.ahead.now.k c.run_of-count.result c.run_of-count.ensures.run
