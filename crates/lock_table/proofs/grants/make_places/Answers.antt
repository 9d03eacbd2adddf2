use Rattle.std.proofs.Common.{sym, ap, get_or}
use Rattle.lock_table.proofs.Added.{some_is, contains_map, no_rows, more_rows, grows_trans}
use Rattle.lock_table.proofs.grants.make_places.Goals as goal

pub returns-in_err-make_place-clause-ready : goal.returns-in_err-make_place-clause-ready
returns-in_err-make_place-clause-ready c =
    c.make_place.ensures.ready c.args.locks.now (contains_map (λ lock. lock.resource) c.args.locks.now (get_or c.args.locks.now 0 c.index-locks-0.result) (0, c.requires.some, sym (ap (get_or c.args.locks.now 0) c.index-locks-0.is))) c.requires.ready

pub loop-at-init : goal.loop-at-init
loop-at-init c = record {
  grows = c.make_place.ensures.grows;
  ready = c.make_place.ensures.ready c.args.locks.now (contains_map (λ lock. lock.resource) c.args.locks.now (get_or c.args.locks.now 0 c.index-locks-0.result) (0, c.requires.some, sym (ap (get_or c.args.locks.now 0) c.index-locks-0.is))) c.requires.ready;
  rows =
      more_rows c.args.links.now c.make_place.new.links c.args.locks.now 0 (get_or c.args.locks.now 0 c.index-locks-0.result) c.requires.some (ap (get_or c.args.locks.now 0) c.index-locks-0.is) (no_rows c.args.links.now c.args.locks.now)
      c.make_place.ensures.grows (some_is _ _ c.in_ok-make_place.ensures.ok.place);
}

pub returns-in_err-make_place-2-clause-grows : goal.returns-in_err-make_place-2-clause-grows
returns-in_err-make_place-2-clause-grows c = grows_trans _ _ _ c.loop-at.invariant.grows c.make_place-in-loop-at.ensures.grows

pub returns-in_err-make_place-2-clause-ready : goal.returns-in_err-make_place-2-clause-ready
returns-in_err-make_place-2-clause-ready c =
    c.make_place-in-loop-at.ensures.ready c.args.locks.now (contains_map (λ lock. lock.resource) c.args.locks.now (get_or c.args.locks.now c.loop-at.at c.index-locks-at.result) (c.loop-at.at, c.loop-at-test.true, sym (ap (get_or c.args.locks.now c.loop-at.at) c.index-locks-at.is))) c.loop-at.invariant.ready

pub loop-at-preserved : goal.loop-at-preserved
loop-at-preserved c = record {
  grows = grows_trans _ _ _ c.loop-at.invariant.grows c.make_place-in-loop-at.ensures.grows;
  ready = c.make_place-in-loop-at.ensures.ready c.args.locks.now (contains_map (λ lock. lock.resource) c.args.locks.now (get_or c.args.locks.now c.loop-at.at c.index-locks-at.result) (c.loop-at.at, c.loop-at-test.true, sym (ap (get_or c.args.locks.now c.loop-at.at) c.index-locks-at.is))) c.loop-at.invariant.ready;
  rows =
      more_rows c.loop-at.links c.make_place-in-loop-at.new.links c.args.locks.now c.loop-at.at (get_or c.args.locks.now c.loop-at.at c.index-locks-at.result) c.loop-at-test.true (ap (get_or c.args.locks.now c.loop-at.at) c.index-locks-at.is) c.loop-at.invariant.rows
      c.make_place-in-loop-at.ensures.grows (some_is _ _ c.in_ok-make_place-2.ensures.ok.place);
}
