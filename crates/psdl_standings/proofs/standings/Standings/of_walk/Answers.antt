use Rattle.psdl_standings.proofs.Kept.{stood}
use Rattle.psdl_standings.proofs.standings.Standings.of_walk.Goals as goal

pub invariant_of-result : goal.invariant_of-result
invariant_of-result c =
    record {
      stood =
          stood c.args.walk c.args.states.items c.in_ok-extents.extents.items c.in_ok-levels.levels.items c.in_ok-nested.nested.items c.in_ok-deep.deep.items c.requires.walked c.in_ok-extents.ensures c.in_ok-levels.ensures
          (rw (c.deref.ensures.value, c.deref-2.ensures.value) at c.in_ok-nested.ensures) (rw c.deref-3.ensures.value at c.in_ok-deep.ensures);
    }
