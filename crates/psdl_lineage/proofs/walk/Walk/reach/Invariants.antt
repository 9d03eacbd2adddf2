use Rattle.std.proofs.Common.{◌≡◌, length}
use Rattle.psdl_lineage.specs.inner.Walking.{IsWalk, outcome, work}
use Rattle.psdl_lineage.specs.inner.Walks.{steps_of}
use Rattle.psdl_lineage.proofs.walk.Walk.reach.Given as goal

abbrev pub invariant-loop-self : goal.invariant-loop-self
invariant-loop-self l =
    record {
      sized : length l.marks ≡ length l.fn.marks;
      on : IsWalk l.graph l.marks (steps_of l.self) l.self.found.items;
      same : outcome l.graph (steps_of l.self) l.self.found.items ≡ outcome l.graph (steps_of l.fn.self) l.fn.self.found.items;
    }

abbrev pub decreases-loop-self : goal.decreases-loop-self
decreases-loop-self l = work l.graph l.marks (steps_of l.self)
