use Rattle.std.proofs.Common.{◌≡◌, length, ◌++◌, ◌==◌}
use Rattle.psdl_lineage.specs.Descent.{without_repeats}
use Rattle.psdl_lineage.specs.Graph.{ancestry_in}
use Rattle.psdl_lineage.specs.inner.Walking.{IsWalk, outcome, work}
use Rattle.psdl_lineage.specs.inner.Walks.{steps_of}
use Rattle.psdl_lineage.proofs.walk.Walk.run.Given as goal

abbrev pub invariant-loop-step : goal.invariant-loop-step
invariant-loop-step l =
    record {
      sized : length l.marks ≡ length l.fn.marks;
      on : IsWalk l.graph l.marks (steps_of l.self) l.self.found.items;
      same : outcome l.graph (steps_of l.self) l.self.found.items ≡ without_repeats (λ a b. a == b) (l.fn.self.found.items ++ ancestry_in l.graph l.number);
    }

abbrev pub decreases-loop-step : goal.decreases-loop-step
decreases-loop-step l = work l.graph l.marks (steps_of l.self)
