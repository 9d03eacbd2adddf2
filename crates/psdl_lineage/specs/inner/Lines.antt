-- Walks up the lines of a definition.
use Rattle.std.specs.Prelude.{◌≡◌, ℕ, List, Bool, Some, length}
use Rattle.psdl_lineage.specs.declared.walk.Walk.{Walk}
use Rattle.psdl_lineage.specs.declared.lines.Lines.{Lines}
use Rattle.psdl_lineage.specs.Graph.{ancestry_in}
use Rattle.psdl_lineage.specs.inner.Walking.{IsWalk, outcome}
use Rattle.psdl_lineage.specs.inner.Walks.{steps_of}

-- what the walk will have found in the end is what the definition descends from
pub record AreOf (graph : List (List ℕ)) (marks : List Bool) (walk : Walk) (from : ℕ) : Type 0 where
  pub on : IsWalk graph marks (steps_of walk) walk.found.items
  pub ends : outcome graph (steps_of walk) walk.found.items ≡ ancestry_in graph from

pub record AreLines (graph : List (List ℕ)) (lines : Lines) : Type 0 where
  pub sized : length lines.marks ≡ length graph
  pub of : (n : ℕ) → lines.from ≡ Some n → AreOf graph lines.marks lines.walk n
