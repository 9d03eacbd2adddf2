use Rattle.std.specs.Str.{bytes_eq}
use Rattle.type_layout.specs.inner.Marks.{is_marked}
use Rattle.type_layout.specs.inner.Searches.{steps_of}
use Rattle.type_layout.proofs.Searching.{work, found, IsSearch}
use Rattle.type_layout.proofs.factory_graph.FactoryGraph.searched.Given as goal

abbrev pub invariant-loop-step : goal.invariant-loop-step
invariant-loop-step l = IsSearch l.self (λ f. bytes_eq l.word f.name) (found l.self (λ f. bytes_eq l.word f.name) l.home) (is_marked l.search.left) (steps_of l.search)

abbrev pub decreases-loop-step : goal.decreases-loop-step
decreases-loop-step l = work l.self (steps_of l.search)
