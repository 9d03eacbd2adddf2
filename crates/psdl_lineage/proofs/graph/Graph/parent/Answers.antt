use Rattle.std.proofs.Common.{◌∙◌, ℕ, List, length, ap}
use Rattle.std.specs.List.{slice_get}
use Rattle.psdl_lineage.specs.Graph.{parents_in}
use Rattle.psdl_lineage.proofs.Named.{below_at}
use Rattle.psdl_lineage.proofs.graph.Graph.parent.Goals as goal

pub returns-clause-below : goal.returns-clause-below
returns-clause-below c =
    below_at c.at.result (parents_in c.args.self.now c.args.number) c.args.place (length c.args.self.now)
    (c.at.ensures.at ∙ ap (λ (l : List ℕ). slice_get l c.args.place) c.parents.ensures.parents) (c.parents.ensures.graph c.args.number)
