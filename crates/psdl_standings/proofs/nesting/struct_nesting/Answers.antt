use Rattle.psdl_tree.specs.Views.{struct_view}
use Rattle.psdl_standings.specs.inner.Levels.{names_at}
use Rattle.psdl_standings.proofs.Deepening.{struct_depth}
use Rattle.psdl_standings.proofs.nesting.struct_nesting.Goals as goal

pub returns : goal.returns
returns c =
    struct_depth (names_at c.args.parts.now) (struct_view c.args.structure.now) c.in_ok-first.first c.in_ok-others.others c.deeper.result c.raised.result c.in_ok-first.ensures (rw c.deref.ensures.value at c.in_ok-others.ensures)
    c.deeper.ensures c.raised.ensures
