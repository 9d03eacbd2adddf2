use Rattle.std.proofs.Common.{◌≡◌, map, drop}
use Rattle.psdl_tree.specs.Views.{declarator_view, declarators_view}
use Rattle.psdl_standings.specs.inner.Levels.{deeper, all_deep, dimensioned, declarators_depth}
use Rattle.psdl_standings.proofs.nesting.declarators_nesting.Given as goal

abbrev pub invariant-loop-declarator : goal.invariant-loop-declarator
invariant-loop-declarator l =
    deeper l.deepest (all_deep (dimensioned l.spec) (map declarator_view (drop l.declarator-index l.declarators.others.items))) ≡ declarators_depth l.spec (declarators_view l.declarators)
