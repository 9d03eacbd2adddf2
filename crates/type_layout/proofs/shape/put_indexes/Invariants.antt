use Rattle.std.proofs.Common.{◌≡◌, ◌++◌, map, drop}
use Rattle.std.specs.Prelude.{codes}
use Rattle.std.specs.List.{flat_map}
use Rattle.std.specs.Fmt.{decimal}
use Rattle.type_layout.specs.ShapeText.{listed}
use Rattle.type_layout.proofs.shape.put_indexes.Given as goal

abbrev pub invariant-loop-index : goal.invariant-loop-index
invariant-loop-index l = l.text ++ flat_map (λ u. codes "," ++ u) (map decimal (drop l.index-index l.others)) ≡ l.fn.text ++ listed (map decimal l.indexes)
