use Rattle.std.proofs.Common.{◌≡◌, ◌++◌, drop}
use Rattle.std.specs.Prelude.{codes}
use Rattle.std.specs.List.{flat_map}
use Rattle.type_layout.specs.ShapeText.{listed}
use Rattle.type_layout.proofs.shape.put_names.Given as goal

abbrev pub invariant-loop-name : goal.invariant-loop-name
invariant-loop-name l = l.text ++ flat_map (λ u. codes "," ++ u) (drop l.name-index l.others) ≡ l.fn.text ++ listed l.names
