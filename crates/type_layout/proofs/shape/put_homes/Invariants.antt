use Rattle.std.proofs.Common.{◌≡◌, ◌++◌, map, drop}
use Rattle.std.specs.Prelude.{codes}
use Rattle.std.specs.List.{flat_map}
use Rattle.std.specs.Fmt.{decimal}
use Rattle.type_layout.specs.ShapeText.{listed}
use Rattle.type_layout.proofs.shape.put_homes.Given as goal

abbrev pub invariant-loop-home : goal.invariant-loop-home
invariant-loop-home l = l.text ++ flat_map (λ u. codes "," ++ u) (map (λ h. decimal h.0) (drop l.home-index l.others)) ≡ l.fn.text ++ listed (map (λ h. decimal h.0) l.homes)
