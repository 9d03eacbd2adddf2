use Rattle.std.proofs.Common.{◌≡◌, ◌++◌, ◌+◌, drop}
use Rattle.type_layout.specs.ShapeText.{lines_from, shape_text}
use Rattle.type_layout.proofs.shape.shape_of.Given as goal

abbrev pub invariant-loop-home : goal.invariant-loop-home
invariant-loop-home l = (l.number ≡ l.home-index + 1) × (l.text ++ lines_from l.schema l.number (drop l.home-index l.schema.homes) ≡ shape_text l.schema)
