use Rattle.std.proofs.Common.{◌≡◌, ◌++◌, drop}
use Rattle.std.specs.List.{flat_map}
use Rattle.type_layout.specs.ShapeText.{key_line}
use Rattle.type_layout.proofs.shape.put_keys.Given as goal

abbrev pub invariant-loop-key : goal.invariant-loop-key
invariant-loop-key l = l.text ++ flat_map (key_line l.schema) (drop l.key-index l.keys) ≡ l.fn.text ++ flat_map (key_line l.schema) l.keys
