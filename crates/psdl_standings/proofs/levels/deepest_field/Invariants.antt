use Rattle.std.proofs.Common.{◌≡◌, List, map, take}
use Rattle.type_layout.specs.Types.{PlainType, fields_of}
use Rattle.psdl_standings.specs.Nesting.{deepest_field}
use Rattle.psdl_standings.specs.inner.Measured.{cut, AreLevels}
use Rattle.psdl_standings.specs.inner.TypeNodes.{field_type}
use Rattle.psdl_standings.proofs.levels.deepest_field.Given as goal

abbrev pub invariant-loop-field : goal.invariant-loop-field
invariant-loop-field l = (types : List PlainType) → AreLevels types l.levels → l.deepest ≡ cut (deepest_field (fields_of (map (field_type types) (take l.field-index l.fields))))
