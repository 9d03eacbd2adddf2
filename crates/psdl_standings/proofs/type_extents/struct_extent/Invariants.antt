use Rattle.std.proofs.Common.{◌≡◌, List, map, take}
use Rattle.type_layout.specs.Types.{PlainType, fields_of}
use Rattle.psdl_standings.specs.Extents.{extent_view}
use Rattle.psdl_standings.specs.inner.Measured.{AreExtents}
use Rattle.psdl_standings.specs.inner.TypeNodes.{field_type}
use Rattle.psdl_standings.proofs.Defaulting.{short, fields_octets}
use Rattle.psdl_standings.proofs.type_extents.struct_extent.Given as goal

abbrev pub invariant-loop-field : goal.invariant-loop-field
invariant-loop-field l = (types : List PlainType) → AreExtents types l.extents → extent_view l.whole ≡ short (fields_octets (fields_of (map (field_type types) (take l.field-index l.fields))))
