use Rattle.std.proofs.Common.{◌≡◌, ◌+◌, ◌*◌, ◌++◌, drop, map}
use Rattle.type_layout.specs.Views.{plain_fields}
use Rattle.psdl_standings.specs.inner.TypeNodes.{field_type}
use Rattle.psdl_standings.proofs.types.Types.+build.Given as goal

abbrev pub decreases-build : goal.decreases-build
decreases-build l = 2 * l.number + 1

abbrev pub decreases-build_fields : goal.decreases-build_fields
decreases-build_fields l = 2 * l.limit

abbrev pub invariant-build_fields-loop-field : goal.invariant-build_fields-loop-field
invariant-build_fields-loop-field l = plain_fields l.built ++ map (field_type l.self) (drop l.field-index l.fields) ≡ map (field_type l.self) l.fields
