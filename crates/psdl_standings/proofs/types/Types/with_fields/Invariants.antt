use Rattle.std.proofs.Common.{◌≡◌, drop}
use Rattle.psdl_standings.specs.inner.TypeLengths.{fields_behind}
use Rattle.psdl_standings.proofs.types.Types.with_fields.Given as goal

abbrev pub invariant-loop-field : goal.invariant-loop-field
invariant-loop-field l = fields_behind l.self l.whole.0 (drop l.field-index l.fields) ≡ fields_behind l.self l.fn.front.0 l.fields
