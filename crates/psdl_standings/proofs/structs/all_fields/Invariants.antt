use Rattle.std.proofs.Common.{◌≡◌, Some, take}
use Rattle.psdl_standings.specs.inner.Fields.{all_parts}
use Rattle.psdl_standings.proofs.structs.all_fields.Given as goal

abbrev pub invariant-loop-part : goal.invariant-loop-part
invariant-loop-part l = Some l.fields.items ≡ all_parts (take l.part-index l.parts)
