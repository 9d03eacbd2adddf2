use Rattle.std.proofs.Common.{◌∙◌}
use Rattle.psdl_standings.proofs.Numbered.{struct_text}
use Rattle.psdl_standings.proofs.types.Types.struct_length.Goals as goal

pub returns : goal.returns
returns c = c.with_fields.ensures ∙ rw c.of-2.ensures (struct_text c.args.self.now c.args.fields.now c.is_empty.result c.is_empty.ensures c.if-is_empty.false)
