use Rattle.std.proofs.Common.{sym, ◌∙◌}
use Rattle.type_layout.proofs.Keyed.{ready}
use Rattle.type_layout.proofs.key_bytes.key_of.Goals as goal

pub put_parts-requires : goal.put_parts-requires
put_parts-requires c =
    ready c.args.schema.now c.requires.sound c.args.key c.args.value.now c.requires.of c.in-Some.found.now (sym c.in-Some.ensures)
    _ _ _ c.members_at-members.ensures (c.as_slice.ensures ∙ c.value.view_is) c.as_slice-2.ensures
