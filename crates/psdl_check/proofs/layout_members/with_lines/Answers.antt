use Rattle.std.proofs.Common.{length}
use Rattle.psdl_check.proofs.Marking.{typed_at}
use Rattle.psdl_check.proofs.layout_members.with_lines.Goals as goal

pub line_length-requires : goal.line_length-requires
line_length-requires c = typed_at (length c.args.types.now) c.args.members.now c.loop-member.member-index c.member-item.result c.requires c.loop-member-test.true c.member-item.is
