use Rattle.std.proofs.Common.{sym, ◌∙◌}
use Rattle.psdl_members.specs.Bodies.{member_view}
use Rattle.psdl_rules.specs.Words.{is_called}
use Rattle.psdl_rules.proofs.Noted.{any_at}
use Rattle.psdl_rules.proofs.listed_members.is_member.Goals as goal

pub returns-then-is_called : goal.returns-then-is_called
returns-then-is_called c = any_at (is_called c.args.identifier.now) (member_view) c.args.members.now c.loop-member.member-index c.member-item.result c.loop-member-test.true c.member-item.is (sym c.is_called.ensures ∙ c.if-is_called.true)
