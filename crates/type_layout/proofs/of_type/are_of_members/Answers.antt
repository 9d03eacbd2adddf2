use Rattle.std.proofs.Common.{sym, ◌∙◌}
use Rattle.type_layout.proofs.OfType.{more_than_members}
use Rattle.type_layout.proofs.of_type.are_of_members.Goals as goal

pub returns-in_default-matches : goal.returns-in_default-matches
returns-in_default-matches c =
    sym (more_than_members c.args.members.now c.loop-member.member-index c.loop-member.remaining.now c.loop-member-test.false c.in_default-matches.len_at_least) ∙ c.loop-member.invariant
