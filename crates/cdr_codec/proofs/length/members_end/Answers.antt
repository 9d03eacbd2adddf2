use Rattle.std.proofs.Common.{map, drop}
use Rattle.type_layout.specs.Types.{values_of}
use Rattle.type_layout.specs.Views.{plain_value}
use Rattle.type_layout.specs.Members.{plain_member}
use Rattle.type_layout.specs.Values.{layout_fields}
use Rattle.cdr_codec.proofs.Loop.{members_out}
use Rattle.cdr_codec.proofs.Ends.{fields_over, members_on, split_first}
use Rattle.cdr_codec.proofs.length.members_end.Goals as goal

pub returns : goal.returns
returns c = fields_over (layout_fields (map plain_member (drop c.loop-member.member-index c.args.members.now))) (values_of (map plain_value c.loop-member.remaining.now)) c.loop-member.place _ (members_out c.args.members.now c.loop-member.member-index c.loop-member-test.false) c.loop-member.invariant.1 c.loop-member.invariant.0 c.loop-member.invariant.2

pub loop-member-preserved : goal.loop-member-preserved
loop-member-preserved c =
    members_on c.args.members.now c.loop-member.member-index c.member-item.result c.value-item.result c.loop-member.remaining.now _ c.loop-member.place c.member_end-place.result _ c.loop-member-test.true c.member-item.is (split_first c.loop-member.remaining.now c.value-item.result c.in-len1-up.len_at_least c.value-item.is) c.loop-member.invariant.0 c.member_end-place.ensures c.loop-member.invariant.2
