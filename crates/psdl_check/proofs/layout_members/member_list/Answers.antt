use Rattle.std.proofs.Common.{length}
use Rattle.psdl_check.specs.inner.Lists.{homes_in}
use Rattle.psdl_check.proofs.Marking.{typed_at}
use Rattle.psdl_check.proofs.Membered.{small_at}
use Rattle.psdl_check.proofs.layout_members.member_list.Goals as goal

pub add_member-requires-clause-typed : goal.add_member-requires-clause-typed
add_member-requires-clause-typed c = typed_at (length c.args.types.now) c.args.members.now c.loop-member.member-index c.member-item.result c.requires.typed c.loop-member-test.true c.member-item.is

pub add_member-requires-clause-small : goal.add_member-requires-clause-small
add_member-requires-clause-small c = small_at c.args.types.now (homes_in c.args.referents.now) c.args.members.now c.loop-member.member-index c.member-item.result c.requires.small c.loop-member-test.true c.member-item.is
