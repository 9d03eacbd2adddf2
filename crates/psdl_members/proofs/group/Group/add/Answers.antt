use Rattle.std.proofs.Common.{◌≡◌, ℕ, get_or, arith}
use Rattle.psdl_members.proofs.Grouping.{one_put}
use Rattle.psdl_members.proofs.group.Group.add.Goals as goal

pub returns : goal.returns
returns c es long w =
    let mask : ℕ = c.mask_at.result in
    let is : mask ≡ get_or c.args.self.now.names.items c.args.entry.name 0 = rw c.deref.ensures.value at c.mask_at.ensures in
    one_put c.args.self.now _ c.args.entry c.args.bit es mask c.requires long w (omega arith) is (c.in_ok-add_head.ensures.head, c.in_ok-add_head.ensures.kept) c.in_ok-add_bit.ensures c.in_ok-add_bit-2.ensures
