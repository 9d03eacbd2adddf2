use Rattle.psdl_members.specs.Bodies.{member_views}
use Rattle.psdl_members.proofs.Numbering.{numbered_as, within_all}
use Rattle.psdl_members.proofs.numbers.of_bodies.Goals as goal

pub invariant_of-result : goal.invariant_of-result
invariant_of-result c =
    let s = c.small_numbers.new.spellings in
    record { below = within_all s c.len.result c.len.ensures c.in_ok-numbers.numbers.items (member_views c.args.bodies.members.items) (rw c.deref.ensures.value at c.in_ok-numbers.ensures.numbers) }

pub returns : goal.returns
returns c =
    let s = c.small_numbers.new.spellings in
    numbered_as s (member_views c.args.bodies.members.items) c.in_ok-numbers.numbers.items c.args.bodies.starts.items (rw c.deref.ensures.value at c.in_ok-numbers.ensures.numbers)
