use Rattle.std.proofs.Common.{[]}
use Rattle.psdl_members.specs.Bodies.{member_views}
use Rattle.psdl_rules.specs.inner.Scopes.{behind}
use Rattle.psdl_rules.proofs.Listed.{both_parts}
use Rattle.psdl_rules.proofs.Noted.{none_named}
use Rattle.psdl_rules.proofs.listed_members.listed_wrong.Goals as goal

pub returns : goal.returns
returns c =
    let xs = c.args.listed.now.first.now in
    let none = none_named c.new-names.result c.new-names.ensures.empty in
    both_parts c.args.kind (member_views c.args.members.now) xs c.args.listed.now.others.now c.args.least.now c.listed_part.new.least c.listed_part-2.new.least (c.in_ok-listed_part.ensures.noted [] none)
    (c.in_ok-listed_part-2.ensures.noted (behind [] xs) (c.in_ok-listed_part.ensures.names [] none))
