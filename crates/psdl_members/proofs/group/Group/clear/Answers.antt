use Rattle.psdl_members.proofs.Grouping.{cleared}
use Rattle.psdl_members.proofs.group.Group.clear.Goals as goal

pub returns : goal.returns
returns c = cleared _ _ _ (c.fill.ensures.items (λ y e. e)) (c.fill-2.ensures.items (λ y e. e))
