use Rattle.std.proofs.Common.{subst}
use Rattle.storage_home.specs.Blocks.{Blocks, IsFirstHeld}
use Rattle.storage_home.proofs.Nexts.{first_is_next}
use Rattle.storage_home.proofs.extents.next_far.Goals as goal

pub returns : goal.returns
returns c = first_is_next c.args.number c.args.extent.now.entries c.first_in.result c.range.ensures.ordered (subst (λ (l : Blocks). IsFirstHeld l c.first_in.result) (c.range.ensures.between tt) c.first_in.ensures)
