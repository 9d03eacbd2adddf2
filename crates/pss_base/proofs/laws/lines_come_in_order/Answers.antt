use Rattle.pss_base.proofs.Splitting.{come_in_order}
use Rattle.pss_base.proofs.laws.lines_come_in_order.Goals as goal

pub returns : goal.returns
returns c = come_in_order
