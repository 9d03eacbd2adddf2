use Rattle.psdl_lineage.proofs.Conformance.{conforming_is_descent}
use Rattle.psdl_lineage.proofs.laws.conforming_is_descent.Goals as goal

pub returns : goal.returns
returns c = conforming_is_descent
