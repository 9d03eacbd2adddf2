use Rattle.cdr_codec.proofs.Ends.{reference_ends}
use Rattle.cdr_codec.proofs.length.reference_end.Goals as goal

pub returns : goal.returns
returns c = λ pid. reference_ends pid c.args.at c.number_end-middle.result c.number_end.result c.number_end-middle.ensures c.number_end.ensures
