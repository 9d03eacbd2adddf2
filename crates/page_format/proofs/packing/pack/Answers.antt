use Rattle.std.proofs.lemmas.Result.{IfOk-weaker}
use Rattle.page_format.proofs.Filling.{storable_at}
use Rattle.page_format.proofs.Packed.{at_most, only_last}
use Rattle.page_format.proofs.packing.pack.Goals as goal

pub add-requires-clause-short : goal.add-requires-clause-short
add-requires-clause-short c = (storable_at c.args.puts.now c.loop-put.put-index c.put-item.result c.requires c.loop-put-test.true c.put-item.is).most

pub returns-clause-large : goal.returns-clause-large
returns-clause-large c = IfOk-weaker c.finish.result _ _ (λ pages is. only_last _ _ is c.requires) c.finish.ensures

pub returns-clause-few : goal.returns-clause-few
returns-clause-few c = IfOk-weaker c.finish.result _ _ (λ pages is. at_most _ _ is c.requires) c.finish.ensures
