use Rattle.psdl_check.proofs.Introduced.{number_put}
use Rattle.psdl_check.proofs.keys.put_number.Goals as goal

pub returns-clause-put : goal.returns-clause-put
returns-clause-put c lt n = number_put c.args.of_ids.now.items c.args.id c.push.new.self c.index_mut.result.now c.args.number lt c.index_mut.ensures.value c.in_ok-push.ensures.items n
