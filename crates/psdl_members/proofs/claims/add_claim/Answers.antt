use Rattle.psdl_members.proofs.Claiming.{claim_put}
use Rattle.psdl_members.proofs.claims.add_claim.Goals as goal

pub returns-clause-put : goal.returns-clause-put
returns-clause-put c n = claim_put c.args.claims.now.items c.args.name c.push.new.self c.index_mut.result.now c.args.claim c.requires c.index_mut.ensures.value c.in_ok-push.ensures.items n
