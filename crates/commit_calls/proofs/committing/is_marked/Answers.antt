use Rattle.commit_calls.proofs.Readiness.{marked_told}
use Rattle.commit_calls.proofs.committing.is_marked.Goals as goal

pub returns-in-Some : goal.returns-in-Some
returns-in-Some c k stands = marked_told k c.titles.result.now (c.titles.ensures c.args.parts.now.schema k stands.accounts) c.args.owner _ c.in-Some.ensures

pub returns-in-None : goal.returns-in-None
returns-in-None c k stands = marked_told k c.titles.result.now (c.titles.ensures c.args.parts.now.schema k stands.accounts) c.args.owner _ c.in-None.ensures
