use Rattle.std.proofs.Common.{ap, ◌∙◌}
use Rattle.std.specs.FinMap.{get}
use Rattle.owner_view.proofs.Outcomes.{if_ok}
use Rattle.owner_accounts.proofs.accounts.Accounts.valued_pids.Goals as goal

pub returns : goal.returns
returns c = if_ok c.valued_pids.result (λ pids all S k o are there. all o (ap (λ owners. get owners c.args.owner.0) are.owners ∙ there)) c.valued_pids.ensures
