use Rattle.owner_view.proofs.Outcomes.{if_ok}
use Rattle.owner_accounts.proofs.May.{may_see}
use Rattle.owner_accounts.proofs.accounts.Accounts.record_of.Goals as goal

pub state_of-requires : goal.state_of-requires
state_of-requires c = may_see c.requires

pub returns : goal.returns
returns c = if_ok c.state_of.result (λ made told m. told (may_see m)) c.state_of.ensures
