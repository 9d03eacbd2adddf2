use Rattle.std.proofs.Common.{sym, ◌∙◌}
use Rattle.std.specs.FinMap.{len-entries}
use Rattle.owner_accounts.proofs.accounts.Accounts.objects.Goals as goal

pub returns : goal.returns
returns c S k are = c.objects.ensures.objects S k.catalog are.catalog ∙ sym (len-entries k.catalog)
