use Rattle.std.proofs.Common.{refl, ap, ◌∙◌}
use Rattle.std.specs.FinMap.{remove}
use Rattle.pss_machine.specs.Owners.{Owners}
use Rattle.tx_session.specs.Owners.{owners_in}
use Rattle.owner_accounts.proofs.Moving.{leaves, no_locks}
use Rattle.owner_accounts.proofs.accounts.Accounts.leave.Goals as goal

pub remove-requires : goal.remove-requires
remove-requires g c = no_locks (owners_in c.args.self.now.owners) (owners_in c.finish.new.self) c.args.owner c.finish.ensures.finished

pub returns : goal.returns
returns g c S k are =
    leaves S c.args.self.now _ k are refl (c.remove.ensures.under S (c.finish.ensures.under S are.under)) refl refl c.args.owner
    (c.remove.ensures.removed ∙ ap (λ (o : Owners). remove o c.args.owner.0) c.finish.ensures.finished) c.remove-2.ensures
