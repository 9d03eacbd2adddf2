use Rattle.std.proofs.Common.{sym, subst, ◌≤◌}
use Rattle.storage_home.specs.Changes.{Rises, least_next}
use Rattle.storage_home.proofs.Rising.{rises_on}
use Rattle.storage_home.proofs.change.Changes.push.Goals as goal

pub invariant_of-self-2 : goal.invariant_of-self-2
invariant_of-self-2 c = subst (Rises 0) (sym c.in_ok-push.ensures.items) (rises_on 0 c.self.inside.changes.items c.args.change c.self.invariant (subst (λ l. least_next 0 l ≤ c.args.change.put.serial) (sym c.self.view_is) c.requires))
