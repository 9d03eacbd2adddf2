use Rattle.std.proofs.Common.{◌≡◌, sym, ap, subst, ◌∙◌}
use Rattle.std.specs.FinMap.{remove}
use Rattle.std.specs.FinSet as set
use Rattle.lock_table.specs.Agreement.{locks_of}
use Rattle.owner_view.specs.Owned.{IsCounted, IsUnder}
use Rattle.tx_session.specs.Owners.{owners_in, Under}
use Rattle.tx_session.proofs.Endings.{owner_went, each_left, locks_left}
use Rattle.tx_session.proofs.owners.Owners.remove.Goals as goal

pub invariant_of-self : goal.invariant_of-self
invariant_of-self c = record {
  locks =
      locks_left c.self.inside.parts.locks c.self.inside.parts.table c.remove.new.table c.args.owner c.remove.ensures c.self.invariant.locks
      (subst (λ parts. locks_of (owners_in parts) c.args.owner ≡ set.empty) (sym c.self.view_is) c.requires);
  counted = each_left c.self.inside.parts.locks c.self.inside.parts.table c.remove.new.table c.args.owner c.remove.ensures IsCounted c.self.invariant.counted;
}

pub returns-clause-removed : goal.returns-clause-removed
returns-clause-removed c =
    owner_went c.self.inside.parts.locks c.self.inside.parts.table c.remove.new.table c.args.owner c.remove.ensures ∙ ap (λ parts. remove (owners_in parts) c.args.owner.0) c.self.view_is

pub returns-clause-under : goal.returns-clause-under
returns-clause-under c S under =
    each_left c.self.inside.parts.locks c.self.inside.parts.table c.remove.new.table c.args.owner c.remove.ensures (IsUnder S) (subst (Under S) (sym c.self.view_is) under)
