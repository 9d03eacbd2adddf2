use Rattle.std.proofs.Common.{sym, ap, subst, ◌∙◌}
use Rattle.pss_machine.specs.Maps.{with_at}
use Rattle.pss_machine.specs.Owners.{new_owner}
use Rattle.lock_table.specs.Locks.{Held}
use Rattle.lock_table.specs.Agreement.{HaveLocks}
use Rattle.tx_session.specs.Owners.{owners_of, owners_in, Under}
use Rattle.tx_session.proofs.Endings.{owner_finished, under_finished, counted_finished, locks_finished}
use Rattle.tx_session.proofs.owners.Owners.finish.Goals as goal

pub invariant_of-self : goal.invariant_of-self
invariant_of-self g c = record {
  locks =
      subst (λ (held : Held). HaveLocks (owners_of held c.clear.new.table) held) (sym c.release_all.ensures.released)
      (locks_finished c.self.inside.parts.locks c.self.inside.parts.table c.clear.new.table c.args.owner c.clear.ensures c.self.invariant.locks);
  counted = counted_finished c.self.inside.parts.locks c.self.inside.parts.table c.clear.new.table c.args.owner c.clear.ensures c.self.invariant.counted;
}

pub returns-clause-finished : goal.returns-clause-finished
returns-clause-finished g c =
    ap (λ (held : Held). owners_of held c.clear.new.table) c.release_all.ensures.released
    ∙ owner_finished c.self.inside.parts.locks c.self.inside.parts.table c.clear.new.table c.args.owner c.clear.ensures
    ∙ ap (λ parts. with_at (owners_in parts) c.args.owner.0 (λ o. new_owner o.level)) c.self.view_is

pub returns-clause-under : goal.returns-clause-under
returns-clause-under g c S under = under_finished c.self.inside.parts.locks c.self.inside.parts.table c.clear.new.table c.args.owner c.clear.ensures S (subst (Under S) (sym c.self.view_is) under)
