use Rattle.std.proofs.Common.{◌≡◌, ℕ, List, [], Option, None, Some, sym, ap, subst, ◌∙◌}
use Rattle.std.specs.Option.{option_map, unwrap_or}
use Rattle.std.specs.Ordering.{nat_cmp}
use Rattle.std.specs.FinMap.{empty, get-empty}
use Rattle.std.specs.FinSet as set
use Rattle.pss_base.specs.declared.owner.OwnerNo.{OwnerNo}
use Rattle.pss_machine.specs.Needs.{Locks}
use Rattle.pss_machine.specs.Owners.{Owner}
use Rattle.lock_table.specs.Locks.{Held}
use Rattle.lock_table.specs.Agreement.{HaveLocks}
use Rattle.owner_view.specs.declared.owned.Owned.{Owned}
use Rattle.owner_view.specs.Owned.{IsCounted}
use Rattle.tx_session.specs.Kept.{owned_at}
use Rattle.tx_session.specs.Owners.{owners_of}
use Rattle.tx_session.proofs.owners.Owners.new.Goals as goal

no_locks : HaveLocks empty empty
no_locks n =
    ap (λ (o : Option Owner). unwrap_or (option_map (λ owner. owner.locks) o) set.empty) (get-empty nat_cmp n.0)
    ∙ sym (ap (λ (o : Option Locks). unwrap_or o set.empty) (get-empty nat_cmp n.0))

none_counted : (es : List (OwnerNo × Owned)) → es ≡ [] → (n : ℕ) (owned : Owned) → owned_at n es ≡ Some owned → IsCounted owned
none_counted es none n owned at = (let no : None ≡ Some owned = ap (owned_at n) (sym none) ∙ at in cc)

pub invariant_of-result : goal.invariant_of-result
invariant_of-result c = record {
  locks =
      subst (λ (held : Held). HaveLocks (owners_of held c.empty.result) held) (sym c.new.ensures)
      (subst (λ (es : List (OwnerNo × Owned)). HaveLocks (owners_of empty es) empty) (sym c.empty.ensures) no_locks);
  counted = none_counted c.empty.result c.empty.ensures;
}
