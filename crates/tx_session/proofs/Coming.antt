-- An owner comes, where memory does not lack.
use Rattle.std.proofs.Common.{ℕ, ◌≡◌, List, Some, None, sym, ap, subst, ◌∙◌, Result, Ok, Err, OnOk, OnErr}
use Rattle.std.specs.FinMap.{get, insert}
use Rattle.pss_base.specs.declared.owner.OwnerNo.{OwnerNo}
use Rattle.pss_machine.specs.declared.level.Level.{Level}
use Rattle.pss_machine.specs.Owners.{new_owner}
use Rattle.type_layout.specs.declared.schema.Schema.{Schema}
use Rattle.lock_table.specs.Locks.{Held}
use Rattle.lock_table.specs.Agreement.{HaveLocks}
use Rattle.owner_view.specs.declared.owned.Owned.{Owned}
use Rattle.owner_view.specs.Owned.{IsCounted, IsUnder}
use Rattle.tx_session.specs.Kept.{IsNew, owned_at, TurnsOwned}
use Rattle.tx_session.specs.Owners.{owners_of}
use Rattle.tx_session.proofs.Endings.{owner_came, under_came, counted_came, locks_came}

module _ {A E : Type 0} (held : Held) (es fs : List (OwnerNo × Owned)) (n : OwnerNo) (level : Level) (o : Owned) (new : IsNew level o) where
  pub came : (r : Result A E) → OnOk r (TurnsOwned es fs n.0 (Some o)) → HaveLocks (owners_of held es) held → get (owners_of held es) n.0 ≡ None → OnOk r (owners_of held fs ≡ insert (owners_of held es) n.0 (new_owner level))
  came (Ok a) turns have none = owner_came held es fs n level o turns new have none
  came (Err e) turns have none = turns

  pub each_under : (r : Result A E) → OnOk r (TurnsOwned es fs n.0 (Some o)) → OnErr r (fs ≡ es) → (S : Schema) → ((q : ℕ) (p : Owned) → owned_at q es ≡ Some p → IsUnder S p) → (q : ℕ) (p : Owned) → owned_at q fs ≡ Some p → IsUnder S p
  each_under (Ok a) turns same S each = under_came held es fs n level o turns new S each
  each_under (Err e) turns same S each = λ q p at. each q p (ap (owned_at q) (sym same) ∙ at)

  pub each_counted : (r : Result A E) → OnOk r (TurnsOwned es fs n.0 (Some o)) → OnErr r (fs ≡ es) → ((q : ℕ) (p : Owned) → owned_at q es ≡ Some p → IsCounted p) → (q : ℕ) (p : Owned) → owned_at q fs ≡ Some p → IsCounted p
  each_counted (Ok a) turns same each = counted_came held es fs n level o turns new each
  each_counted (Err e) turns same each = λ q p at. each q p (ap (owned_at q) (sym same) ∙ at)

  pub locks_there : (r : Result A E) → OnOk r (TurnsOwned es fs n.0 (Some o)) → OnErr r (fs ≡ es) → HaveLocks (owners_of held es) held → HaveLocks (owners_of held fs) held
  locks_there (Ok a) turns same have = locks_came held es fs n level o turns new have
  locks_there (Err e) turns same have = subst (λ (l : List (OwnerNo × Owned)). HaveLocks (owners_of held l) held) (sym same) have
