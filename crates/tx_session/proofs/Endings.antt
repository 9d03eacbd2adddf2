-- Owners that come, finish and go.
use Rattle.std.proofs.Common.{ℕ, ◌≡◌, List, Option, Some, None, refl, sym, ap, subst, ◌∙◌}
use Rattle.std.specs.Option.{option_map, unwrap_or}
use Rattle.std.specs.FinMap.{get, insert, remove}
use Rattle.std.specs.FinSet as set
use Rattle.pss_base.specs.declared.owner.OwnerNo.{OwnerNo}
use Rattle.type_layout.specs.declared.schema.Schema.{Schema}
use Rattle.type_layout.specs.Schemas.{given}
use Rattle.pss_machine.specs.declared.level.Level.{Level}
use Rattle.pss_machine.specs.Maps.{with_at}
use Rattle.pss_machine.specs.Owners.{Owner, new_owner}
use Rattle.lock_table.specs.Locks.{Held, held_by, released}
use Rattle.lock_table.specs.Agreement.{HaveLocks, locks_of}
use Rattle.lock_table.proofs.Owning.{held_by-released, held_by-released_other}
use Rattle.owner_view.specs.declared.owned.Owned.{Owned}
use Rattle.owner_view.specs.Owned.{IsCounted, IsUnder}
use Rattle.tx_session.specs.Kept.{IsNew, IsCleared, owned_at, IsNew, TurnsBy, TurnsOwned}
use Rattle.tx_session.specs.Owners.{plain_owner, owners_of}
use Rattle.tx_session.proofs.Turns.{is_owner, no_owner, owner_turned, owner_gone, owners_same, locks_turned, each_turned, turned_from, turned_to, none_turned, turned_others, turned_here}

same_one : {A : Type 0} (x y : A) → Some x ≡ Some y → x ≡ y
same_one x y e = cc

module _ (held : Held) (es fs : List (OwnerNo × Owned)) (n : OwnerNo) where
  -- no owner has no lock
  pub none_locked : HaveLocks (owners_of held es) held → get (owners_of held es) n.0 ≡ None → held_by held n ≡ set.empty
  none_locked have none = sym (have n) ∙ ap (λ (o : Option Owner). unwrap_or (option_map (λ owner. owner.locks) o) set.empty) none

  -- ---- one comes

  module _ (level : Level) (o : Owned) (turns : TurnsOwned es fs n.0 (Some o)) (new : IsNew level o) where
    pub owner_came : HaveLocks (owners_of held es) held → get (owners_of held es) n.0 ≡ None → owners_of held fs ≡ insert (owners_of held es) n.0 (new_owner level)
    owner_came have none =
        owner_turned held held es fs n (turned_others es fs n.0 (Some o) turns) (λ q other. refl) o (turned_here es fs n.0 (Some o) turns) ∙ ap (insert (owners_of held es) n.0) one
      where
        one : plain_owner held n.0 o ≡ new_owner level
        one i = record { level = new.level_is i; locks = none_locked have none i; changes = new.changes i }

    one_there : (P : Owned → Type 0) → P o → (p : Owned) → owned_at n.0 fs ≡ Some p → P p
    one_there P is p at = subst P (same_one o p (sym (turned_here es fs n.0 (Some o) turns) ∙ at)) is

    pub under_came : (S : Schema) → ((q : ℕ) (p : Owned) → owned_at q es ≡ Some p → IsUnder S p) → (q : ℕ) (p : Owned) → owned_at q fs ≡ Some p → IsUnder S p
    under_came S each = each_turned (IsUnder S) es fs n (turned_others es fs n.0 (Some o) turns) (one_there (IsUnder S) (new.under S)) each

    pub counted_came : ((q : ℕ) (p : Owned) → owned_at q es ≡ Some p → IsCounted p) → (q : ℕ) (p : Owned) → owned_at q fs ≡ Some p → IsCounted p
    counted_came each = each_turned IsCounted es fs n (turned_others es fs n.0 (Some o) turns) (one_there IsCounted new.counted) each

    pub locks_came : HaveLocks (owners_of held es) held → HaveLocks (owners_of held fs) held
    locks_came have =
        locks_turned held held es fs n (turned_others es fs n.0 (Some o) turns) (λ q other. refl) have
        (λ none. (let no : None ≡ Some o = sym none ∙ turned_here es fs n.0 (Some o) turns in cc))

  -- ---- one finishes

  module _ (turn : TurnsBy IsCleared es fs n.0) where
    pub owner_finished : owners_of (released held n) fs ≡ with_at (owners_of held es) n.0 (λ o. new_owner o.level)
    owner_finished = by (owned_at n.0 es) refl
      where
        by : (o : Option Owned) → owned_at n.0 es ≡ o → owners_of (released held n) fs ≡ with_at (owners_of held es) n.0 (λ o. new_owner o.level)
        by None is =
            owners_same held (released held n) es fs n turn.others (λ q other. held_by-released_other held n q other) (no_owner (released held n) fs n.0 (none_turned IsCleared es fs n turn is) ∙ sym (no_owner held es n.0 is))
            ∙ sym (ap (λ o. given o (owners_of held es) (λ x. insert (owners_of held es) n.0 (new_owner x.level))) (no_owner held es n.0 is))
        by (Some a) is =
            owner_turned held (released held n) es fs n turn.others (λ q other. held_by-released_other held n q other) b.0 b.1
            ∙ ap (insert (owners_of held es) n.0) one
            ∙ sym (ap (λ o. given o (owners_of held es) (λ x. insert (owners_of held es) n.0 (new_owner x.level))) (is_owner held es n.0 a is))
          where
            b : (b : Owned) × (owned_at n.0 fs ≡ Some b) × IsCleared a b
            b = turned_to IsCleared es fs n turn a is

            one : plain_owner (released held n) n.0 b.0 ≡ new_owner a.level
            one i = record { level = b.2.level_is i; locks = held_by-released held n i; changes = b.2.changes i }

    pub under_finished : (S : Schema) → ((q : ℕ) (p : Owned) → owned_at q es ≡ Some p → IsUnder S p) → (q : ℕ) (p : Owned) → owned_at q fs ≡ Some p → IsUnder S p
    under_finished S each = each_turned (IsUnder S) es fs n turn.others (λ p at. let a = turned_from IsCleared es fs n turn p at in a.2.under S) each

    pub counted_finished : ((q : ℕ) (p : Owned) → owned_at q es ≡ Some p → IsCounted p) → (q : ℕ) (p : Owned) → owned_at q fs ≡ Some p → IsCounted p
    counted_finished each = each_turned IsCounted es fs n turn.others (λ p at. let a = turned_from IsCleared es fs n turn p at in a.2.counted) each

    pub locks_finished : HaveLocks (owners_of held es) held → HaveLocks (owners_of (released held n) fs) (released held n)
    locks_finished have = locks_turned held (released held n) es fs n turn.others (λ q other. held_by-released_other held n q other) have (λ none. held_by-released held n)

  -- ---- one goes

  module _ (turns : TurnsOwned es fs n.0 None) where
    pub owner_went : owners_of held fs ≡ remove (owners_of held es) n.0
    owner_went = owner_gone held held es fs n (turned_others es fs n.0 None turns) (λ q other. refl) (turned_here es fs n.0 None turns)

    pub each_left : (P : Owned → Type 0) → ((q : ℕ) (p : Owned) → owned_at q es ≡ Some p → P p) → (q : ℕ) (p : Owned) → owned_at q fs ≡ Some p → P p
    each_left P each = each_turned P es fs n (turned_others es fs n.0 None turns) (λ p at. (let no : None ≡ Some p = sym (turned_here es fs n.0 None turns) ∙ at in cc)) each

    pub locks_left : HaveLocks (owners_of held es) held → locks_of (owners_of held es) n ≡ set.empty → HaveLocks (owners_of held fs) held
    locks_left have none = locks_turned held held es fs n (turned_others es fs n.0 None turns) (λ q other. refl) have (λ gone. sym (have n) ∙ none)
