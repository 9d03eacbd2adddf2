-- What becomes of the owners where one takes a step, or memory lacks for it.
use Rattle.std.proofs.Common.{ℕ, ◌≡◌, ◌<◌, List, Option, Some, None, Result, Ok, Err, OnOk, OnErr, refl, sym, ap, subst, ◌∙◌}
use Rattle.std.specs.Option.{option_map}
use Rattle.std.specs.FinMap.{get, insert, len}
use Rattle.pss_base.specs.declared.owner.OwnerNo.{OwnerNo}
use Rattle.type_layout.specs.declared.schema.Schema.{Schema}
use Rattle.type_layout.specs.Schemas.{given}
use Rattle.pss_catalog.specs.Catalog.{IsUnique}
use Rattle.pss_machine.specs.Maps.{with_at}
use Rattle.lock_table.specs.Locks.{Held, held_by, granted}
use Rattle.lock_table.specs.Agreement.{HaveLocks}
use Rattle.lock_table.proofs.Owning.{held_by-granted, held_by-granted_other}
use Rattle.owner_view.specs.declared.owned.Owned.{Owned}
use Rattle.tx_session.specs.declared.parts.Parts.{Parts}
use Rattle.owner_view.specs.declared.step.NewState.{NewState}
use Rattle.owner_view.specs.declared.step.Step.{Step}
use Rattle.owner_view.specs.Views.{seen_with}
use Rattle.owner_view.specs.Steps.{IsPut, state_put}
use Rattle.owner_view.specs.Owned.{IsCounted, IsUnder, IsSame, IsReadyFor, MayPutIn}
use Rattle.tx_session.specs.Kept.{owned_at, TurnsBy}
use Rattle.tx_session.specs.Owners.{plain_owner, owners_of, owners_in}
use Rattle.tx_session.specs.Acting.{with_step, MayTake, MayChange, MaySettle, HasSettled, HasStepped, HasTaken}
use Rattle.tx_session.proofs.Turns.{is_owner, owner_turned, owners_same, locks_turned, each_turned, turned_from, turned_to, none_turned, get_owner}

same_Some : {A : Type 0} (x y : A) → Some x ≡ Some y → x ≡ y
same_Some x y e = cc

-- ---- nothing that can be told has changed

same_plain : (held : Held) (n : ℕ) (old new : Owned) → IsSame old new → plain_owner held n new ≡ plain_owner held n old
same_plain held n old new same i = record { level = same.level i; locks = held_by held (record { 0 = n }); changes = same.changes i }

module _ (held : Held) (es fs : List (OwnerNo × Owned)) (n : OwnerNo) (same : TurnsBy IsSame es fs n.0) where
  owners_stay : owners_of held fs ≡ owners_of held es
  owners_stay = owners_same held held es fs n same.others (λ q other. refl) (by (owned_at n.0 es) refl)
    where
      by : (o : Option Owned) → owned_at n.0 es ≡ o → get (owners_of held fs) n.0 ≡ get (owners_of held es) n.0
      by None is = get_owner held fs n.0 ∙ ap (λ o. option_map (plain_owner held n.0) o) (none_turned IsSame es fs n same is ∙ sym is) ∙ sym (get_owner held es n.0)
      by (Some a) is =
          let b = turned_to IsSame es fs n same a is in
          is_owner held fs n.0 b.0 b.1 ∙ ap Some (same_plain held n.0 a b.0 b.2) ∙ sym (is_owner held es n.0 a is)

  indexed_stay : (S : Schema) → ((q : ℕ) (o : Owned) → owned_at q es ≡ Some o → IsUnder S o) → (q : ℕ) (o : Owned) → owned_at q fs ≡ Some o → IsUnder S o
  indexed_stay S each = each_turned (IsUnder S) es fs n same.others (λ b at. let a = turned_from IsSame es fs n same b at in a.2.under S (each n.0 a.0 a.1)) each

  counted_stay : ((q : ℕ) (o : Owned) → owned_at q es ≡ Some o → IsCounted o) → (q : ℕ) (o : Owned) → owned_at q fs ≡ Some o → IsCounted o
  counted_stay each = each_turned IsCounted es fs n same.others (λ b at. let a = turned_from IsSame es fs n same b at in a.2.counted (each n.0 a.0 a.1)) each

  locks_stay : HaveLocks (owners_of held es) held → HaveLocks (owners_of held fs) held
  locks_stay have = subst (λ owners. HaveLocks owners held) (sym owners_stay) have

-- ---- a step

module _ (old between : Owned) (put : Option NewState) (same : IsSame old between) where
  -- with room what a step puts may be put
  abbrev may_put_in : (p : NewState) → MayChange old (Some p) → IsReadyFor (Some p) between → MayPutIn between p
  may_put_in p m ready = record {
    schema = m.schema;
    catalog = m.catalog;
    sound = m.sound;
    unique = subst (λ c. IsUnique m.schema (seen_with m.catalog c)) (sym same.changes) m.unique;
    under = same.under m.schema m.under;
    is = subst (λ c. IsPut m.schema (seen_with m.catalog c) p) (sym same.changes) m.may;
    ready = ready;
    counted = same.counted m.counted;
    few = subst (λ c. len c < 4294967295) (sym same.changes) m.few;
  }

  pub may_settle : MayChange old put → IsReadyFor put between → MaySettle between put
  may_settle m ready = by put m ready
    where
      by : (o : Option NewState) → MayChange old o → IsReadyFor o between → MaySettle between o
      by None m ready = tt
      by (Some p) m ready = may_put_in p m ready

  pub has_stepped : (new : Owned) → MayChange old put → IsReadyFor put between → HasSettled between new put → HasStepped put old new
  has_stepped new m ready settled = by put m ready settled
    where
      by : (o : Option NewState) → MayChange old o → IsReadyFor o between → HasSettled between new o → HasStepped o old new
      by None m ready is = subst (HasStepped None old) (sym is) (record {
        level = same.level;
        changes = same.changes;
        counted = same.counted m.counted;
        under = λ may. same.under may.schema may.under;
      })
      by (Some p) m ready is = record {
        level = is.level ∙ same.level;
        changes = is.changes ∙ ap (λ c. insert c p.serial (state_put p.slot)) same.changes;
        counted = is.counted;
        under = λ may. is.under (may_put_in p may ready);
      }

module _ (S : Schema) (parts : Parts) (n : OwnerNo) (step : Step) (m : MayTake S parts n step) where
  abbrev its_may : MayChange m.owned step.put
  its_may = record {
    schema = S;
    catalog = m.catalog;
    sound = m.sound;
    unique = m.unique;
    under = m.under n.0 m.owned m.there;
    may = m.may;
    counted = m.owners.counted n.0 m.owned m.there;
    few = m.few;
  }

  pub may_change : (owned : Owned) → owned_at n.0 parts.table ≡ Some owned → MayChange owned step.put
  may_change owned at = subst (λ o. MayChange o step.put) (same_Some m.owned owned (sym m.there ∙ at)) its_may

  module _ (fs : List (OwnerNo × Owned)) (turned : TurnsBy (HasStepped step.put) parts.table fs n.0) where
    stepped : (b : Owned) × (owned_at n.0 fs ≡ Some b) × HasStepped step.put m.owned b
    stepped = turned_to (HasStepped step.put) parts.table fs n turned m.owned m.there

    abbrev after : Held
    after = granted parts.locks n step.needs

    pub owners_stepped : owners_of after fs ≡ with_at (owners_in parts) n.0 (with_step step)
    owners_stepped =
        owner_turned parts.locks after parts.table fs n turned.others (λ q other. held_by-granted_other parts.locks n step.needs q other) stepped.0 stepped.1
        ∙ ap (insert (owners_in parts) n.0) one
        ∙ sym (ap (λ o. given o (owners_in parts) (λ x. insert (owners_in parts) n.0 (with_step step x))) (is_owner parts.locks parts.table n.0 m.owned m.there))
      where
        one : plain_owner after n.0 stepped.0 ≡ with_step step (plain_owner parts.locks n.0 m.owned)
        one i = record { level = stepped.2.level i; locks = held_by-granted parts.locks n step.needs i; changes = stepped.2.changes i }

    under_stepped : (q : ℕ) (o : Owned) → owned_at q fs ≡ Some o → IsUnder S o
    under_stepped = each_turned (IsUnder S) parts.table fs n turned.others (λ o at. subst (IsUnder S) (same_Some stepped.0 o (sym stepped.1 ∙ at)) (stepped.2.under its_may)) m.under

    counted_stepped : (q : ℕ) (o : Owned) → owned_at q fs ≡ Some o → IsCounted o
    counted_stepped = each_turned IsCounted parts.table fs n turned.others (λ o at. subst IsCounted (same_Some stepped.0 o (sym stepped.1 ∙ at)) stepped.2.counted) m.owners.counted

    locks_stepped : HaveLocks (owners_of after fs) after
    locks_stepped =
        locks_turned parts.locks after parts.table fs n turned.others (λ q other. held_by-granted_other parts.locks n step.needs q other) m.owners.locks
        (λ none. (let no : None ≡ Some stepped.0 = sym none ∙ stepped.1 in cc))

  -- what is kept after a step, or where memory lacked for it
  pub record AreKept {A E : Type 0} (r : Result A E) (held : Held) (fs : List (OwnerNo × Owned)) : Type 0 where
    pub stepped : OnOk r (owners_of held fs ≡ with_at (owners_in parts) n.0 (with_step step))
    pub err : OnErr r (owners_of held fs ≡ owners_in parts)
    pub under : (q : ℕ) (o : Owned) → owned_at q fs ≡ Some o → IsUnder S o
    pub counted : (q : ℕ) (o : Owned) → owned_at q fs ≡ Some o → IsCounted o
    pub locks : HaveLocks (owners_of held fs) held

  pub kept_after :
      {A E : Type 0} (r : Result A E) (held : Held) (fs : List (OwnerNo × Owned)) → TurnsBy (HasTaken r step.put) parts.table fs n.0 → OnOk r (held ≡ granted parts.locks n step.needs) → OnErr r (held ≡ parts.locks)
      → AreKept r held fs
  kept_after {A} {E} (Ok a) held fs turned is err = subst (λ (h : Held). AreKept {A = A} {E = E} (Ok a) h fs) (sym is) (record {
    stepped = owners_stepped fs turned;
    err = tt;
    under = under_stepped fs turned;
    counted = counted_stepped fs turned;
    locks = locks_stepped fs turned;
  })
  kept_after {A} {E} (Err e) held fs turned ok is = subst (λ (h : Held). AreKept {A = A} {E = E} (Err e) h fs) (sym is) (record {
    stepped = tt;
    err = owners_stay parts.locks parts.table fs n turned;
    under = indexed_stay parts.locks parts.table fs n turned S m.under;
    counted = counted_stay parts.locks parts.table fs n turned m.owners.counted;
    locks = locks_stay parts.locks parts.table fs n turned m.owners.locks;
  })
