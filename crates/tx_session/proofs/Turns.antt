-- The machine's owners follow the table of owners and their locks.
use Rattle.std.proofs.Common.{ℕ, ◌≡◌, ◌==◌, List, [], ◌∷◌, Option, Some, None, Bool, true, false, cond, refl, sym, ap, subst, ◌∙◌}
use Rattle.std.specs.Option.{option_map, unwrap_or}
use Rattle.std.specs.Ordering.{nat_cmp, eq_by_cmp}
use Rattle.std.specs.Cmp.{nat_cmp_total, nat_eq_equiv}
use Rattle.std.specs.FinMap.{get, insert, remove, get-empty, get-insert, get-remove, same_map, nat_cmp-IsAntisymmetric}
use Rattle.std.specs.FinSet as set
use Rattle.std.proofs.lemmas.Bool.{eq-eqb}
use Rattle.pss_base.specs.declared.owner.OwnerNo.{OwnerNo}
use Rattle.pss_catalog.proofs.Listing.{tie}
use Rattle.pss_machine.specs.Owners.{Owner}
use Rattle.lock_table.specs.Locks.{Held, held_by}
use Rattle.lock_table.specs.Agreement.{HaveLocks, locks_of}
use Rattle.owner_view.specs.declared.owned.Owned.{Owned}
use Rattle.tx_session.specs.Kept.{owned_at, Both, TurnsBy, TurnsOwned}
use Rattle.tx_session.specs.Owners.{plain_owner, owners_of}
use Rattle.owner_view.proofs.Tests.{by_test, same_number}

abbrev numbered : ℕ → OwnerNo
numbered n = record { 0 = n }

-- ---- an owner of the table is one of the machine

pub get_owner : (held : Held) (es : List (OwnerNo × Owned)) (n : ℕ) → get (owners_of held es) n ≡ option_map (plain_owner held n) (owned_at n es)
get_owner held [] n = get-empty nat_cmp n
get_owner held (e ∷ es) n =
    get-insert nat_cmp_total (owners_of held es) e.0.0 (plain_owner held e.0.0 e.1) n
    ∙ ap (λ b. cond b (Some (plain_owner held e.0.0 e.1)) (get (owners_of held es) n)) (tie n e.0.0)
    ∙ by_test (λ b. (n == e.0.0) ≡ b → cond b (Some (plain_owner held e.0.0 e.1)) (get (owners_of held es) n) ≡ option_map (plain_owner held n) (cond b (Some e.1) (owned_at n es))) (n == e.0.0)
    (λ _ is. ap (λ (k : ℕ). Some (plain_owner held k e.1)) (sym (same_number n e.0.0 is)))
    (λ _ _. get_owner held es n)
    refl

pub is_owner : (held : Held) (es : List (OwnerNo × Owned)) (n : ℕ) (o : Owned) → owned_at n es ≡ Some o → get (owners_of held es) n ≡ Some (plain_owner held n o)
is_owner held es n o at = get_owner held es n ∙ ap (option_map (plain_owner held n)) at

pub no_owner : (held : Held) (es : List (OwnerNo × Owned)) (n : ℕ) → owned_at n es ≡ None → get (owners_of held es) n ≡ None
no_owner held es n none = get_owner held es n ∙ ap (option_map (plain_owner held n)) none

-- what is kept of an owner of the machine
pub kept_of : (held : Held) (es : List (OwnerNo × Owned)) (n : ℕ) (owner : Owner) → get (owners_of held es) n ≡ Some owner → (o : Owned) × (owned_at n es ≡ Some o) × (plain_owner held n o ≡ owner)
kept_of held es n owner at = by (owned_at n es) refl (sym (get_owner held es n) ∙ at)
  where
    by : (o : Option Owned) → owned_at n es ≡ o → option_map (plain_owner held n) o ≡ Some owner → (o : Owned) × (owned_at n es ≡ Some o) × (plain_owner held n o ≡ owner)
    by None is e = cc
    by (Some o) is e = (o, is, cc)

-- ---- one of them turns

not_same : (n q : ℕ) → (n == q) ≡ false → eq_by_cmp nat_cmp q n ≡ false
not_same n q other = tie q n ∙ nat_eq_equiv.symm q n ∙ other

-- one is another
pub apart : (n : OwnerNo) (q : ℕ) → (n.0 == q) ≡ false → numbered q ≡ n → ⊥
apart n q other same = let is : true ≡ false = sym (eq-eqb n.0 q (sym (ap (λ (o : OwnerNo). o.0) same))) ∙ other in cc

pub split : {P : Type 0} (n q : ℕ) → ((n == q) ≡ true → P) → ((n == q) ≡ false → P) → P
split {P} n q here other = by (n == q) refl
  where
    by : (b : Bool) → (n == q) ≡ b → P
    by true is = here is
    by false is = other is

module _ (held after : Held) (es fs : List (OwnerNo × Owned)) (n : OwnerNo) (others : (q : ℕ) → (n.0 == q) ≡ false → owned_at q fs ≡ owned_at q es)
    (locks : (q : OwnerNo) → (q ≡ n → ⊥) → held_by after q ≡ held_by held q) where
  other_same : (q : ℕ) → (n.0 == q) ≡ false → get (owners_of after fs) q ≡ get (owners_of held es) q
  other_same q other =
      get_owner after fs q ∙ ap (option_map (plain_owner after q)) (others q other) ∙ by (owned_at q es) ∙ sym (get_owner held es q)
    where
      by : (o : Option Owned) → option_map (plain_owner after q) o ≡ option_map (plain_owner held q) o
      by None = refl
      by (Some o) = (let same = locks (numbered q) (apart n q other) in λ i. Some (record { level = o.level; locks = same i; changes = (plain_owner held q o).changes }))

  -- another is in its place
  pub owner_turned : (o : Owned) → owned_at n.0 fs ≡ Some o → owners_of after fs ≡ insert (owners_of held es) n.0 (plain_owner after n.0 o)
  owner_turned o at = same_map nat_cmp_total nat_cmp-IsAntisymmetric _ _ (λ q. split n.0 q (here q) (there q))
    where
      here : (q : ℕ) → (n.0 == q) ≡ true → get (owners_of after fs) q ≡ get (insert (owners_of held es) n.0 (plain_owner after n.0 o)) q
      here q is =
          subst (λ (k : ℕ). get (owners_of after fs) k ≡ get (insert (owners_of held es) n.0 (plain_owner after n.0 o)) k) (same_number n.0 q is)
          (is_owner after fs n.0 o at ∙ sym (get-insert nat_cmp_total (owners_of held es) n.0 (plain_owner after n.0 o) n.0 ∙ ap (λ b. cond b (Some (plain_owner after n.0 o)) (get (owners_of held es) n.0)) (tie n.0 n.0 ∙ eq-eqb n.0 n.0 refl)))

      there : (q : ℕ) → (n.0 == q) ≡ false → get (owners_of after fs) q ≡ get (insert (owners_of held es) n.0 (plain_owner after n.0 o)) q
      there q other = other_same q other ∙ sym (get-insert nat_cmp_total (owners_of held es) n.0 (plain_owner after n.0 o) q ∙ ap (λ b. cond b (Some (plain_owner after n.0 o)) (get (owners_of held es) q)) (not_same n.0 q other))

  -- it is gone
  pub owner_gone : owned_at n.0 fs ≡ None → owners_of after fs ≡ remove (owners_of held es) n.0
  owner_gone none = same_map nat_cmp_total nat_cmp-IsAntisymmetric _ _ (λ q. split n.0 q (here q) (there q))
    where
      here : (q : ℕ) → (n.0 == q) ≡ true → get (owners_of after fs) q ≡ get (remove (owners_of held es) n.0) q
      here q is =
          subst (λ (k : ℕ). get (owners_of after fs) k ≡ get (remove (owners_of held es) n.0) k) (same_number n.0 q is)
          (no_owner after fs n.0 none ∙ sym (get-remove nat_cmp_total (owners_of held es) n.0 n.0 ∙ ap (λ b. cond b None (get (owners_of held es) n.0)) (tie n.0 n.0 ∙ eq-eqb n.0 n.0 refl)))

      there : (q : ℕ) → (n.0 == q) ≡ false → get (owners_of after fs) q ≡ get (remove (owners_of held es) n.0) q
      there q other = other_same q other ∙ sym (get-remove nat_cmp_total (owners_of held es) n.0 q ∙ ap (λ b. cond b None (get (owners_of held es) q)) (not_same n.0 q other))

  -- the machine's owners are the same, where this one is
  pub owners_same : get (owners_of after fs) n.0 ≡ get (owners_of held es) n.0 → owners_of after fs ≡ owners_of held es
  owners_same same = same_map nat_cmp_total nat_cmp-IsAntisymmetric _ _ (λ q. split n.0 q (λ is. subst (λ (k : ℕ). get (owners_of after fs) k ≡ get (owners_of held es) k) (same_number n.0 q is) same) (other_same q))

  -- each lock is that of an owner
  pub locks_turned : HaveLocks (owners_of held es) held → (owned_at n.0 fs ≡ None → held_by after n ≡ set.empty) → HaveLocks (owners_of after fs) after
  locks_turned have none q = by (owned_at q.0 fs) refl
    where
      no_lock : owned_at q.0 fs ≡ None → held_by after q ≡ set.empty
      no_lock is = split n.0 q.0
          (λ same. subst (λ (k : OwnerNo). owned_at k.0 fs ≡ None → held_by after k ≡ set.empty) (ap numbered (same_number n.0 q.0 same)) none is)
          (λ other. locks q (apart n q.0 other) ∙ sym (have q) ∙ ap (λ (o : Option Owner). unwrap_or (option_map (λ owner. owner.locks) o) set.empty) (no_owner held es q.0 (sym (others q.0 other) ∙ is)))

      by : (o : Option Owned) → owned_at q.0 fs ≡ o → locks_of (owners_of after fs) q ≡ held_by after q
      by None is = ap (λ (o : Option Owner). unwrap_or (option_map (λ owner. owner.locks) o) set.empty) (no_owner after fs q.0 is) ∙ sym (no_lock is)
      by (Some o) is = ap (λ (o : Option Owner). unwrap_or (option_map (λ owner. owner.locks) o) set.empty) (is_owner after fs q.0 o is)

-- ---- what holds of each

-- what held of each holds of each where it does of the one that turned
pub each_turned :
    (P : Owned → Type 0) (es fs : List (OwnerNo × Owned)) (n : OwnerNo) → ((q : ℕ) → (n.0 == q) ≡ false → owned_at q fs ≡ owned_at q es) → ((o : Owned) → owned_at n.0 fs ≡ Some o → P o)
    → ((q : ℕ) (o : Owned) → owned_at q es ≡ Some o → P o) → (q : ℕ) (o : Owned) → owned_at q fs ≡ Some o → P o
each_turned P es fs n others one each q o at = split n.0 q (λ is. one o (ap (λ (k : ℕ). owned_at k fs) (same_number n.0 q is) ∙ at)) (λ other. each q o (sym (others q other) ∙ at))

module _ (Turns : Owned → Owned → Type 0) (es fs : List (OwnerNo × Owned)) (n : OwnerNo) (turn : TurnsBy Turns es fs n.0) where
  -- the one that turned was there
  pub turned_from : (b : Owned) → owned_at n.0 fs ≡ Some b → (a : Owned) × (owned_at n.0 es ≡ Some a) × Turns a b
  turned_from b at = by (owned_at n.0 es) refl (subst (Both Turns (owned_at n.0 es)) at turn.here)
    where
      by : (o : Option Owned) → owned_at n.0 es ≡ o → Both Turns o (Some b) → (a : Owned) × (owned_at n.0 es ≡ Some a) × Turns a b
      by None is never = absurd never
      by (Some a) is turns = (a, is, turns)

  pub turned_to : (a : Owned) → owned_at n.0 es ≡ Some a → (b : Owned) × (owned_at n.0 fs ≡ Some b) × Turns a b
  turned_to a at = by (owned_at n.0 fs) refl (subst (λ o. Both Turns o (owned_at n.0 fs)) at turn.here)
    where
      by : (o : Option Owned) → owned_at n.0 fs ≡ o → Both Turns (Some a) o → (b : Owned) × (owned_at n.0 fs ≡ Some b) × Turns a b
      by None is never = absurd never
      by (Some b) is turns = (b, is, turns)

  pub none_turned : owned_at n.0 es ≡ None → owned_at n.0 fs ≡ None
  none_turned none = by (owned_at n.0 fs) refl (subst (λ o. Both Turns o (owned_at n.0 fs)) none turn.here)
    where
      by : (o : Option Owned) → owned_at n.0 fs ≡ o → Both Turns None o → owned_at n.0 fs ≡ None
      by None is both = is
      by (Some b) is never = absurd never

-- one is put in a place, or goes
pub turned_others : (es fs : List (OwnerNo × Owned)) (n : ℕ) (o : Option Owned) → TurnsOwned es fs n o → (q : ℕ) → (n == q) ≡ false → owned_at q fs ≡ owned_at q es
turned_others es fs n o turns q other = turns q ∙ ap (λ b. cond b o (owned_at q es)) other

pub turned_here : (es fs : List (OwnerNo × Owned)) (n : ℕ) (o : Option Owned) → TurnsOwned es fs n o → owned_at n fs ≡ o
turned_here es fs n o turns = turns n ∙ ap (λ b. cond b o (owned_at n es)) (eq-eqb n n refl)

-- one that was there has become another
pub turned_by : (Turns : Owned → Owned → Type 0) (es fs : List (OwnerNo × Owned)) (n : ℕ) (a b : Owned) → Some a ≡ owned_at n es → TurnsOwned es fs n (Some b) → Turns a b → TurnsBy Turns es fs n
turned_by Turns es fs n a b was turns one = record {
  here = subst (λ o. Both Turns o (owned_at n fs)) was (subst (Both Turns (Some a)) (sym (turned_here es fs n (Some b) turns)) one);
  others = turned_others es fs n (Some b) turns;
}
