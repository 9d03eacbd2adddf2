-- The machine's owners and a table that has their locks: the same blocker, and as many locks.
use Rattle.std.proofs.Common.{ℕ, ◌≡◌, ◌==◌, List, Option, Some, None, Bool, true, false, cond, not, refl, sym, ap, ◌∙◌}
use Rattle.std.specs.Prelude.{◌&&◌, map, sum}
use Rattle.std.specs.List.{list_any}
use Rattle.std.specs.Option.{option_map, unwrap_or}
use Rattle.std.specs.Ordering.{nat_cmp}
use Rattle.std.specs.FinMap as map
use Rattle.std.specs.FinSet as set
use Rattle.pss_base.specs.declared.owner.OwnerNo.{OwnerNo}
use Rattle.pss_machine.specs.declared.lock.Need.{Need}
use Rattle.pss_machine.specs.Needs.{Locks, need_cmp, clash, hold_up}
use Rattle.pss_machine.specs.Owners.{Owner, Owners}
use Rattle.pss_machine.specs.Owners as machine
use Rattle.lock_table.specs.Locks.{Held, held_by, with_locks, granted, released, blocker, lock_count}
use Rattle.std.proofs.lemmas.Bool.{eqb-true, eq-eqb}
use Rattle.lock_table.specs.Blockers.{HoldsUp, IsLeastBlocker}
use Rattle.lock_table.specs.Agreement.{HaveLocks}
use Rattle.std.specs.Ordering.{eq_by_cmp}
use Rattle.std.specs.Cmp.{nat_cmp_total}
use Rattle.pss_machine.proofs.NeedSets.{need_total, need_apart}
use Rattle.lock_table.proofs.Entries.{both_true}
use Rattle.lock_table.proofs.Holding.{has, has-with_locks, owner_itself, owner_tied}
use Rattle.lock_table.proofs.Counting.{same_totals}
use Rattle.lock_table.proofs.Least.{first_least, one_least}
use Rattle.lock_table.proofs.Blocking.{blocks, among_any, any_among}

-- the same of the machine's owners
abbrev holds_up : OwnerNo → List Need → ℕ × Owner → Bool
holds_up n wanted e = not (e.0 == n.0) && hold_up e.1.locks wanted

-- no lock of no locks
none_hold_up : (wanted : List Need) → hold_up set.empty wanted ≡ true → ⊥
none_hold_up wanted e = let a = among_any (λ x. list_any (clash x) wanted) set.empty e in let f : true ≡ false = sym a.there ∙ set.contains-empty need_cmp a.need in absurd (cc)

module _ (owners : Owners) (held : Held) (agree : HaveLocks owners held) (n : OwnerNo) (wanted : List Need) where
  -- an owner with such a lock is in the one where it is in the other
  in_owners : (k : ℕ) (locks : Locks) → map.get held k ≡ Some locks → blocks n wanted (k, locks) ≡ true → (owner : Owner) × (map.get owners k ≡ Some owner) × (holds_up n wanted (k, owner) ≡ true)
  in_owners k locks at t = by (map.get owners k) refl (agree (record { 0 = k }))
    where
      by : (o : Option Owner) → map.get owners k ≡ o → unwrap_or (option_map (λ owner. owner.locks) o) set.empty ≡ held_by held (record { 0 = k }) → (owner : Owner) × (map.get owners k ≡ Some owner) × (holds_up n wanted (k, owner) ≡ true)
      by None e same = absurd (none_hold_up wanted (ap (λ s. hold_up s wanted) (same ∙ ap (λ (o : Option Locks). unwrap_or o set.empty) at) ∙ (both_true (not (k == n.0)) (hold_up locks wanted) t).1))
      by (Some owner) e same = (owner, e, ap (λ s. not (k == n.0) && hold_up s wanted) (same ∙ ap (λ (o : Option Locks). unwrap_or o set.empty) at) ∙ t)

  in_held : (k : ℕ) (owner : Owner) → map.get owners k ≡ Some owner → holds_up n wanted (k, owner) ≡ true → (locks : Locks) × (map.get held k ≡ Some locks) × (blocks n wanted (k, locks) ≡ true)
  in_held k owner at t = by (map.get held k) refl (sym (ap (λ (o : Option Owner). unwrap_or (option_map (λ owner. owner.locks) o) set.empty) at) ∙ agree (record { 0 = k }))
    where
      by : (o : Option Locks) → map.get held k ≡ o → owner.locks ≡ held_by held (record { 0 = k }) → (locks : Locks) × (map.get held k ≡ Some locks) × (blocks n wanted (k, locks) ≡ true)
      by None e same = absurd (none_hold_up wanted (ap (λ s. hold_up s wanted) (sym (same ∙ ap (λ (o : Option Locks). unwrap_or o set.empty) e)) ∙ (both_true (not (k == n.0)) (hold_up owner.locks wanted) t).1))
      by (Some locks) e same = (locks, e, ap (λ s. not (k == n.0) && hold_up s wanted) (sym (same ∙ ap (λ (o : Option Locks). unwrap_or o set.empty) e)) ∙ t)

  -- the machine's blocker is that of the table
  pub same_blocker : machine.blocker owners n wanted ≡ blocker held n wanted
  same_blocker =
      let l = first_least (holds_up n wanted) owners in
      one_least (blocks n wanted) held (machine.blocker owners n wanted) (blocker held n wanted)
      (record {
        none = λ k v e at t. let w = in_owners k v at t in l.none k w.0 e w.1 w.2;
        some = λ b e. let s = l.some b e in in_held b.0 s.0 s.1 s.2;
        least = λ b k v e at t. let w = in_owners k v at t in l.least b k w.0 e w.1 w.2;
      })
      (first_least (blocks n wanted) held)

-- and there are as many locks
pub same_counts : (owners : Owners) (held : Held) → HaveLocks owners held → sum (map (λ e. set.len e.1.locks) (map.entries owners)) ≡ lock_count held
same_counts owners held agree = same_totals (λ (owner : Owner). set.len owner.locks) set.len owners held (λ k. left (map.get owners k) ∙ ap set.len (agree (record { 0 = k })) ∙ sym (right (map.get held k)))
  where
    left : (o : Option Owner) → unwrap_or (option_map (λ (owner : Owner). set.len owner.locks) o) 0 ≡ set.len (unwrap_or (option_map (λ owner. owner.locks) o) set.empty)
    left None = sym (set.len-empty need_cmp)
    left (Some owner) = refl

    right : (o : Option Locks) → unwrap_or (option_map set.len o) 0 ≡ set.len (unwrap_or o set.empty)
    right None = sym (set.len-empty need_cmp)
    right (Some locks) = refl

-- ---- what granting and releasing leave, owner by owner

module _ (held : Held) (owner : OwnerNo) where
  locks_here : (locks : Locks) → held_by (with_locks held owner locks) owner ≡ locks
  locks_here locks = set.same_set need_total need_apart (held_by (with_locks held owner locks) owner) locks (λ need. has-with_locks held owner locks owner need ∙ ap (λ b. cond b (set.contains locks need) (has held owner need)) (owner_itself owner))

  apart : (q : OwnerNo) → (q ≡ owner → ⊥) → eq_by_cmp nat_cmp q.0 owner.0 ≡ false
  apart q ne = by (eq_by_cmp nat_cmp q.0 owner.0) refl
    where
      by : (b : Bool) → eq_by_cmp nat_cmp q.0 owner.0 ≡ b → b ≡ false
      by true is = absurd (ne (owner_tied q owner is))
      by false is = refl

  pub held_by-granted : (needs : List Need) → held_by (granted held owner needs) owner ≡ set.union (held_by held owner) (set.from_list needs)
  held_by-granted needs = locks_here (set.union (held_by held owner) (set.from_list needs))

  pub held_by-granted_other : (needs : List Need) (q : OwnerNo) → (q ≡ owner → ⊥) → held_by (granted held owner needs) q ≡ held_by held q
  held_by-granted_other needs q ne =
      set.same_set need_total need_apart (held_by (granted held owner needs) q) (held_by held q) (λ need.
      has-with_locks held owner (set.union (held_by held owner) (set.from_list needs)) q need ∙ ap (λ b. cond b (set.contains (set.union (held_by held owner) (set.from_list needs)) need) (has held q need)) (apart q ne))

  pub held_by-released : held_by (released held owner) owner ≡ set.empty
  held_by-released = ap (λ (o : Option Locks). unwrap_or o set.empty) (map.get-remove nat_cmp_total held owner.0 owner.0 ∙ ap (λ b. cond b None (map.get held owner.0)) (owner_itself owner))

  pub held_by-released_other : (q : OwnerNo) → (q ≡ owner → ⊥) → held_by (released held owner) q ≡ held_by held q
  held_by-released_other q ne = ap (λ (o : Option Locks). unwrap_or o set.empty) (map.get-remove nat_cmp_total held owner.0 q.0 ∙ ap (λ b. cond b None (map.get held q.0)) (apart q ne))

-- ---- a blocker, owner by owner

module _ (held : Held) (owner : OwnerNo) (needs : List Need) where
  other_owner : (n : OwnerNo) → (n ≡ owner → ⊥) → not (n.0 == owner.0) ≡ true
  other_owner n ne = by (n.0 == owner.0) refl
    where
      by : (b : Bool) → (n.0 == owner.0) ≡ b → not b ≡ true
      by true is = absurd (ne (ap (λ (m : ℕ). record { 0 = m }) (eqb-true n.0 owner.0 is)))
      by false is = refl

  -- in the words of the map
  record Entry (n : OwnerNo) : Type 0 where
    pub locks : Locks
    pub at : map.get held n.0 ≡ Some locks
    pub passes : blocks owner needs (n.0, locks) ≡ true

  entry : (n : OwnerNo) → (n ≡ owner → ⊥) → HoldsUp held needs n → Entry n
  entry n ne h = by (map.get held n.0) refl h.1
    where
      by : (o : Option Locks) → map.get held n.0 ≡ o → set.contains (unwrap_or o set.empty) h.0 ≡ true → Entry n
      by None e there = let f : true ≡ false = sym there ∙ set.contains-empty need_cmp h.0 in absurd (cc)
      by (Some locks) e there = record { locks = locks; at = e; passes = (λ i. other_owner n ne i && any_among (λ x. list_any (clash x) needs) locks h.0 there h.2 i) }

  pub least_blocker : IsLeastBlocker held owner needs (blocker held owner needs)
  least_blocker =
      let l = first_least (blocks owner needs) held in
      record {
        none = λ e n ne h. let x = entry n ne h in l.none n.0 x.locks e x.at x.passes;
        some = λ b e. let s = l.some b e in told b s.0 s.1 s.2;
        least = λ b n e ne h. let x = entry n ne h in l.least b n.0 x.locks e x.at x.passes;
      }
    where
      told : (b : OwnerNo) (locks : Locks) → map.get held b.0 ≡ Some locks → blocks owner needs (b.0, locks) ≡ true → (b ≡ owner → ⊥) × HoldsUp held needs b
      told b locks at t =
          let h = both_true (not (b.0 == owner.0)) (hold_up locks needs) t in
          let a = among_any (λ x. list_any (clash x) needs) locks h.1 in
          (λ same. away b same h.0, (a.need, ap (λ (o : Option Locks). set.contains (unwrap_or o set.empty) a.need) at ∙ a.there, a.passes))
        where
          away : (b : OwnerNo) → b ≡ owner → not (b.0 == owner.0) ≡ true → ⊥
          away b same e = let f : not (b.0 == owner.0) ≡ false = ap not (eq-eqb b.0 owner.0 (ap (λ (o : OwnerNo). o.0) same)) in let g : true ≡ false = sym e ∙ f in absurd (cc)
