-- All locks of an owner go.
use Rattle.std.proofs.Common.{ℕ, zero, suc, ◌≡◌, ◌+◌, ◌-◌, ◌==◌, ⊎_elim, List, [], ◌∷◌, Option, Some, None, Bool, true, false, cond, refl, sym, ap, ◌∙◌, subst, arith}
use Rattle.std.specs.Prelude.{Contains}
use Rattle.std.specs.Option.{option_map, unwrap_or}
use Rattle.std.specs.Ordering.{nat_cmp, eq_by_cmp}
use Rattle.std.specs.Cmp.{nat_cmp_total}
use Rattle.std.proofs.lemmas.Bool.{eqb-true}
use Rattle.std.specs.FinMap as map
use Rattle.std.specs.FinMap.{nat_cmp-IsAntisymmetric}
use Rattle.std.specs.FinSet as set
use Rattle.pss_base.specs.declared.owner.OwnerNo.{OwnerNo}
use Rattle.pss_machine.specs.declared.lock.Need.{Need}
use Rattle.pss_machine.specs.Needs.{Locks, need_cmp}
use Rattle.pss_machine.proofs.NeedSets.{need_total, need_apart}
use Rattle.link_pool.specs.Meaning.{col_in}
use Rattle.link_pool.specs.declared.names.Col.{Col}
use Rattle.link_pool.specs.declared.names.Node.{Node}
use Rattle.lock_table.specs.declared.links.Lock.{Lock}
use Rattle.lock_table.specs.declared.places.FoundPlace.{FoundPlace}
use Rattle.lock_table.specs.declared.links.Links.{Links}
use Rattle.lock_table.specs.Locks.{Held, held_by, with_locks, released}
use Rattle.lock_table.specs.Standing.{need_of}
use Rattle.lock_table.specs.inner.Nodes.{held_in, without_lock}
use Rattle.lock_table.specs.inner.Tables.{entry_at}
use Rattle.lock_table.specs.inner.Links.{IsLinked, IsWhole, IsReleasing, EmptyRows, EmptyCols, Unlinks, same_owner, owner_in, col_at}
use Rattle.lock_table.proofs.Keyed.{empty_within, contains_first, contains_cases}
use Rattle.lock_table.proofs.Entries.{tied}
use Rattle.lock_table.proofs.Added.{col_seated}
use Rattle.lock_table.proofs.Emptied.{nothing_in}
use Rattle.lock_table.proofs.Holding.{has, IsTight, held_node, held_same, tight-held_of, owner_itself}

-- an owner without a lock is not named
pub no_locks : (held : Held) → IsTight held → (owner : OwnerNo) → ((need : Need) → has held owner need ≡ false) → map.get held owner.0 ≡ None
no_locks held tight owner none = by (map.get held owner.0) refl
  where
    by : (o : Option Locks) → map.get held owner.0 ≡ o → map.get held owner.0 ≡ None
    by None e = e
    by (Some s) e =
        let empty : s ≡ set.empty = set.same_set need_total need_apart s set.empty (λ need. ap (λ (o : Option Locks). set.contains (unwrap_or o set.empty) need) (sym e) ∙ none need ∙ sym (set.contains-empty need_cmp need)) in
        absurd (tight owner.0 s e (ap set.len empty ∙ set.len-empty need_cmp))

pub no_count : (held : Held) (owner : OwnerNo) → map.get held owner.0 ≡ None → set.len (held_by held owner) ≡ 0
no_count held owner e = ap (λ (o : Option Locks). set.len (unwrap_or o set.empty)) e ∙ set.len-empty need_cmp

pub released_already : (held : Held) (owner : OwnerNo) → map.get held owner.0 ≡ None → released held owner ≡ held
released_already held owner e = map.same_map nat_cmp_total nat_cmp-IsAntisymmetric (released held owner) held (λ n. map.get-remove nat_cmp_total held owner.0 n ∙ by n (eq_by_cmp nat_cmp n owner.0) refl)
  where
    by : (n : ℕ) (b : Bool) → eq_by_cmp nat_cmp n owner.0 ≡ b → cond b None (map.get held n) ≡ map.get held n
    by n true is = sym (ap (map.get held) (tied nat_cmp_total nat_cmp-IsAntisymmetric n owner.0 is) ∙ e)
    by n false is = refl

-- ---- one lock fewer of the owner

released_less : (held : Held) (owner : OwnerNo) (locks : Locks) → released (with_locks held owner locks) owner ≡ released held owner
released_less held owner locks = map.same_map nat_cmp_total nat_cmp-IsAntisymmetric (released (with_locks held owner locks) owner) (released held owner) (λ n. map.get-remove nat_cmp_total (with_locks held owner locks) owner.0 n ∙ by n (eq_by_cmp nat_cmp n owner.0) refl ∙ sym (map.get-remove nat_cmp_total held owner.0 n))
  where
    inside : (n : ℕ) (z : Bool) → eq_by_cmp nat_cmp n owner.0 ≡ false → map.get (cond z (map.remove held owner.0) (map.insert held owner.0 locks)) n ≡ map.get held n
    inside n true ne = map.get-remove nat_cmp_total held owner.0 n ∙ ap (λ b. cond b None (map.get held n)) ne
    inside n false ne = map.get-insert nat_cmp_total held owner.0 locks n ∙ ap (λ b. cond b (Some locks) (map.get held n)) ne

    by : (n : ℕ) (b : Bool) → eq_by_cmp nat_cmp n owner.0 ≡ b → cond b None (map.get (with_locks held owner locks) n) ≡ cond b None (map.get held n)
    by n true is = refl
    by n false is = inside n (set.len locks == 0) is

held_by-with_locks : (held : Held) (owner : OwnerNo) (locks : Locks) → set.len (held_by (with_locks held owner locks) owner) ≡ set.len locks
held_by-with_locks held owner locks = by (set.len locks == 0) refl
  where
    by : (z : Bool) → (set.len locks == 0) ≡ z → set.len (unwrap_or (map.get (cond z (map.remove held owner.0) (map.insert held owner.0 locks)) owner.0) set.empty) ≡ set.len locks
    by true is =
        ap (λ (o : Option Locks). set.len (unwrap_or o set.empty)) (map.get-remove nat_cmp_total held owner.0 owner.0 ∙ ap (λ b. cond b None (map.get held owner.0)) (owner_itself owner)) ∙ set.len-empty need_cmp
        ∙ sym (eqb-true (set.len locks) 0 is)
    by false is = ap (λ (o : Option Locks). set.len (unwrap_or o set.empty)) (map.get-insert nat_cmp_total held owner.0 locks owner.0 ∙ ap (λ b. cond b (Some locks) (map.get held owner.0)) (owner_itself owner))

len_less : (s : Locks) (need : Need) → set.contains s need ≡ true → set.len (set.remove s need) + 1 ≡ set.len s
len_less s need there =
    let less : set.len (set.remove s need) ≡ set.len s - 1 = set.len-remove need_total s need ∙ ap (λ b. cond b (set.len s - 1) (set.len s)) there in
    by (set.len s) refl less
  where
    by : (n : ℕ) → set.len s ≡ n → set.len (set.remove s need) ≡ n - 1 → set.len (set.remove s need) + 1 ≡ n
    by zero e less = let f : true ≡ false = sym there ∙ ap (λ z. set.contains z need) (set.empty_of_len s e) ∙ set.contains-empty need_cmp need in absurd (cc)
    by (suc n) e less = omega (arith, less)

-- ---- of what a call unlinked

module _ (old new : Links) (owner : OwnerNo) (col : Col) (lock : Lock) (left : FoundPlace) (was : IsReleasing old owner col) (linked : IsLinked new) (u : Unlinks old new col lock left) where
  same_one : lock.owner ≡ owner
  same_one = was.linked.cols.apart lock.owner owner col u.own was.at

  -- after its empty row is gone
  module _ (after : Links) (nodes : after.pool.nodes ≡ new.pool.nodes) where
    held_is : held_in after.pool ≡ without_lock lock (held_in old.pool)
    held_is = held_same new.pool after.pool nodes ∙ u.held

    pub others_released : released (held_in after.pool) owner ≡ released (held_in old.pool) owner
    others_released =
        ap (λ h. released h owner) held_is
        ∙ subst (λ (o : OwnerNo). released (with_locks (held_in old.pool) o (set.remove (held_by (held_in old.pool) o) (need_of lock))) owner ≡ released (held_in old.pool) owner) (sym same_one) (released_less (held_in old.pool) owner (set.remove (held_by (held_in old.pool) owner) (need_of lock)))

    pub one_fewer : set.len (held_by (held_in after.pool) owner) + 1 ≡ set.len (held_by (held_in old.pool) owner)
    one_fewer =
        ap (λ h. set.len (held_by h owner) + 1) held_is
        ∙ subst (λ (o : OwnerNo). set.len (held_by (with_locks (held_in old.pool) o (set.remove (held_by (held_in old.pool) o) (need_of lock))) owner) + 1 ≡ set.len (held_by (held_in old.pool) owner)) (sym same_one)
        (ap (λ n. n + 1) (held_by-with_locks (held_in old.pool) owner (set.remove (held_by (held_in old.pool) owner) (need_of lock)))
        ∙ len_less (held_by (held_in old.pool) owner) (need_of lock) (ap (λ o. has (held_in old.pool) o (need_of lock)) (sym same_one) ∙ u.had))

    pub still_releasing : IsLinked after → EmptyRows after [] → ((keys : List OwnerNo) → EmptyCols new keys → EmptyCols after keys) → after.columns.entries ≡ new.columns.entries → IsReleasing after owner col
    still_releasing linked rows cols columns = record {
      linked = linked;
      rows = rows;
      cols = cols (owner ∷ []) (empty_within (λ c. map.get new.pool.cols c ≡ Some []) (col_at new) (lock.owner ∷ owner ∷ []) (owner ∷ []) within (u.cols (owner ∷ []) was.cols));
      at = ap (λ es. entry_at same_owner es owner) (columns ∙ u.columns) ∙ was.at;
    }
      where
        within : (k : OwnerNo) → Contains (lock.owner ∷ owner ∷ []) k → Contains (owner ∷ []) k
        within k m = ⊎_elim (λ (e : lock.owner ≡ k). subst (Contains (owner ∷ [])) (sym same_one ∙ e) (contains_first owner [])) (λ n. n) (contains_cases lock.owner k (owner ∷ []) m)

  pub one_empty : EmptyRows new (lock.resource ∷ [])
  one_empty = u.rows [] was.rows

-- ---- the end

-- no node is of the owner
nobody : (links : Links) → IsLinked links → (owner : OwnerNo) → ((node : Node) → owner_in links.pool node ≡ Some owner → ⊥) → map.get (held_in links.pool) owner.0 ≡ None
nobody links linked owner none = no_locks (held_in links.pool) (tight-held_of (map.entries links.pool.nodes)) owner (λ need. by need (has (held_in links.pool) owner need) refl)
  where
    by : (need : Need) (b : Bool) → has (held_in links.pool) owner need ≡ b → b ≡ false
    by need false e = refl
    by need true e = let n = held_node links.pool owner need e in absurd (none n.node (ap (option_map (λ l. l.owner)) n.at))

pub no_column : (links : Links) → IsLinked links → (owner : OwnerNo) → col_at links owner ≡ None → map.get (held_in links.pool) owner.0 ≡ None
no_column links linked owner none = nobody links linked owner (λ node e. col_seated links.pool node owner e (sym (linked.cols.stands node owner e) ∙ none))

pub empty_column : (links : Links) → IsLinked links → (owner : OwnerNo) (col : Col) → col_at links owner ≡ Some col → map.get links.pool.cols col ≡ Some [] → map.get (held_in links.pool) owner.0 ≡ None
empty_column links linked owner col at bare =
    nobody links linked owner (λ node e.
    let home : col_in links.pool node ≡ Some col = sym (linked.cols.stands node owner e) ∙ at in
    nothing_in node (subst (λ (o : Option (List Node)). Contains (unwrap_or o []) node) bare (linked.rings.cols.found col node home)))

-- what is left to release
pub record Releases (first now : Links) (owner : OwnerNo) (col : Col) (before steps : ℕ) : Type 0 where
  pub still : IsReleasing now owner col
  pub others : released (held_in now.pool) owner ≡ released (held_in first.pool) owner
  pub steps_are : steps + set.len (held_by (held_in now.pool) owner) ≡ before + set.len (held_by (held_in first.pool) owner)

pub whole_releasing : (links : Links) → IsWhole links → (owner : OwnerNo) (col : Col) → col_at links owner ≡ Some col → IsReleasing links owner col
whole_releasing links whole owner col at = record {
  linked = whole.linked;
  rows = whole.rows;
  cols = empty_within (λ c. map.get links.pool.cols c ≡ Some []) (col_at links) [] (owner ∷ []) (λ k m. absurd (omega (arith, m.1))) whole.cols;
  at = at;
}

-- the rest after the last
module _ (first before now after : Links) (owner : OwnerNo) (col : Col) (start steps : ℕ) (so_far : Releases first before owner col start steps) (still : IsReleasing now owner col) (others : released (held_in now.pool) owner ≡ released (held_in before.pool) owner)
    (fewer : set.len (held_by (held_in now.pool) owner) + 0 ≡ set.len (held_by (held_in before.pool) owner)) (end : map.get now.pool.cols col ≡ Some []) (nodes : after.pool.nodes ≡ now.pool.nodes) where
  gone : map.get (held_in now.pool) owner.0 ≡ None
  gone = empty_column now still.linked owner col still.at end

  pub all_released : held_in after.pool ≡ released (held_in first.pool) owner
  all_released = held_same now.pool after.pool nodes ∙ sym (released_already (held_in now.pool) owner gone) ∙ others ∙ so_far.others

  pub all_counted : steps ≡ start + set.len (held_by (held_in first.pool) owner)
  all_counted = omega (arith, so_far.steps_are, fewer, no_count (held_in now.pool) owner gone)
