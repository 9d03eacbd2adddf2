-- What an owner needs and does not have.
use Rattle.std.proofs.Common.{ℕ, ◌≡◌, ⊎_elim, List, [], ◌∷◌, take, Bool, true, false, cond, not, refl, sym, ap, ◌∙◌, arith}
use Rattle.std.specs.Prelude.{◌||◌, ◌&&◌, map, Contains}
use Rattle.std.specs.List.{list_any}
use Rattle.std.specs.Ordering.{nat_cmp, eq_by_cmp}
use Rattle.std.specs.FinSet as set
use Rattle.pss_base.specs.declared.owner.OwnerNo.{OwnerNo}
use Rattle.pss_machine.specs.declared.lock.Need.{Need}
use Rattle.pss_machine.specs.Needs.{need_cmp}
use Rattle.pss_machine.proofs.NeedSets.{need_total}
use Rattle.lock_table.specs.declared.links.Lock.{Lock}
use Rattle.lock_table.specs.Locks.{Held, held_by, granted}
use Rattle.lock_table.specs.Standing.{lock_of}
use Rattle.lock_table.specs.inner.Nodes.{with_all, missing}
use Rattle.lock_table.proofs.Sames.{need-true}
use Rattle.lock_table.proofs.Keyed.{contains_cases}
use Rattle.lock_table.proofs.Holding.{has, is_lock, IsTight, same_held, owner_tied, has-with_lock, has-with_locks, tight-with_lock, tight-with_locks}

-- two locks, and those that were missing among the first k needs of the rest
abbrev pub Gathered : Held → OwnerNo → Need → Need → List Need → ℕ → List Lock → Type 0
Gathered held owner first second rest k locks = locks ≡ map (lock_of owner) (first ∷ second ∷ missing held owner (take k rest))

-- ---- granted

has-with_all : (locks : List Lock) (held : Held) (owner : OwnerNo) (need : Need) → has (with_all locks held) owner need ≡ (list_any (is_lock owner need) locks || has held owner need)
has-with_all [] held owner need = refl
has-with_all (lock ∷ locks) held owner need = has-with_lock lock (with_all locks held) owner need ∙ ap (λ b. is_lock owner need lock || b) (has-with_all locks held owner need) ∙ or_or (is_lock owner need lock) (list_any (is_lock owner need) locks) (has held owner need)
  where
    or_or : (a b c : Bool) → (a || (b || c)) ≡ ((a || b) || c)
    or_or true b c = refl
    or_or false b c = refl

tight-with_all : (locks : List Lock) (held : Held) → IsTight held → IsTight (with_all locks held)
tight-with_all [] held tight = tight
tight-with_all (lock ∷ locks) held tight = tight-with_lock lock (with_all locks held) (tight-with_all locks held tight)

-- the locks of one owner, missing or not
any_missing : (held : Held) (owner q : OwnerNo) (need : Need) (needs : List Need) (b : Bool) → eq_by_cmp nat_cmp q.0 owner.0 ≡ b
    → (list_any (is_lock q need) (map (lock_of owner) (missing held owner needs)) || has held q need) ≡ cond b (has held owner need || list_any (eq_by_cmp need_cmp need) needs) (has held q need)
any_missing held owner q need [] true is = ap (λ o. has held o need) (owner_tied q owner is) ∙ or_none (has held owner need)
  where
    or_none : (b : Bool) → b ≡ (b || false)
    or_none true = refl
    or_none false = refl
any_missing held owner q need [] false is = refl
any_missing held owner q need (x ∷ xs) b is = by (has held owner x) refl b is (any_missing held owner q need xs b is)
  where
    rotate : (t a c : Bool) → (t || (a || c)) ≡ (a || (t || c))
    rotate true true c = refl
    rotate true false c = refl
    rotate false a c = refl

    or_assoc : (a b c : Bool) → ((a || b) || c) ≡ (a || (b || c))
    or_assoc true b c = refl
    or_assoc false b c = refl

    shown : (t : Bool) → eq_by_cmp need_cmp need x ≡ t → has held owner x ≡ true → (has held owner need || list_any (eq_by_cmp need_cmp need) xs) ≡ (has held owner need || (t || list_any (eq_by_cmp need_cmp need) xs))
    shown false e h = refl
    shown true e h = let t : has held owner need ≡ true = ap (has held owner) (need-true need x e) ∙ h in ap (λ b. b || list_any (eq_by_cmp need_cmp need) xs) t ∙ sym (ap (λ b. b || (true || list_any (eq_by_cmp need_cmp need) xs)) t)

    by : (h : Bool) → has held owner x ≡ h → (b : Bool) → eq_by_cmp nat_cmp q.0 owner.0 ≡ b
        → (list_any (is_lock q need) (map (lock_of owner) (missing held owner xs)) || has held q need) ≡ cond b (has held owner need || list_any (eq_by_cmp need_cmp need) xs) (has held q need)
        → (list_any (is_lock q need) (map (lock_of owner) (cond (not h) (x ∷ missing held owner xs) (missing held owner xs))) || has held q need) ≡ cond b (has held owner need || (eq_by_cmp need_cmp need x || list_any (eq_by_cmp need_cmp need) xs)) (has held q need)
    by true e true is rest = rest ∙ shown (eq_by_cmp need_cmp need x) refl e
    by true e false is rest = rest
    by false e true is rest =
        ap (λ t. ((t && eq_by_cmp need_cmp need x) || list_any (is_lock q need) (map (lock_of owner) (missing held owner xs))) || has held q need) is
        ∙ or_assoc (eq_by_cmp need_cmp need x) (list_any (is_lock q need) (map (lock_of owner) (missing held owner xs))) (has held q need)
        ∙ ap (λ t. eq_by_cmp need_cmp need x || t) rest ∙ rotate (eq_by_cmp need_cmp need x) (has held owner need) (list_any (eq_by_cmp need_cmp need) xs)
    by false e false is rest = ap (λ t. ((t && eq_by_cmp need_cmp need x) || list_any (is_lock q need) (map (lock_of owner) (missing held owner xs))) || has held q need) is ∙ rest

pub all_granted : (held : Held) → IsTight held → (owner : OwnerNo) (needs : List Need) → with_all (map (lock_of owner) (missing held owner needs)) held ≡ granted held owner needs
all_granted held tight owner needs =
    same_held (with_all (map (lock_of owner) (missing held owner needs)) held) (granted held owner needs) (tight-with_all (map (lock_of owner) (missing held owner needs)) held tight) (tight-with_locks held owner (set.union (held_by held owner) (set.from_list needs)) tight)
    (λ q need.
    has-with_all (map (lock_of owner) (missing held owner needs)) held q need ∙ any_missing held owner q need needs (eq_by_cmp nat_cmp q.0 owner.0) refl
    ∙ ap (λ b. cond (eq_by_cmp nat_cmp q.0 owner.0) b (has held q need)) (sym (set.contains-union need_total (held_by held owner) (set.from_list needs) need ∙ ap (λ b. has held owner need || b) (set.contains-from_list need_total needs need)))
    ∙ sym (has-with_locks held owner (set.union (held_by held owner) (set.from_list needs)) q need))

-- the owner of each
pub own_locks : (owner : OwnerNo) (needs : List Need) (lock : Lock) → Contains (map (lock_of owner) needs) lock → lock.owner ≡ owner
own_locks owner [] lock m = absurd (omega (arith, m.1))
own_locks owner (x ∷ xs) lock m = ⊎_elim (λ (e : lock_of owner x ≡ lock). ap (λ (l : Lock). l.owner) (sym e)) (λ n. own_locks owner xs lock n) (contains_cases (lock_of owner x) lock (map (lock_of owner) xs) m)
