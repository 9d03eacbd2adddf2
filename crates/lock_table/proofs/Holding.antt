-- Which locks the nodes of a pool stand for.
use Rattle.std.proofs.Common.{ℕ, ◌≡◌, ◌+◌, ◌==◌, ◌⊎◌, inl, inr, ⊎_elim, List, [], ◌∷◌, Option, Some, None, Bool, true, false, cond, not, refl, sym, ap, ◌∙◌, arith}
use Rattle.std.specs.Prelude.{◌||◌, ◌&&◌, T}
use Rattle.std.specs.List.{list_any}
use Rattle.std.specs.Option.{option_map, unwrap_or}
use Rattle.std.specs.Ordering.{nat_cmp, eq_by_cmp}
use Rattle.std.specs.Cmp.{nat_cmp_total, Equal-is, tied_itself}
use Rattle.std.specs.FinMap as map
use Rattle.std.specs.FinMap.{nat_cmp-IsAntisymmetric}
use Rattle.std.specs.FinSet as set
use Rattle.pss_base.specs.declared.owner.OwnerNo.{OwnerNo}
use Rattle.pss_machine.specs.declared.lock.Need.{Need}
use Rattle.pss_machine.specs.Needs.{Locks, need_cmp}
use Rattle.pss_machine.proofs.NeedSets.{need_total, need_apart}
use Rattle.link_pool.specs.Names.{node_cmp, node_named, node_cmp_total}
use Rattle.link_pool.specs.Meaning.{Meaning, item_in}
use Rattle.link_pool.specs.declared.names.Node.{Node}
use Rattle.link_pool.specs.declared.names.Seat.{Seat}
use Rattle.lock_table.specs.declared.links.Lock.{Lock}
use Rattle.lock_table.specs.Locks.{Held, held_by, with_locks}
use Rattle.lock_table.specs.Standing.{need_of, lock_of}
use Rattle.lock_table.specs.inner.Nodes.{held_of, held_in, with_lock, without_lock}
use Rattle.std.proofs.lemmas.Bool.{eqb-true, eq-eqb}
use Rattle.lock_table.proofs.Sames.{need-true, need-self}
use Rattle.lock_table.proofs.Keyed.{no_value, one_value}
use Rattle.lock_table.proofs.Entries.{or_true, both_true, any_found, found_any}

abbrev pub has : Held → OwnerNo → Need → Bool
has held owner need = set.contains (held_by held owner) need

-- a lock is an owner's on what is needed
abbrev pub is_lock : OwnerNo → Need → Lock → Bool
is_lock owner need lock = eq_by_cmp nat_cmp owner.0 lock.owner.0 && eq_by_cmp need_cmp need (need_of lock)

pub owner_tied : (a b : OwnerNo) → eq_by_cmp nat_cmp a.0 b.0 ≡ true → a ≡ b
owner_tied a b e = ap (λ (n : ℕ). record { 0 = n }) (nat_cmp-IsAntisymmetric a.0 b.0 ((Equal-is (nat_cmp a.0 b.0)).0 e))

pub owner_itself : (a : OwnerNo) → eq_by_cmp nat_cmp a.0 a.0 ≡ true
owner_itself a = (Equal-is (nat_cmp a.0 a.0)).1 (tied_itself nat_cmp_total a.0)

pub lock-true : (owner : OwnerNo) (need : Need) (lock : Lock) → is_lock owner need lock ≡ true → lock ≡ lock_of owner need
lock-true owner need lock e =
    let h = both_true (eq_by_cmp nat_cmp owner.0 lock.owner.0) (eq_by_cmp need_cmp need (need_of lock)) e in
    (λ i. lock_of (sym (owner_tied owner lock.owner h.0) i) (sym (need-true need (need_of lock) h.1) i))

pub lock-self : (lock : Lock) → is_lock lock.owner (need_of lock) lock ≡ true
lock-self lock = ap (λ b. b && eq_by_cmp need_cmp (need_of lock) (need_of lock)) (owner_itself lock.owner) ∙ need-self (need_of lock)

-- ---- one lock more

pub has-with_lock : (lock : Lock) (held : Held) (owner : OwnerNo) (need : Need) → has (with_lock lock held) owner need ≡ (is_lock owner need lock || has held owner need)
has-with_lock lock held owner need = ap (λ (o : Option Locks). set.contains (unwrap_or o set.empty) need) (map.get-insert nat_cmp_total held lock.owner.0 (set.insert (held_by held lock.owner) (need_of lock)) owner.0) ∙ by (eq_by_cmp nat_cmp owner.0 lock.owner.0) refl
  where
    by : (b : Bool) → eq_by_cmp nat_cmp owner.0 lock.owner.0 ≡ b → set.contains (unwrap_or (cond b (Some (set.insert (held_by held lock.owner) (need_of lock))) (map.get held owner.0)) set.empty) need ≡ ((b && eq_by_cmp need_cmp need (need_of lock)) || has held owner need)
    by true is = set.contains-insert need_total (held_by held lock.owner) (need_of lock) need ∙ ap (λ o. eq_by_cmp need_cmp need (need_of lock) || has held o need) (sym (owner_tied owner lock.owner is))
    by false is = refl

pub has-empty : (owner : OwnerNo) (need : Need) → has map.empty owner need ≡ false
has-empty owner need = ap (λ (o : Option Locks). set.contains (unwrap_or o set.empty) need) (map.get-empty nat_cmp owner.0) ∙ set.contains-empty need_cmp need

pub has-held_of : (es : List (Node × Seat Lock)) (owner : OwnerNo) (need : Need) → has (held_of es) owner need ≡ list_any (λ e. is_lock owner need e.1.item) es
has-held_of [] owner need = has-empty owner need
has-held_of (e ∷ es) owner need = has-with_lock e.1.item (held_of es) owner need ∙ ap (λ b. is_lock owner need e.1.item || b) (has-held_of es owner need)

-- ---- nodes

pub node_apart : map.IsAntisymmetric node_cmp
node_apart a b e = ap node_named (nat_cmp-IsAntisymmetric a.number b.number e)

pub true_of : (b : Bool) → T b → b ≡ true
true_of true t = refl
true_of false t = absurd t

-- a node with a lock
pub record NodeOf (p : Meaning Lock) (lock : Lock) : Type 0 where
  pub node : Node
  pub at : item_in p node ≡ Some lock

pub node_held : (p : Meaning Lock) (node : Node) (lock : Lock) → item_in p node ≡ Some lock → has (held_in p) lock.owner (need_of lock) ≡ true
node_held p node lock e = has-held_of (map.entries p.nodes) lock.owner (need_of lock) ∙ by (map.get p.nodes node) refl e
  where
    by : (o : Option (Seat Lock)) → map.get p.nodes node ≡ o → option_map (λ s. s.item) o ≡ Some lock → list_any (λ e. is_lock lock.owner (need_of lock) e.1.item) (map.entries p.nodes) ≡ true
    by None is h = no_value lock h
    by (Some seat) is h =
        any_found node_cmp_total node_apart (λ e. is_lock lock.owner (need_of lock) e.1.item) (map.entries p.nodes) node seat (sym (map.get-entries p.nodes node) ∙ is)
        (ap (is_lock lock.owner (need_of lock)) (one_value h) ∙ lock-self lock)

pub held_node : (p : Meaning Lock) (owner : OwnerNo) (need : Need) → has (held_in p) owner need ≡ true → NodeOf p (lock_of owner need)
held_node p owner need e =
    let f = found_any node_cmp_total node_apart (λ e. is_lock owner need e.1.item) (map.entries p.nodes) (true_of _ (map.entries_sorted p.nodes)) (sym (has-held_of (map.entries p.nodes) owner need) ∙ e) in
    record { node = f.key; at = ap (option_map (λ s. s.item)) (map.get-entries p.nodes f.key ∙ f.at) ∙ ap (λ l. Some l) (lock-true owner need f.value.item f.passes) }

-- ---- equal by what they have

-- an owner without locks is not named
abbrev pub IsTight : Held → Type 0
IsTight held = (n : ℕ) (locks : Locks) → map.get held n ≡ Some locks → set.len locks ≡ 0 → ⊥

pub same_held : (a b : Held) → IsTight a → IsTight b → ((owner : OwnerNo) (need : Need) → has a owner need ≡ has b owner need) → a ≡ b
same_held a b tight_a tight_b same = map.same_map nat_cmp_total nat_cmp-IsAntisymmetric a b (λ n. by n (map.get a n) refl (map.get b n) refl)
  where
    sets : (n : ℕ) → unwrap_or (map.get a n) set.empty ≡ unwrap_or (map.get b n) set.empty
    sets n = set.same_set need_total need_apart (unwrap_or (map.get a n) set.empty) (unwrap_or (map.get b n) set.empty) (λ need. same (record { 0 = n }) need)

    none : (s : Locks) → s ≡ set.empty → set.len s ≡ 0
    none s e = ap set.len e ∙ set.len-empty need_cmp

    by : (n : ℕ) (x : Option Locks) → map.get a n ≡ x → (y : Option Locks) → map.get b n ≡ y → map.get a n ≡ map.get b n
    by n None p None q = p ∙ sym q
    by n None p (Some s) q = absurd (tight_b n s q (none s (ap (λ (o : Option Locks). unwrap_or o set.empty) (sym q) ∙ sym (sets n) ∙ ap (λ (o : Option Locks). unwrap_or o set.empty) p)))
    by n (Some s) p None q = absurd (tight_a n s p (none s (ap (λ (o : Option Locks). unwrap_or o set.empty) (sym p) ∙ sets n ∙ ap (λ (o : Option Locks). unwrap_or o set.empty) q)))
    by n (Some s) p (Some t) q = p ∙ ap (λ z. Some z) (ap (λ (o : Option Locks). unwrap_or o set.empty) (sym p) ∙ sets n ∙ ap (λ (o : Option Locks). unwrap_or o set.empty) q) ∙ sym q

pub tight-insert : (held : Held) (owner : OwnerNo) (locks : Locks) → IsTight held → (set.len locks ≡ 0 → ⊥) → IsTight (map.insert held owner.0 locks)
tight-insert held owner locks tight some n s e = by (eq_by_cmp nat_cmp n owner.0) (sym (map.get-insert nat_cmp_total held owner.0 locks n) ∙ e)
  where
    by : (b : Bool) → cond b (Some locks) (map.get held n) ≡ Some s → set.len s ≡ 0 → ⊥
    by true h zero = some (ap set.len (one_value h) ∙ zero)
    by false h zero = tight n s h zero

pub tight-remove : (held : Held) (owner : OwnerNo) → IsTight held → IsTight (map.remove held owner.0)
tight-remove held owner tight n s e = by (eq_by_cmp nat_cmp n owner.0) (sym (map.get-remove nat_cmp_total held owner.0 n) ∙ e)
  where
    by : (b : Bool) → cond b None (map.get held n) ≡ Some s → set.len s ≡ 0 → ⊥
    by true h zero = no_value s h
    by false h zero = tight n s h zero

pub tight-with_locks : (held : Held) (owner : OwnerNo) (locks : Locks) → IsTight held → IsTight (with_locks held owner locks)
tight-with_locks held owner locks tight = by (set.len locks == 0) refl
  where
    by : (b : Bool) → (set.len locks == 0) ≡ b → IsTight (cond b (map.remove held owner.0) (map.insert held owner.0 locks))
    by true is = tight-remove held owner tight
    by false is = tight-insert held owner locks tight (λ zero. let t : (set.len locks == 0) ≡ true = eq-eqb (set.len locks) 0 zero in absurd (cc))

some_of : (s : Locks) (need : Need) → set.len (set.insert s need) ≡ 0 → ⊥
some_of s need zero = by (set.contains s need) refl (sym (set.len-insert need_total s need) ∙ zero)
  where
    by : (b : Bool) → set.contains s need ≡ b → cond b (set.len s) (set.len s + 1) ≡ 0 → ⊥
    by true is h = let t : true ≡ false = sym is ∙ ap (λ z. set.contains z need) (set.empty_of_len s h) ∙ set.contains-empty need_cmp need in absurd (cc)
    by false is h = omega (arith, h)

pub tight-with_lock : (lock : Lock) (held : Held) → IsTight held → IsTight (with_lock lock held)
tight-with_lock lock held tight = tight-insert held lock.owner (set.insert (held_by held lock.owner) (need_of lock)) tight (some_of (held_by held lock.owner) (need_of lock))

pub tight-held_of : (es : List (Node × Seat Lock)) → IsTight (held_of es)
tight-held_of [] n s e = no_value s (sym (map.get-empty nat_cmp n) ∙ e)
tight-held_of (e ∷ es) n s h = tight-with_lock e.1.item (held_of es) (tight-held_of es) n s h

pub has-remove : (held : Held) (owner q : OwnerNo) (need : Need) → has (map.remove held owner.0) q need ≡ cond (eq_by_cmp nat_cmp q.0 owner.0) false (has held q need)
has-remove held owner q need = ap (λ (o : Option Locks). set.contains (unwrap_or o set.empty) need) (map.get-remove nat_cmp_total held owner.0 q.0) ∙ by (eq_by_cmp nat_cmp q.0 owner.0)
  where
    by : (b : Bool) → set.contains (unwrap_or (cond b None (map.get held q.0)) set.empty) need ≡ cond b false (has held q need)
    by true = set.contains-empty need_cmp need
    by false = refl

pub has-with_locks : (held : Held) (owner : OwnerNo) (locks : Locks) (q : OwnerNo) (need : Need) → has (with_locks held owner locks) q need ≡ cond (eq_by_cmp nat_cmp q.0 owner.0) (set.contains locks need) (has held q need)
has-with_locks held owner locks q need = by (set.len locks == 0) refl
  where
    inside : (b : Bool) → set.contains (unwrap_or (cond b (Some locks) (map.get held q.0)) set.empty) need ≡ cond b (set.contains locks need) (has held q need)
    inside true = refl
    inside false = refl

    by : (b : Bool) → (set.len locks == 0) ≡ b → has (cond b (map.remove held owner.0) (map.insert held owner.0 locks)) q need ≡ cond (eq_by_cmp nat_cmp q.0 owner.0) (set.contains locks need) (has held q need)
    by true is =
        has-remove held owner q need
        ∙ ap (λ x. cond (eq_by_cmp nat_cmp q.0 owner.0) x (has held q need)) (sym (ap (λ z. set.contains z need) (set.empty_of_len locks (eqb-true (set.len locks) 0 is)) ∙ set.contains-empty need_cmp need))
    by false is = ap (λ (o : Option Locks). set.contains (unwrap_or o set.empty) need) (map.get-insert nat_cmp_total held owner.0 locks q.0) ∙ inside (eq_by_cmp nat_cmp q.0 owner.0)

-- ---- nodes come and go

pub bool_iff : (a b : Bool) → (a ≡ true → b ≡ true) → (b ≡ true → a ≡ true) → a ≡ b
bool_iff true b f g = sym (f refl)
bool_iff false true f g = g refl
bool_iff false false f g = refl

or_either : (a b : Bool) → (a || b) ≡ true → (a ≡ true) ⊎ (b ≡ true)
or_either true b e = inl refl
or_either false b e = inr e

module _ (p q : Meaning Lock) where
  -- the same nodes stand for the same locks
  pub held_same : q.nodes ≡ p.nodes → held_in q ≡ held_in p
  held_same e = ap (λ m. held_of (map.entries m)) e

  -- a lock that no node had
  pub held_more : (lock : Lock) → ((node : Node) (l : Lock) → item_in q node ≡ Some l → (l ≡ lock) ⊎ NodeOf p l) → ((node : Node) (l : Lock) → item_in p node ≡ Some l → NodeOf q l) → NodeOf q lock → held_in q ≡ with_lock lock (held_in p)
  held_more lock split kept here =
      same_held (held_in q) (with_lock lock (held_in p)) (tight-held_of (map.entries q.nodes)) (tight-with_lock lock (held_in p) (tight-held_of (map.entries p.nodes))) (λ owner need.
      bool_iff (has (held_in q) owner need) (has (with_lock lock (held_in p)) owner need)
      (λ e. has-with_lock lock (held_in p) owner need ∙ forth owner need (held_node q owner need e))
      (λ e. back owner need (or_either (is_lock owner need lock) (has (held_in p) owner need) (sym (has-with_lock lock (held_in p) owner need) ∙ e))))
    where
      forth : (owner : OwnerNo) (need : Need) → NodeOf q (lock_of owner need) → (is_lock owner need lock || has (held_in p) owner need) ≡ true
      forth owner need n =
          ⊎_elim
          (λ (e : lock_of owner need ≡ lock). ap (λ b. b || has (held_in p) owner need) (ap (is_lock owner need) (sym e) ∙ lock-self (lock_of owner need)))
          (λ (m : NodeOf p (lock_of owner need)). or_true (is_lock owner need lock) (has (held_in p) owner need) (node_held p m.node (lock_of owner need) m.at))
          (split n.node (lock_of owner need) n.at)

      back : (owner : OwnerNo) (need : Need) → (is_lock owner need lock ≡ true) ⊎ (has (held_in p) owner need ≡ true) → has (held_in q) owner need ≡ true
      back owner need (inl e) = node_held q here.node (lock_of owner need) (here.at ∙ ap (λ l. Some l) (lock-true owner need lock e))
      back owner need (inr e) = let m = held_node p owner need e in let n = kept m.node (lock_of owner need) m.at in node_held q n.node (lock_of owner need) n.at

  -- a lock went with its node
  pub held_less : (lock : Lock) → ((node : Node) (l : Lock) → item_in q node ≡ Some l → NodeOf p l × (l ≡ lock → ⊥)) → ((node : Node) (l : Lock) → item_in p node ≡ Some l → (l ≡ lock) ⊎ NodeOf q l) → held_in q ≡ without_lock lock (held_in p)
  held_less lock was left =
      same_held (held_in q) (without_lock lock (held_in p)) (tight-held_of (map.entries q.nodes)) (tight-with_locks (held_in p) lock.owner (set.remove (held_by (held_in p) lock.owner) (need_of lock)) (tight-held_of (map.entries p.nodes))) (λ owner need.
      bool_iff (has (held_in q) owner need) (has (without_lock lock (held_in p)) owner need)
      (λ e. fewer owner need ∙ forth owner need (held_node q owner need e))
      (λ e. back owner need (sym (fewer owner need) ∙ e)))
    where
      without : Bool → Bool → Bool → Bool → Bool
      without o n a b = cond o (not n && a) b

      fewer : (owner : OwnerNo) (need : Need) → has (without_lock lock (held_in p)) owner need ≡ (not (is_lock owner need lock) && has (held_in p) owner need)
      fewer owner need =
          has-with_locks (held_in p) lock.owner (set.remove (held_by (held_in p) lock.owner) (need_of lock)) owner need
          ∙ ap (λ x. cond (eq_by_cmp nat_cmp owner.0 lock.owner.0) x (has (held_in p) owner need)) (set.contains-remove need_total (held_by (held_in p) lock.owner) (need_of lock) need)
          ∙ by (eq_by_cmp nat_cmp owner.0 lock.owner.0) refl
        where
          by : (b : Bool) → eq_by_cmp nat_cmp owner.0 lock.owner.0 ≡ b → cond b (not (eq_by_cmp need_cmp need (need_of lock)) && has (held_in p) lock.owner need) (has (held_in p) owner need) ≡ (not (b && eq_by_cmp need_cmp need (need_of lock)) && has (held_in p) owner need)
          by true is = ap (λ o. not (eq_by_cmp need_cmp need (need_of lock)) && has (held_in p) o need) (sym (owner_tied owner lock.owner is))
          by false is = refl

      forth : (owner : OwnerNo) (need : Need) → NodeOf q (lock_of owner need) → (not (is_lock owner need lock) && has (held_in p) owner need) ≡ true
      forth owner need n =
          let w = was n.node (lock_of owner need) n.at in
          both (is_lock owner need lock) (λ e. w.1 (sym (lock-true owner need lock e))) (has (held_in p) owner need) (node_held p w.0.node (lock_of owner need) w.0.at)
        where
          both : (a : Bool) → (a ≡ true → ⊥) → (b : Bool) → b ≡ true → (not a && b) ≡ true
          both true f b e = absurd (f refl)
          both false f b e = e

      back : (owner : OwnerNo) (need : Need) → (not (is_lock owner need lock) && has (held_in p) owner need) ≡ true → has (held_in q) owner need ≡ true
      back owner need e =
          let h = both_true (not (is_lock owner need lock)) (has (held_in p) owner need) e in
          let m = held_node p owner need h.1 in
          ⊎_elim
          (λ (o : lock_of owner need ≡ lock). let t : is_lock owner need lock ≡ true = ap (is_lock owner need) (sym o) ∙ lock-self (lock_of owner need) in
          let f : not (is_lock owner need lock) ≡ false = ap not t in
          let x : true ≡ false = sym h.0 ∙ f in absurd (cc))
          (λ (n : NodeOf q (lock_of owner need)). node_held q n.node (lock_of owner need) n.at)
          (left m.node (lock_of owner need) m.at)
