-- How many locks all owners have.
use Rattle.std.proofs.Common.{ℕ, suc, ◌≡◌, ◌+◌, List, [], ◌∷◌, length, Option, Some, None, Bool, true, false, cond, refl, sym, ap, ◌∙◌, arith}
use Rattle.std.specs.Prelude.{map, sum, fold}
use Rattle.std.specs.Option.{option_map, unwrap_or}
use Rattle.std.specs.List.{list_any}
use Rattle.std.specs.declared.cmp.Ordering.{Ordering}
use Rattle.std.specs.declared.cmp.Ordering.TheVariants.{Less, Equal, Greater}
use Rattle.std.specs.Ordering.{nat_cmp, eq_by_cmp, is_lt, is_eq, ordering_reverse}
use Rattle.std.specs.Cmp.{nat_cmp_total, Equal-is, tied_itself}
use Rattle.lock_table.proofs.Least.{at_least}
use Rattle.std.specs.FinMap as map
use Rattle.std.specs.FinMap.{nat_cmp-IsAntisymmetric}
use Rattle.std.specs.FinMap.Entries.{below_all, is_sorted, by_order}
use Rattle.std.specs.FinSet as set
use Rattle.pss_machine.specs.Needs.{Locks, need_cmp}
use Rattle.pss_machine.proofs.NeedSets.{need_total}
use Rattle.link_pool.specs.Names.{node_cmp, node_cmp_total}
use Rattle.link_pool.specs.Meaning.{Meaning, item_in}
use Rattle.link_pool.specs.declared.names.Node.{Node}
use Rattle.link_pool.specs.declared.names.Seat.{Seat}
use Rattle.lock_table.specs.declared.links.Lock.{Lock}
use Rattle.lock_table.specs.Locks.{Held, held_by, lock_count}
use Rattle.lock_table.specs.Standing.{need_of}
use Rattle.lock_table.specs.inner.Nodes.{held_of, held_in, with_lock}
use Rattle.lock_table.proofs.Entries.{both_true, tied, above, not_above_itself, found_any}
use Rattle.lock_table.proofs.Holding.{has, is_lock, lock-true, has-held_of, true_of, node_apart, owner_itself}

-- ---- a sum over the entries of a map

sum-from : (n : ℕ) (xs : List ℕ) → fold ◌+◌ n xs ≡ n + sum xs
sum-from n [] = omega arith
sum-from n (x ∷ xs) = omega (arith, sum-from (n + x) xs, sum-from (0 + x) xs)

sum-cons : (x : ℕ) (xs : List ℕ) → sum (x ∷ xs) ≡ x + sum xs
sum-cons x xs = omega (arith, sum-from (0 + x) xs)

module _ {X : Type 0} (f : X → ℕ) where
  total : List (ℕ × X) → ℕ
  total es = sum (map (λ e. f e.1) es)

  -- what a key adds
  abbrev share : Option X → ℕ
  share o = unwrap_or (option_map f o) 0

  below_none : (k x : ℕ) (es : List (ℕ × X)) → nat_cmp k x ≡ Less → below_all nat_cmp x es ≡ true → map.find nat_cmp k es ≡ None
  below_none k x es less below = by (map.find nat_cmp k es) refl
    where
      by : (o : Option X) → map.find nat_cmp k es ≡ o → map.find nat_cmp k es ≡ None
      by None e = e
      by (Some v) e =
          let over : is_lt (nat_cmp x k) ≡ true = above nat_cmp_total nat_cmp-IsAntisymmetric x es k v below e in
          let under : is_lt (nat_cmp k x) ≡ true = ap is_lt less in
          absurd (omega (arith, at_least x k over, at_least k x under, apart x k over))
        where
          apart : (a b : ℕ) → is_lt (nat_cmp a b) ≡ true → a ≡ b → ⊥
          apart a b e same = not_above_itself nat_cmp_total nat_cmp-IsAntisymmetric a (ap (λ n. is_lt (nat_cmp a n)) same ∙ e)

  total-cons : (e : ℕ × X) (es : List (ℕ × X)) → total (e ∷ es) ≡ f e.1 + total es
  unfolding total
  total-cons e es = sum-cons (f e.1) (map (λ e. f e.1) es)

  total-put : (k : ℕ) (v : X) (es : List (ℕ × X)) → is_sorted nat_cmp es ≡ true → total (map.put nat_cmp k v es) + share (map.find nat_cmp k es) ≡ total es + f v
  total-put k v [] s = let one : total ((k, v) ∷ []) ≡ f v + total [] = total-cons (k, v) [] in omega (arith, one)
  total-put k v (e ∷ es) s = by (nat_cmp k e.0) refl (total-put k v es sorted.1)
    where
      sorted : (below_all nat_cmp e.0 es ≡ true) × (is_sorted nat_cmp es ≡ true)
      sorted = both_true (below_all nat_cmp e.0 es) (is_sorted nat_cmp es) s

      by : (r : Ordering) → nat_cmp k e.0 ≡ r → total (map.put nat_cmp k v es) + share (map.find nat_cmp k es) ≡ total es + f v
          → total (by_order r ((k, v) ∷ e ∷ es) ((e.0, v) ∷ es) (e ∷ map.put nat_cmp k v es)) + share (cond (is_eq r) (Some e.1) (map.find nat_cmp k es)) ≡ total (e ∷ es) + f v
      by Less is rest =
          let nothing : share (map.find nat_cmp k es) ≡ 0 = ap share (below_none k e.0 es is sorted.0) in
          let shown : total ((k, v) ∷ e ∷ es) + share (map.find nat_cmp k es) ≡ total (e ∷ es) + f v = omega (arith, nothing, total-cons (k, v) (e ∷ es)) in shown
      by Equal is rest = let shown : total ((e.0, v) ∷ es) + f e.1 ≡ total (e ∷ es) + f v = omega (arith, total-cons (e.0, v) es, total-cons e es) in shown
      by Greater is rest =
          let shown : total (e ∷ map.put nat_cmp k v es) + share (map.find nat_cmp k es) ≡ total (e ∷ es) + f v = omega (arith, rest, total-cons e (map.put nat_cmp k v es), total-cons e es) in shown

-- ---- locks

pub count-with_lock : (lock : Lock) (held : Held) → has held lock.owner (need_of lock) ≡ false → lock_count (with_lock lock held) ≡ lock_count held + 1
unfolding total
count-with_lock lock held absent =
    let locks : Locks = held_by held lock.owner in
    let put : lock_count (with_lock lock held) ≡ sum (map (λ e. set.len e.1) (map.put nat_cmp lock.owner.0 (set.insert locks (need_of lock)) (map.entries held))) = ap (λ es. sum (map (λ e. set.len e.1) es)) (map.entries-insert nat_cmp_total held lock.owner.0 (set.insert locks (need_of lock))) in
    let sums : sum (map (λ e. set.len e.1) (map.put nat_cmp lock.owner.0 (set.insert locks (need_of lock)) (map.entries held))) + unwrap_or (option_map set.len (map.find nat_cmp lock.owner.0 (map.entries held))) 0 ≡ lock_count held + set.len (set.insert locks (need_of lock)) =
    total-put set.len lock.owner.0 (set.insert locks (need_of lock)) (map.entries held) (true_of _ (map.entries_sorted held)) in
    let had : unwrap_or (option_map set.len (map.find nat_cmp lock.owner.0 (map.entries held))) 0 ≡ set.len locks =
    ap (λ (o : Option Locks). unwrap_or (option_map set.len o) 0) (sym (map.get-entries held lock.owner.0)) ∙ len_of (map.get held lock.owner.0) in
    let one : set.len (set.insert locks (need_of lock)) ≡ set.len locks + 1 = set.len-insert need_total locks (need_of lock) ∙ ap (λ b. cond b (set.len locks) (set.len locks + 1)) absent in
    omega (arith, put, sums, had, one)
  where
    len_of : (o : Option Locks) → unwrap_or (option_map set.len o) 0 ≡ set.len (unwrap_or o set.empty)
    len_of None = sym (set.len-empty need_cmp)
    len_of (Some s) = refl

-- no lock stands at two nodes
abbrev Once : List (Node × Seat Lock) → Type 0
Once es = (a b : Node) (s t : Seat Lock) → map.find node_cmp a es ≡ Some s → map.find node_cmp b es ≡ Some t → s.item ≡ t.item → a ≡ b

count-held_of : (es : List (Node × Seat Lock)) → is_sorted node_cmp es ≡ true → Once es → lock_count (held_of es) ≡ length es
count-held_of [] s once = none
  where
    none : lock_count map.empty ≡ 0
    none = ap (λ es. sum (map (λ e. set.len e.1) es)) (no_entries (map.entries (map.empty {R = nat_cmp})) (sym (map.len-entries map.empty) ∙ map.len-empty nat_cmp Locks))
      where
        no_entries : (es : List (ℕ × Locks)) → length es ≡ 0 → es ≡ []
        no_entries [] e = refl
        no_entries (x ∷ es) e = absurd (omega (arith, e))
count-held_of (e ∷ es) s once = count-with_lock e.1.item (held_of es) absent ∙ (let rest : lock_count (held_of es) ≡ length es = count-held_of es sorted.1 later in let grows : length es + 1 ≡ suc (length es) = omega arith in ap (λ n. n + 1) rest ∙ grows)
  where
    sorted : (below_all node_cmp e.0 es ≡ true) × (is_sorted node_cmp es ≡ true)
    sorted = both_true (below_all node_cmp e.0 es) (is_sorted node_cmp es) s

    other : (a : Node) (v : Seat Lock) → map.find node_cmp a es ≡ Some v → a ≡ e.0 → ⊥
    other a v f same = not_above_itself node_cmp_total node_apart e.0 (ap (λ n. is_lt (node_cmp e.0 n)) (sym same) ∙ above node_cmp_total node_apart e.0 es a v sorted.0 f)

    behind : (a : Node) (v : Seat Lock) → map.find node_cmp a es ≡ Some v → map.find node_cmp a (e ∷ es) ≡ Some v
    behind a v f = by (eq_by_cmp node_cmp a e.0) refl
      where
        by : (b : Bool) → eq_by_cmp node_cmp a e.0 ≡ b → cond b (Some e.1) (map.find node_cmp a es) ≡ Some v
        by true is = absurd (other a v f (tied node_cmp_total node_apart a e.0 is))
        by false is = f

    here : map.find node_cmp e.0 (e ∷ es) ≡ Some e.1
    here = ap (λ b. cond b (Some e.1) (map.find node_cmp e.0 es)) (itself e.0)
      where
        itself : (n : Node) → eq_by_cmp node_cmp n n ≡ true
        itself n = (Equal-is (node_cmp n n)).1 (tied_itself node_cmp_total n)

    later : Once es
    later a b v w f g same = once a b v w (behind a v f) (behind b w g) same

    absent : has (held_of es) e.1.item.owner (need_of e.1.item) ≡ false
    absent = has-held_of es e.1.item.owner (need_of e.1.item) ∙ by (list_any (λ x. is_lock e.1.item.owner (need_of e.1.item) x.1.item) es) refl
      where
        by : (b : Bool) → list_any (λ x. is_lock e.1.item.owner (need_of e.1.item) x.1.item) es ≡ b → b ≡ false
        by false is = refl
        by true is =
            let f = found_any node_cmp_total node_apart (λ x. is_lock e.1.item.owner (need_of e.1.item) x.1.item) es sorted.1 is in
            absurd (other f.key f.value f.at (once f.key e.0 f.value e.1 (behind f.key f.value f.at) here (lock-true e.1.item.owner (need_of e.1.item) f.value.item f.passes)))

pub count_nodes : (p : Meaning Lock) → ((a b : Node) (lock : Lock) → item_in p a ≡ Some lock → item_in p b ≡ Some lock → a ≡ b) → lock_count (held_in p) ≡ map.len p.nodes
count_nodes p once =
    count-held_of (map.entries p.nodes) (true_of _ (map.entries_sorted p.nodes)) (λ a b s t f g same.
    once a b t.item (ap (option_map (λ x. x.item)) (map.get-entries p.nodes a ∙ f) ∙ ap (λ x. Some x) same) (ap (option_map (λ x. x.item)) (map.get-entries p.nodes b ∙ g)))
    ∙ sym (map.len-entries p.nodes)

turned_less : (a b : ℕ) → nat_cmp a b ≡ Greater → nat_cmp b a ≡ Less
turned_less a b e = nat_cmp_total.antisymm b a ∙ ap ordering_reverse e

-- ---- two maps of which each key has as much in one as in the other

module _ {X : Type 0} (f : X → ℕ) where
  at_key : ℕ → List (ℕ × X) → ℕ
  at_key k es = share f (map.find nat_cmp k es)

  key_itself : (k : ℕ) → eq_by_cmp nat_cmp k k ≡ true
  key_itself k = owner_itself (record { 0 = k })

  at_head : (e : ℕ × X) (es : List (ℕ × X)) → at_key e.0 (e ∷ es) ≡ f e.1
  unfolding at_key
  at_head e es = ap (λ b. share f (cond b (Some e.1) (map.find nat_cmp e.0 es))) (key_itself e.0)

  at_other : (k : ℕ) (e : ℕ × X) (es : List (ℕ × X)) → eq_by_cmp nat_cmp k e.0 ≡ false → at_key k (e ∷ es) ≡ at_key k es
  unfolding at_key
  at_other k e es ne = ap (λ b. share f (cond b (Some e.1) (map.find nat_cmp k es))) ne

  at_none : (k : ℕ) (es : List (ℕ × X)) → map.find nat_cmp k es ≡ None → at_key k es ≡ 0
  unfolding at_key
  at_none k es none = ap (share f) none

  -- a key that the rest of a list has not
  gone : (e : ℕ × X) (es : List (ℕ × X)) → below_all nat_cmp e.0 es ≡ true → map.find nat_cmp e.0 es ≡ None
  gone e es below = by (map.find nat_cmp e.0 es) refl
    where
      by : (o : Option X) → map.find nat_cmp e.0 es ≡ o → map.find nat_cmp e.0 es ≡ None
      by None is = is
      by (Some v) is = absurd (not_above_itself nat_cmp_total nat_cmp-IsAntisymmetric e.0 (above nat_cmp_total nat_cmp-IsAntisymmetric e.0 es e.0 v below is))

  sorted_of : (e : ℕ × X) (es : List (ℕ × X)) → is_sorted nat_cmp (e ∷ es) ≡ true → (below_all nat_cmp e.0 es ≡ true) × (is_sorted nat_cmp es ≡ true)
  sorted_of e es s = both_true (below_all nat_cmp e.0 es) (is_sorted nat_cmp es) s

  -- the rest of a list, key by key
  rest_at : (e : ℕ × X) (es : List (ℕ × X)) → is_sorted nat_cmp (e ∷ es) ≡ true → (k n : ℕ) → (eq_by_cmp nat_cmp k e.0 ≡ true → n ≡ 0) → (eq_by_cmp nat_cmp k e.0 ≡ false → at_key k (e ∷ es) ≡ n) → at_key k es ≡ n
  rest_at e es s k n here there = by (eq_by_cmp nat_cmp k e.0) refl
    where
      by : (b : Bool) → eq_by_cmp nat_cmp k e.0 ≡ b → at_key k es ≡ n
      by true is = at_none k es (ap (λ q. map.find nat_cmp q es) (tied nat_cmp_total nat_cmp-IsAntisymmetric k e.0 is) ∙ gone e es (sorted_of e es s).0) ∙ sym (here is)
      by false is = sym (at_other k e es is) ∙ there is

  total-none : (es : List (ℕ × X)) → is_sorted nat_cmp es ≡ true → ((k : ℕ) → at_key k es ≡ 0) → total f es ≡ 0
  unfolding total
  total-none [] s none = refl
  total-none (e ∷ es) s none =
      let first : f e.1 ≡ 0 = sym (at_head e es) ∙ none e.0 in
      let rest : total f es ≡ 0 = total-none es (sorted_of e es s).1 (λ k. rest_at e es s k 0 (λ h. refl) (λ h. none k)) in
      let both : total f (e ∷ es) ≡ f e.1 + total f es = total-cons f e es in
      both ∙ omega (arith, first, rest)

module _ {X Y : Type 0} (f : X → ℕ) (g : Y → ℕ) where
  total-same : (es : List (ℕ × X)) → is_sorted nat_cmp es ≡ true → (fs : List (ℕ × Y)) → is_sorted nat_cmp fs ≡ true → ((k : ℕ) → at_key f k es ≡ at_key g k fs) → total f es ≡ total g fs
  total-same [] s fs t same = total-none f [] s (λ k. nothing k) ∙ sym (total-none g fs t (λ k. sym (same k) ∙ nothing k))
    where
      nothing : (k : ℕ) → at_key f k [] ≡ 0
      nothing k = at_none f k [] refl
  total-same (e ∷ es) s fs t same = inner (total-same es (sorted_of f e es s).1) fs t same
    where
      inner : ((fs : List (ℕ × Y)) → is_sorted nat_cmp fs ≡ true → ((k : ℕ) → at_key f k es ≡ at_key g k fs) → total f es ≡ total g fs) → (fs : List (ℕ × Y)) → is_sorted nat_cmp fs ≡ true → ((k : ℕ) → at_key f k (e ∷ es) ≡ at_key g k fs) → total f (e ∷ es) ≡ total g fs
      inner rest [] t same = total-none f (e ∷ es) s (λ k. same k ∙ at_none g k [] refl) ∙ sym (total-none g [] t (λ k. at_none g k [] refl))
      inner rest (h ∷ hs) t same = by (nat_cmp e.0 h.0) refl (inner rest hs (sorted_of g h hs t).1)
        where
          by : (r : Ordering) → nat_cmp e.0 h.0 ≡ r → (((k : ℕ) → at_key f k (e ∷ es) ≡ at_key g k hs) → total f (e ∷ es) ≡ total g hs) → total f (e ∷ es) ≡ total g (h ∷ hs)
          by Equal is later =
              let key : e.0 ≡ h.0 = nat_cmp-IsAntisymmetric e.0 h.0 is in
              let first : f e.1 ≡ g h.1 = sym (at_head f e es) ∙ same e.0 ∙ ap (λ k. at_key g k (h ∷ hs)) key ∙ at_head g h hs in
              let others : total f es ≡ total g hs =
              rest hs (sorted_of g h hs t).1
              (λ k. rest_at f e es s k (at_key g k hs) (λ tie. at_none g k hs (ap (λ q. map.find nat_cmp q hs) (tied nat_cmp_total nat_cmp-IsAntisymmetric k e.0 tie ∙ key) ∙ gone g h hs (sorted_of g h hs t).0))
              (λ ne. same k ∙ at_other g k h hs (ap (eq_by_cmp nat_cmp k) (sym key) ∙ ne))) in
              omega (arith, first, others, total-cons f e es, total-cons g h hs)
          by Less is later =
              let absent : at_key g e.0 (h ∷ hs) ≡ 0 = at_other g e.0 h hs (ap is_eq is) ∙ at_none g e.0 hs (below_none g e.0 h.0 hs is (sorted_of g h hs t).0) in
              let first : f e.1 ≡ 0 = sym (at_head f e es) ∙ same e.0 ∙ absent in
              let others : total f es ≡ total g (h ∷ hs) =
              rest (h ∷ hs) t (λ k. rest_at f e es s k (at_key g k (h ∷ hs)) (λ tie. ap (λ q. at_key g q (h ∷ hs)) (tied nat_cmp_total nat_cmp-IsAntisymmetric k e.0 tie) ∙ absent) (λ ne. same k)) in
              omega (arith, first, others, total-cons f e es)
          by Greater is later =
              let back : nat_cmp h.0 e.0 ≡ Less = turned_less e.0 h.0 is in
              let absent : at_key f h.0 (e ∷ es) ≡ 0 = at_other f h.0 e es (ap is_eq back) ∙ at_none f h.0 es (below_none f h.0 e.0 es back (sorted_of f e es s).0) in
              let first : g h.1 ≡ 0 = sym (at_head g h hs) ∙ sym (same h.0) ∙ absent in
              let others : total f (e ∷ es) ≡ total g hs =
              later (λ k. sym (rest_at g h hs t k (at_key f k (e ∷ es)) (λ tie. ap (λ q. at_key f q (e ∷ es)) (tied nat_cmp_total nat_cmp-IsAntisymmetric k h.0 tie) ∙ absent) (λ ne. sym (same k)))) in
              omega (arith, first, others, total-cons g h hs)

-- by the maps
pub same_totals : {X Y : Type 0} (f : X → ℕ) (g : Y → ℕ) (m : map.FinMap nat_cmp X) (n : map.FinMap nat_cmp Y) → ((k : ℕ) → unwrap_or (option_map f (map.get m k)) 0 ≡ unwrap_or (option_map g (map.get n k)) 0)
    → sum (map (λ e. f e.1) (map.entries m)) ≡ sum (map (λ e. g e.1) (map.entries n))
unfolding total at_key
same_totals f g m n same =
    total-same f g (map.entries m) (true_of _ (map.entries_sorted m)) (map.entries n) (true_of _ (map.entries_sorted n)) (λ k.
    ap (λ o. unwrap_or (option_map f o) 0) (sym (map.get-entries m k)) ∙ same k ∙ ap (λ o. unwrap_or (option_map g o) 0) (map.get-entries n k))
