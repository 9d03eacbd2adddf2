-- Lists of nodes: what stands right behind a node, and the list without one.
use Rattle.std.proofs.Common.{ℕ, zero, suc, ◌≡◌, ◌≢◌, ◌+◌, ◌<◌, ◌≤◌, ⊎_elim, List, [], ◌∷◌, ◌++◌, length, false, cond, not, Some, None, slice_get, refl, sym, ap, ◌∙◌, subst, arith}
use Rattle.std.specs.Prelude.{AllPairs, Contains}
use Rattle.std.proofs.lemmas.Bool.{eq-eqb}
use Rattle.std.proofs.lemmas.List.{length-append}
use Rattle.std.proofs.lemmas.List.Elements.{Contains-append_right}
use Rattle.slab.proofs.SlabLemmas.{Contains-cons, Contains-cons_cases}
use Rattle.link_pool.specs.Names.{same_node, node_named}
use Rattle.link_pool.specs.Rings.{without, following}
use Rattle.link_pool.specs.declared.names.Node.{Node}
use Rattle.link_pool.proofs.Paths.{not_equal}

no_value : {A B : Type 0} (r : A) → None ≡ Some r → B
no_value r h = absurd (cc)

pub one_value : {A : Type 0} {a b : A} → Some a ≡ Some b → a ≡ b
one_value e = cc

-- no node stands twice, as `AreHomes.once` says it of each ring
abbrev pub AreDistinct : List Node → Type 0
AreDistinct nodes = AllPairs (λ a b. a ≢ b) nodes

pub same_node-false : (a b : Node) → a ≢ b → same_node a b ≡ false
same_node-false a b ne = not_equal a.number b.number (λ e. ne (ap node_named e))

pub not_in_rest : (x : Node) (xs : List Node) → AreDistinct (x ∷ xs) → Contains xs x → ⊥
not_in_rest x xs d m = d 0 (suc m.0) x (omega arith) (omega (arith, m.1)) (sym m.2)

pub rest_distinct : (x : Node) (xs : List Node) → AreDistinct (x ∷ xs) → AreDistinct xs
rest_distinct x xs d = λ i j z lt m. d (suc i) (suc j) z (omega (arith, lt)) (omega (arith, m))

pub contains_at : (xs : List Node) (k : ℕ) (x : Node) → slice_get xs k ≡ Some x → Contains xs x
contains_at [] k x at = no_value x at
contains_at (y ∷ ys) zero x at = (0, omega arith, one_value at)
contains_at (y ∷ ys) (suc k) x at = Contains-cons y x ys (contains_at ys k x at)

pub within_at : (xs : List Node) (k : ℕ) (x : Node) → slice_get xs k ≡ Some x → k < length xs
within_at [] k x at = no_value x at
within_at (y ∷ ys) zero x at = omega arith
within_at (y ∷ ys) (suc k) x at = omega (arith, within_at ys k x at)

pub past_at : (xs : List Node) (k : ℕ) → slice_get xs k ≡ None → length xs ≤ k
past_at [] k at = omega arith
past_at (y ∷ ys) zero at = no_value y (sym at)
past_at (y ∷ ys) (suc k) at = omega (arith, past_at ys k at)

-- a list about one of its nodes
pub record IsSplit (x : Node) (xs : List Node) : Type 0 where
  pub front : List Node
  pub back : List Node
  pub is : xs ≡ front ++ x ∷ back

pub split_at : (x : Node) (xs : List Node) → Contains xs x → IsSplit x xs
split_at x [] m = absurd (omega (arith, m.1))
split_at x (y ∷ ys) m =
    ⊎_elim
    (λ e. record { front = []; back = ys; is = ap (λ z. z ∷ ys) e })
    (λ k. let s = split_at x ys k in record { front = y ∷ s.front; back = s.back; is = ap (λ l. y ∷ l) s.is })
    (Contains-cons_cases y x ys m)

-- the node at the split stands in the list
pub contains_split : (x : Node) (us vs : List Node) → Contains (us ++ x ∷ vs) x
contains_split x us vs = Contains-append_right us (x ∷ vs) x (0, omega arith, refl)

front_other : (x u : Node) (us vs : List Node) → AreDistinct (u ∷ us ++ x ∷ vs) → u ≢ x
front_other x u us vs d e = not_in_rest u (us ++ x ∷ vs) d (subst (Contains (us ++ x ∷ vs)) (sym e) (contains_split x us vs))

-- the node right behind the one at the split
pub following-split : (x : Node) (us vs : List Node) → AreDistinct (us ++ x ∷ vs) → following x (us ++ x ∷ vs) ≡ slice_get vs 0
following-split x [] vs d = ap (λ b. cond b (slice_get vs 0) (following x vs)) (eq-eqb x.number x.number refl)
following-split x (u ∷ us) vs d =
    ap (λ b. cond b (slice_get (us ++ x ∷ vs) 0) (following x (us ++ x ∷ vs))) (same_node-false u x (front_other x u us vs d)) ∙ following-split x us vs (rest_distinct u (us ++ x ∷ vs) d)

following_suc : (xs : List Node) (k : ℕ) (x : Node) → AreDistinct xs → slice_get xs k ≡ Some x → following x xs ≡ slice_get xs (suc k)
following_suc [] k x d at = no_value x at
following_suc (y ∷ ys) zero x d at = let e : y ≡ x = one_value at in ap (λ b. cond b (slice_get ys 0) (following x ys)) (ap (λ z. same_node z x) e ∙ eq-eqb x.number x.number refl)
following_suc (y ∷ ys) (suc k) x d at =
    ap (λ b. cond b (slice_get ys 0) (following x ys)) (same_node-false y x (λ e. not_in_rest y ys d (subst (Contains ys) (sym e) (contains_at ys k x at)))) ∙ following_suc ys k x (rest_distinct y ys d) at

-- a walk by number: behind the k-th node stands the next
pub following-at : (xs : List Node) (k : ℕ) (x : Node) → AreDistinct xs → slice_get xs k ≡ Some x → following x xs ≡ slice_get xs (k + 1)
following-at xs k x d at = let next : suc k ≡ k + 1 = omega arith in following_suc xs k x d at ∙ ap (slice_get xs) next

without-here : (x : Node) (ys : List Node) → without x (x ∷ ys) ≡ without x ys
without-here x ys = ap (λ b. cond (not b) (x ∷ without x ys) (without x ys)) (eq-eqb x.number x.number refl)

without-there : (x y : Node) (ys : List Node) → y ≢ x → without x (y ∷ ys) ≡ y ∷ without x ys
without-there x y ys ne = ap (λ b. cond (not b) (y ∷ without x ys) (without x ys)) (same_node-false y x ne)

-- a list that lacks the node
pub without-absent : (x : Node) (xs : List Node) → (Contains xs x → ⊥) → without x xs ≡ xs
without-absent x [] none = refl
without-absent x (y ∷ ys) none = without-there x y ys (λ e. none (0, omega arith, e)) ∙ ap (λ l. y ∷ l) (without-absent x ys (λ m. none (Contains-cons y x ys m)))

-- the nodes before the one at the split and those behind it
pub without-split : (x : Node) (us vs : List Node) → AreDistinct (us ++ x ∷ vs) → without x (us ++ x ∷ vs) ≡ us ++ vs
without-split x [] vs d = without-here x vs ∙ without-absent x vs (not_in_rest x vs d)
without-split x (u ∷ us) vs d = without-there x u (us ++ x ∷ vs) (front_other x u us vs d) ∙ ap (λ l. u ∷ l) (without-split x us vs (rest_distinct u (us ++ x ∷ vs) d))

-- without its first node a list is the rest
pub without-first : (x : Node) (xs : List Node) → AreDistinct (x ∷ xs) → without x (x ∷ xs) ≡ xs
without-first x xs d = without-split x [] xs d

-- one node fewer
pub length-without : (x : Node) (xs : List Node) → AreDistinct xs → Contains xs x → length (without x xs) + 1 ≡ length xs
length-without x xs d m =
    let s = split_at x xs m in
    let kept : without x xs ≡ s.front ++ s.back = ap (without x) s.is ∙ without-split x s.front s.back (subst AreDistinct s.is d) in
    omega (arith, ap length kept, length-append s.front s.back, ap length s.is, length-append s.front (x ∷ s.back))
