-- Lists of numbers, and of the nodes that they name.
use Rattle.std.proofs.Common.{ℕ, ◌≡◌, ◌≢◌, inl, inr, ⊎_elim, List, [], ◌∷◌, Bool, true, false, cond, not, nat_eq, slice_get, refl, sym, ap, arith}
use Rattle.std.specs.Prelude.{map, All, AllPairs, Contains}
use Rattle.std.specs.Option.{option_map}
use Rattle.std.proofs.lemmas.Option.{slice_get-map}
use Rattle.std.proofs.lemmas.List.Elements.{All-nil, All-cons}
use Rattle.std.proofs.lemmas.List.Kept.{AllPairs-cons}
use Rattle.slab.proofs.SlabLemmas.{Contains-cons, Contains-cons_cases}
use Rattle.link_pool.specs.Names.{node_named}
use Rattle.link_pool.specs.Rings.{without, following}
use Rattle.link_pool.specs.Linked.{In, Distinct, behind}
use Rattle.link_pool.specs.declared.names.Node.{Node}
use Rattle.link_pool.proofs.Changes.{lacking}

-- the nodes with these numbers
abbrev pub nodes : List ℕ → List Node
nodes xs = map node_named xs

pub nodes-lacking : (x : ℕ) (xs : List ℕ) → nodes (lacking x xs) ≡ without (node_named x) (nodes xs)
nodes-lacking x [] = refl
nodes-lacking x (y ∷ ys) = by (nat_eq y x) (nodes-lacking x ys)
  where
    by : (b : Bool) → nodes (lacking x ys) ≡ without (node_named x) (nodes ys) → nodes (cond (not b) (y ∷ lacking x ys) (lacking x ys)) ≡ cond (not b) (node_named y ∷ without (node_named x) (nodes ys)) (without (node_named x) (nodes ys))
    by true e = e
    by false e = ap (λ l. node_named y ∷ l) e

pub following-nodes : (x : ℕ) (xs : List ℕ) → following (node_named x) (nodes xs) ≡ option_map node_named (behind x xs)
following-nodes x [] = refl
following-nodes x (y ∷ ys) = by (nat_eq y x) (following-nodes x ys)
  where
    by : (b : Bool) → following (node_named x) (nodes ys) ≡ option_map node_named (behind x ys) → cond b (slice_get (nodes ys) 0) (following (node_named x) (nodes ys)) ≡ option_map node_named (cond b (slice_get ys 0) (behind x ys))
    by true e = slice_get-map node_named ys 0
    by false e = e

same_number : (a b : Node) → a ≡ b → a.number ≡ b.number
same_number a b e = ap (λ n. n.number) e

pub in_nodes : (x : Node) (xs : List ℕ) → Contains (nodes xs) x → In x.number xs
in_nodes x [] m = absurd (omega (arith, m.1))
in_nodes x (y ∷ ys) m = ⊎_elim (λ e. inl (sym (same_number _ _ e))) (λ k. inr (in_nodes x ys k)) (Contains-cons_cases (node_named y) x (nodes ys) m)

pub contains_node : (x : Node) (xs : List ℕ) → In x.number xs → Contains (nodes xs) x
contains_node x [] m = absurd m
contains_node x (y ∷ ys) m = ⊎_elim (λ e. (0, omega arith, ap node_named (sym e))) (λ k. Contains-cons (node_named y) x (nodes ys) (contains_node x ys k)) m

other_nodes : (x : ℕ) (xs : List ℕ) → (In x xs → ⊥) → All (λ b. node_named x ≢ b) (nodes xs)
other_nodes x [] none = All-nil _
other_nodes x (y ∷ ys) none = All-cons (λ b. node_named x ≢ b) (node_named y) (nodes ys) (λ e. none (inl (same_number _ _ e))) (other_nodes x ys (λ m. none (inr m)))

pub distinct_nodes : (xs : List ℕ) → Distinct xs → AllPairs (λ a b. a ≢ b) (nodes xs)
distinct_nodes [] d = λ i j z lt m. absurd (omega (arith, m))
distinct_nodes (x ∷ xs) d = AllPairs-cons (λ a b. a ≢ b) (node_named x) (nodes xs) (other_nodes x xs d.0) (distinct_nodes xs d.1)
