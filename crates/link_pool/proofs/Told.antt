-- What a pool answers of its cells.
use Rattle.std.proofs.Common.{ℕ, ◌≡◌, List, [], ◌∷◌, true, Option, Some, None, IsSome, inl, slice_get, refl, sym, ap, ◌∙◌, subst}
use Rattle.std.specs.Prelude.{IsSomeAnd}
use Rattle.std.specs.Option.{option_map}
use Rattle.std.specs.FinMap as map
use Rattle.std.proofs.lemmas.Option.{slice_get-map}
use Rattle.slab.specs.Slab.{Slab}
use Rattle.link_pool.specs.Names.{node_named}
use Rattle.link_pool.specs.Linked.{In, behind, link_to}
use Rattle.link_pool.specs.Rings.{following, first_in, list_in}
use Rattle.link_pool.specs.Meaning.{Meaning}
use Rattle.link_pool.specs.Cells.{Ring, number, ring_of, head_of, next_at, prev_at, kind_at, home_at, seat_at, is_head_at, list_at, rings_of, meaning_of, IsLinked}
use Rattle.link_pool.specs.declared.cells.Cell.{Cell}
use Rattle.link_pool.specs.declared.cells.Side.{Side}
use Rattle.link_pool.specs.declared.cells.Side.TheVariants.{Rows, Cols}
use Rattle.link_pool.specs.declared.names.Node.{Node}
use Rattle.link_pool.specs.declared.names.Row.{Row}
use Rattle.link_pool.specs.declared.names.Col.{Col}
use Rattle.link_pool.specs.declared.names.Seat.{Seat}
use Rattle.link_pool.proofs.Walks.{next_is}
use Rattle.link_pool.proofs.Lists.{nodes, following-nodes}
use Rattle.link_pool.proofs.Sound.{no_value, home_seat, ring_number, home_is, get-nodes, ring_there, list_is, head_found}
use Rattle.link_pool.proofs.Settled.{home_in}

module _ {T : Type 0} where
  -- the link of a node leads to what is behind it in its ring
  pub next_told : (side : Side) (s : Slab (Cell T)) → IsLinked side s → (x : ℕ) (seat : Seat T) → seat_at s x ≡ Some seat → (head to : ℕ) → head ≡ head_of side seat → to ≡ next_at side s x
      → option_map (λ h. option_map node_named (behind x (list_at side s h))) (home_at side s x) ≡ Some (option_map node_named (link_to head to))
  next_told side s linked x seat at head to is eq =
      let r = ring_there side s linked x seat at in
      let h = head_of side seat in
      ap (option_map (λ q. option_map node_named (behind x (list_at side s q)))) (home_is side (kind_at s x) seat at)
      ∙ ap (λ o. Some (option_map node_named o)) (sym (next_is (next_at side s) (prev_at side s) h x (list_at side s h) (linked.path h r.0) (linked.distinct h r.0) r.1) ∙ ap (λ q. link_to q (next_at side s x)) (sym is) ∙ ap (link_to head) (sym eq))

  pub following_told : (side : Side) (s : Slab (Cell T)) → IsLinked side s → (node : Node) (answer : Option Node) → option_map (λ h. option_map node_named (behind node.number (list_at side s h))) (home_at side s node.number) ≡ Some answer
      → IsSomeAnd (home_in side s node) (λ k. answer ≡ following node (list_in (rings_of side s) k))
  following_told side s linked node answer e = by (seat_at s node.number) refl
    where
      some : {A : Type 0} {a b : A} → Some a ≡ Some b → a ≡ b
      some g = cc

      by : (o : Option (Seat T)) → seat_at s node.number ≡ o → IsSomeAnd (home_in side s node) (λ k. answer ≡ following node (list_in (rings_of side s) k))
      by None at = no_value answer (sym (ap (λ o. option_map (λ h. option_map node_named (behind node.number (list_at side s h))) (option_map (head_of side) o)) at) ∙ e)
      by (Some seat) at =
          let r = ring_there side s linked node.number seat at in
          let own : is_head_at side s (number side (ring_of side seat)) ≡ true = ap (is_head_at side s) (ring_number side seat) ∙ r.0 in
          subst (λ o. IsSomeAnd o (λ k. answer ≡ following node (list_in (rings_of side s) k))) (sym (ap (option_map (ring_of side)) (get-nodes s node ∙ at)))
          (some (sym e ∙ ap (option_map (λ h. option_map node_named (behind node.number (list_at side s h)))) (home_is side (kind_at s node.number) seat at))
          ∙ sym (following-nodes node.number (list_at side s (head_of side seat))) ∙ ap (λ q. following node (nodes (list_at side s q))) (sym (ring_number side seat)) ∙ ap (following node) (sym (list_is side s (ring_of side seat) own)))

  pub first_told : (side : Side) (s : Slab (Cell T)) (k : Ring side) → is_head_at side s (number side k) ≡ true → option_map node_named (slice_get (list_at side s (number side k)) 0) ≡ first_in (rings_of side s) k
  first_told side s k h = sym (slice_get-map node_named (list_at side s (number side k)) 0) ∙ ap (λ l. slice_get l 0) (sym (list_is side s k h))

  -- the first of a ring is a node
  pub first_seated : (side : Side) (s : Slab (Cell T)) → IsLinked side s → (r : ℕ) → is_head_at side s r ≡ true → (node : Node) → option_map node_named (slice_get (list_at side s r) 0) ≡ Some node → IsSome (seat_at s node.number)
  first_seated side s linked r h node e = by (list_at side s r) refl e
    where
      by : (xs : List ℕ) → list_at side s r ≡ xs → option_map node_named (slice_get xs 0) ≡ Some node → IsSome (seat_at s node.number)
      by [] is g = no_value node g
      by (x ∷ xs) is g =
          let same : node_named x ≡ node = (let found : Some (node_named x) ≡ Some node = g in cc) in
          let here : In node.number (list_at side s r) = subst (In node.number) (sym is) (inl (sym (ap (λ n. n.number) same))) in
          home_seat side (kind_at s node.number) r (linked.members r node.number h here)

  module _ (s : Slab (Cell T)) (promised : ℕ) (m : Meaning T) (is : meaning_of s promised ≡ m) where
    pub seat_found : (node : Node) → IsSome (map.get m.nodes node) → IsSome (seat_at s node.number)
    seat_found node h = subst IsSome (get-nodes s node) (subst (λ p. IsSome (map.get p.nodes node)) (sym is) h)

    pub seat_told : (node : Node) (seat : Seat T) → seat_at s node.number ≡ Some seat → map.get m.nodes node ≡ Some seat
    seat_told node seat at = ap (λ p. map.get p.nodes node) (sym is) ∙ get-nodes s node ∙ at

    pub row_found : (row : Row) → IsSome (map.get m.rows row) → is_head_at Rows s row.number ≡ true
    row_found row h = head_found Rows s row (subst (λ p. IsSome (map.get p.rows row)) (sym is) h)

    pub col_found : (col : Col) → IsSome (map.get m.cols col) → is_head_at Cols s col.number ≡ true
    col_found col h = head_found Cols s col (subst (λ p. IsSome (map.get p.cols col)) (sym is) h)

    -- what a look for the first found
    pub first_of_row_told : (row : Row) → IsSome (map.get m.rows row) → (answer : Option Node) → answer ≡ option_map node_named (slice_get (list_at Rows s row.number) 0) → first_in m.rows row ≡ answer
    first_of_row_told row h answer e = ap (λ p. first_in p.rows row) (sym is) ∙ sym (first_told Rows s row (row_found row h)) ∙ sym e

    pub first_of_col_told : (col : Col) → IsSome (map.get m.cols col) → (answer : Option Node) → answer ≡ option_map node_named (slice_get (list_at Cols s col.number) 0) → first_in m.cols col ≡ answer
    first_of_col_told col h answer e = ap (λ p. first_in p.cols col) (sym is) ∙ sym (first_told Cols s col (col_found col h)) ∙ sym e
