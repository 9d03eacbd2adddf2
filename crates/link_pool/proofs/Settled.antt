-- Cells after a change, of which the lists are known.
use Rattle.std.proofs.Common.{ℕ, ◌≡◌, ◌≢◌, ◌≤◌, List, [], length, Bool, true, false, Option, Some, None, refl, sym, ap, ◌∙◌, subst}
use Rattle.std.specs.Prelude.{Contains, AllPairs, slice_index_or}
use Rattle.std.specs.Option.{option_map, unwrap_or}
use Rattle.std.specs.FinMap as map
use Rattle.slab.specs.Slab.{Slab}
use Rattle.slab.proofs.SlabLemmas.{ContainsKey-within}
use Rattle.link_pool.specs.Names.{node_named}
use Rattle.link_pool.specs.Linked.{In, Linked}
use Rattle.link_pool.specs.Rings.{list_in, AreHomes}
use Rattle.link_pool.specs.Meaning.{AreRings}
use Rattle.link_pool.specs.Cells.{Ring, number, ring_named, ring_of, head_of, with_entry, next_at, prev_at, kind_of, kind_at, home_at, seat_at, is_head_at, list_at, ring_if, ring_at, rings_of, nodes_of, meaning_of, IsLinked, IsSound}
use Rattle.link_pool.specs.declared.cells.Cell.{Cell}
use Rattle.link_pool.specs.declared.cells.Side.{Side}
use Rattle.link_pool.specs.declared.cells.Side.TheVariants.{Rows, Cols}
use Rattle.link_pool.specs.declared.names.Node.{Node}
use Rattle.link_pool.specs.declared.names.Seat.{Seat}
use Rattle.link_pool.proofs.Changes.{rewalked, walks, few_below}
use Rattle.link_pool.proofs.Maps.{changed, unchanged}
use Rattle.link_pool.proofs.Lists.{nodes, in_nodes, contains_node, distinct_nodes}
use Rattle.link_pool.proofs.Sound.{ring_back, ring_forth, node_back, node_forth, no_value, ring_number, no_ring, no_seat, get-rings, get-nodes, list_is, cell_live, is_some, home_is, nothing, no_head, no_home}

-- rings alike, where a head is as it was and its places too
same_ring : (a b : Bool) (xs ys : List ℕ) → a ≡ b → (b ≡ true → xs ≡ ys) → ring_if a xs ≡ ring_if b ys
same_ring a true xs ys e same = ap (λ c. ring_if c xs) e ∙ ap (λ l. Some (nodes l)) (same refl)
same_ring a false xs ys e same = ap (λ c. ring_if c xs) e

module _ {T : Type 0} where
  module _ (side : Side) (new : Slab (Cell T)) (lists : ℕ → List ℕ) (linked : Linked lists (is_head_at side new) (home_at side new) (next_at side new) (prev_at side new)) where
    few : (q : ℕ) → is_head_at side new q ≡ true → length (lists q) ≤ length new.slots
    few q h = few_below (length new.slots) (lists q) (linked.distinct q h).1 (λ y m. ContainsKey-within new y (cell_live side new y q (linked.members q y h m)))

    pub settled : IsLinked side new
    settled = rewalked _ _ _ _ _ linked (length new.slots) few

    pub list_now : (q : ℕ) → is_head_at side new q ≡ true → list_at side new q ≡ lists q
    list_now q h = walks _ _ _ _ _ linked (length new.slots) few q h

    -- the rings, where the lists changed at one ring
    pub rings_changed : (old : Slab (Cell T)) (k : Ring side) (o : Option (List Node)) → ring_if (is_head_at side new (number side k)) (lists (number side k)) ≡ o
        → ((q : ℕ) → q ≢ number side k → is_head_at side new q ≡ is_head_at side old q) → ((q : ℕ) → q ≢ number side k → is_head_at side old q ≡ true → lists q ≡ list_at side old q)
        → rings_of side new ≡ with_entry o k (rings_of side old)
    rings_changed old k o here heads same =
        changed (number side) (ring_named side) (ring_back side) (ring_forth side) (length old.slots) (length new.slots) (ring_at side old) (ring_at side new) k o (no_ring side old) (no_ring side new)
        (same_ring (is_head_at side new (number side k)) (is_head_at side new (number side k)) (list_at side new (number side k)) (lists (number side k)) refl (list_now (number side k)) ∙ here)
        (λ q ne. same_ring (is_head_at side new q) (is_head_at side old q) (list_at side new q) (list_at side old q) (heads q ne) (λ h. list_now q (heads q ne ∙ h) ∙ same q ne h))

    -- the rings, where no list changed
    pub rings_same : (old : Slab (Cell T)) → ((q : ℕ) → is_head_at side new q ≡ is_head_at side old q) → ((q : ℕ) → is_head_at side old q ≡ true → lists q ≡ list_at side old q) → rings_of side new ≡ rings_of side old
    rings_same old heads same =
        unchanged (number side) (ring_named side) (ring_back side) (ring_forth side) (length old.slots) (length new.slots) (ring_at side old) (ring_at side new) (no_ring side old) (no_ring side new)
        (λ q. same_ring (is_head_at side new q) (is_head_at side old q) (list_at side new q) (list_at side old q) (heads q) (λ h. list_now q (heads q ∙ h) ∙ same q h))

  -- the nodes, where one seat changed
  pub nodes_changed : (old new : Slab (Cell T)) (k : Node) (o : Option (Seat T)) → seat_at new k.number ≡ o → ((q : ℕ) → q ≢ k.number → seat_at new q ≡ seat_at old q) → nodes_of new ≡ with_entry o k (nodes_of old)
  nodes_changed old new k o here there = changed (λ n. n.number) node_named node_back node_forth (length old.slots) (length new.slots) (seat_at old) (seat_at new) k o (no_seat old) (no_seat new) here there

  -- the nodes, where no seat changed
  pub nodes_same : (old new : Slab (Cell T)) → ((q : ℕ) → seat_at new q ≡ seat_at old q) → nodes_of new ≡ nodes_of old
  nodes_same old new same = unchanged (λ n. n.number) node_named node_back node_forth (length old.slots) (length new.slots) (seat_at old) (seat_at new) (no_seat old) (no_seat new) same

  -- the ring of a node, as the meaning has it
  abbrev pub home_in : (side : Side) → Slab (Cell T) → Node → Option (Ring side)
  home_in side s node = option_map (ring_of side) (map.get (nodes_of s) node)

  module _ (side : Side) (s : Slab (Cell T)) (linked : IsLinked side s) where
    home_forth : (node : Node) (k : Ring side) → home_in side s node ≡ Some k → home_at side s node.number ≡ Some (number side k)
    home_forth node k e = by (seat_at s node.number) refl (sym (ap (option_map (ring_of side)) (get-nodes s node)) ∙ e)
      where
        by : (o : Option (Seat T)) → seat_at s node.number ≡ o → option_map (ring_of side) o ≡ Some k → home_at side s node.number ≡ Some (number side k)
        by None at g = no_value k g
        by (Some seat) at g = home_is side (kind_at s node.number) seat at ∙ ap Some (sym (ring_number side seat) ∙ ap (number side) (let is : Some (ring_of side seat) ≡ Some k = g in cc))

    home_back : (node : Node) (k : Ring side) → home_at side s node.number ≡ Some (number side k) → home_in side s node ≡ Some k
    home_back node k e = ap (option_map (ring_of side)) (get-nodes s node) ∙ by (seat_at s node.number) e
      where
        by : (o : Option (Seat T)) → option_map (head_of side) o ≡ Some (number side k) → option_map (ring_of side) o ≡ Some k
        by None g = no_value (number side k) g
        by (Some seat) g = ap Some (sym (ring_back side (ring_of side seat)) ∙ ap (ring_named side) (ring_number side seat ∙ (let is : Some (head_of side seat) ≡ Some (number side k) = g in cc)) ∙ ring_back side k)

    ring_some : (node : Node) (k : Ring side) → home_in side s node ≡ Some k → (is_head_at side s (number side k) ≡ true) × In node.number (list_at side s (number side k))
    ring_some node k e = linked.homes node.number (number side k) (home_forth node k e)

    -- what stands in a ring that is no head is nothing
    list_or_none : (k : Ring side) (b : Bool) → is_head_at side s (number side k) ≡ b → list_in (rings_of side s) k ≡ unwrap_or (ring_if b (list_at side s (number side k))) []
    list_or_none k b e = ap (λ o. unwrap_or o []) (get-rings side s k ∙ ap (λ c. ring_if c (list_at side s (number side k))) e)

    pub homes_hold : AreHomes (rings_of side s) (home_in side s)
    homes_hold = record {
      once = λ k. once_at k (is_head_at side s (number side k)) refl;
      only = λ k node m. only_at k node (is_head_at side s (number side k)) refl m;
      there = λ k node e. is_some (map.get (rings_of side s) k) (nodes (list_at side s (number side k))) (get-rings side s k ∙ ap (λ c. ring_if c (list_at side s (number side k))) (ring_some node k e).0);
      found = λ k node e. let r = ring_some node k e in subst (λ l. Contains l node) (sym (list_is side s k r.0)) (contains_node node (list_at side s (number side k)) r.1);
    }
      where
        once_at : (k : Ring side) (b : Bool) → is_head_at side s (number side k) ≡ b → AllPairs (λ x y. x ≢ y) (list_in (rings_of side s) k)
        once_at k true h = subst (AllPairs (λ x y. x ≢ y)) (sym (list_or_none k true h)) (distinct_nodes (list_at side s (number side k)) (linked.distinct (number side k) h).1)
        once_at k false h = subst (AllPairs (λ x y. x ≢ y)) (sym (list_or_none k false h)) (distinct_nodes [] tt)

        only_at : (k : Ring side) (node : Node) (b : Bool) → is_head_at side s (number side k) ≡ b → Contains (list_in (rings_of side s) k) node → home_in side s node ≡ Some k
        only_at k node true h m = home_back node k (linked.members (number side k) node.number h (in_nodes node (list_at side s (number side k)) (subst (λ l. Contains l node) (list_or_none k true h) m)))
        only_at k node false h m = absurd (in_nodes node [] (subst (λ l. Contains l node) (list_or_none k false h) m))

  -- each node stands once in its rings, and in no other
  pub rings_hold : (s : Slab (Cell T)) (promised : ℕ) → IsSound s → AreRings (meaning_of s promised)
  rings_hold s promised sound = record { rows = homes_hold Rows s sound.rows; cols = homes_hold Cols s sound.cols }

  -- no cell is in no ring
  pub no_cells : (s : Slab (Cell T)) → s.slots ≡ [] → IsSound s
  no_cells s none = record { rows = bare Rows; cols = bare Cols }
    where
      vacant : (q : ℕ) → kind_at s q ≡ None
      vacant q = ap (λ slots. kind_of (slice_index_or slots q None)) none

      bare : (side : Side) → IsLinked side s
      bare side = record {
        path = λ r h. nothing (sym (no_head side (kind_at s r) (vacant r)) ∙ h);
        distinct = λ r h. nothing (sym (no_head side (kind_at s r) (vacant r)) ∙ h);
        members = λ r x h m. nothing (sym (no_head side (kind_at s r) (vacant r)) ∙ h);
        homes = λ x r h. no_value r (sym (no_home side (kind_at s x) (vacant x)) ∙ h);
        no_home = λ r h. no_home side (kind_at s r) (vacant r);
      }
