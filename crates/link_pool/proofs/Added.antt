-- Cells after a node came in.
use Rattle.std.proofs.Common.{ℕ, ◌≡◌, ◌≢◌, ⊎_elim, List, [], ◌∷◌, ◌++◌, true, Some, None, IsSome, refl, sym, ap, ◌∙◌, subst, append-nil}
use Rattle.std.proofs.lemmas.Bool.{cases_eq}
use Rattle.std.proofs.lemmas.List.{map-append}
use Rattle.std.specs.FinMap as map
use Rattle.slab.specs.Slab.{Slab, Updates}
use Rattle.link_pool.specs.Names.{node_named}
use Rattle.link_pool.specs.Linked.{Linked}
use Rattle.link_pool.specs.Rings.{list_in}
use Rattle.link_pool.specs.Cells.{Ring, number, ring_of, head_of, link_of, next_of, prev_of, kind_of, is_head_of, seat_of, home_of, next_at, prev_at, kind_at, home_at, seat_at, is_head_at, list_at, ring_if, rings_of, nodes_of, end_of, front_of, IsLinked, SetsNext, SetsPrev, IsAdded}
use Rattle.link_pool.specs.declared.cells.Cell.{Cell}
use Rattle.link_pool.specs.declared.cells.Kind.TheVariants.{Member}
use Rattle.link_pool.specs.declared.cells.Link.{Link}
use Rattle.link_pool.specs.declared.cells.Side.{Side}
use Rattle.link_pool.specs.declared.names.Node.{Node}
use Rattle.link_pool.specs.declared.names.Seat.{Seat}
use Rattle.link_pool.proofs.Paths.{IsGap, end_gap, front_gap}
use Rattle.link_pool.proofs.Changes.{inserted, put_at, put_here, put_there}
use Rattle.link_pool.proofs.Lists.{nodes}
use Rattle.link_pool.proofs.Sound.{ring_number, not_head, no_head, no_home, home_is, is_some, list_is, not_vacant}
use Rattle.link_pool.proofs.Settled.{settled, rings_changed, nodes_changed}
use Rattle.link_pool.proofs.Taken.{LinksSame}

module _ {T : Type 0} where
  -- x came in, and its ring of this side has these nodes
  pub record HasCome (side : Side) (old new : Slab (Cell T)) (x : Node) (seat : Seat T) (ring : List Node) : Type 0 where
    pub linked : IsLinked side new
    pub rings : rings_of side new ≡ map.insert (rings_of side old) (ring_of side seat) ring
    pub nodes : nodes_of new ≡ map.insert (nodes_of old) x seat

  module _ (side : Side) (old new : Slab (Cell T)) (linked : IsLinked side old) (x : Node) (seat : Seat T) (head : is_head_at side old (head_of side seat) ≡ true) (vacant : kind_at old x.number ≡ None) where
    abbrev r : ℕ
    r = head_of side seat

    abbrev k : Ring side
    k = ring_of side seat

    own : is_head_at side old (number side k) ≡ true
    own = ap (is_head_at side old) (ring_number side seat) ∙ head

    list_was : list_in (rings_of side old) k ≡ nodes (list_at side old r)
    list_was = list_is side old k own ∙ ap (λ q. nodes (list_at side old q)) (ring_number side seat)

    module _ (link : Link) (was : IsAdded side old new x.number seat link) where
      stands : seat_at new x.number ≡ Some seat
      stands = ap seat_of was.stands

      heads : (q : ℕ) → is_head_at side new q ≡ is_head_at side old q
      heads q =
          ⊎_elim
          (λ e. ap (is_head_at side new) e ∙ not_head side (kind_at new x.number) (is_some (seat_at new x.number) seat stands) ∙ sym (no_head side (kind_at old x.number) vacant) ∙ ap (is_head_at side old) (sym e))
          (λ ne. ap (is_head_of side) (was.kinds q ne))
          (cases_eq q x.number)

      module _ (us vs : List ℕ) (is : list_at side old r ≡ us ++ vs) (gap : IsGap (next_at side old) (prev_at side old) r us vs link.prev link.next) where
        after : Linked (put_at r (us ++ x.number ∷ vs) (list_at side old)) (is_head_at side new) (home_at side new) (next_at side new) (prev_at side new)
        after =
            inserted _ _ _ _ _ linked (is_head_at side new) (home_at side new) (next_at side new) (prev_at side new) heads r x.number link.prev link.next us vs head is gap (no_head side (kind_at old x.number) vacant)
            (no_home side (kind_at old x.number) vacant)
            (record {
              homes = λ y ne. ap (home_of side) (was.kinds y ne);
              stands = home_is side (kind_at new x.number) seat stands;
              forth = was.forth;
              across = was.across;
              here = was.here;
              back = was.back;
              under = was.under;
              end = was.end;
            })

        here : ring_if (is_head_at side new (number side k)) (put_at r (us ++ x.number ∷ vs) (list_at side old) (number side k)) ≡ Some (nodes us ++ x ∷ nodes vs)
        here =
            ap (λ b. ring_if b (put_at r (us ++ x.number ∷ vs) (list_at side old) (number side k))) (heads (number side k) ∙ own)
            ∙ ap (λ l. Some (nodes l)) (put_here r (us ++ x.number ∷ vs) (list_at side old) (number side k) (ring_number side seat)) ∙ ap Some (map-append node_named us (x.number ∷ vs))

        -- the ring of x has x between these
        came : HasCome side old new x seat (nodes us ++ x ∷ nodes vs)
        came = record {
          linked = settled side new _ after;
          rings = rings_changed side new _ after old k (Some (nodes us ++ x ∷ nodes vs)) here (λ q ne. heads q) (λ q ne h. put_there r (us ++ x.number ∷ vs) (list_at side old) q (λ e. ne (e ∙ sym (ring_number side seat))));
          nodes = nodes_changed old new x (Some seat) stands (λ q ne. ap seat_of (was.kinds q ne));
        }

    pub came_last : IsAdded side old new x.number seat (end_of side old r) → HasCome side old new x seat (list_in (rings_of side old) k ++ x ∷ [])
    came_last was =
        subst (λ (l : List Node). HasCome side old new x seat (l ++ x ∷ [])) (sym list_was)
        (came (end_of side old r) was (list_at side old r) [] (sym (append-nil (list_at side old r))) (end_gap _ _ r (list_at side old r) (linked.path r head)))

    pub came_first : IsAdded side old new x.number seat (front_of side old r) → HasCome side old new x seat (x ∷ list_in (rings_of side old) k)
    came_first was =
        subst (λ (l : List Node). HasCome side old new x seat (x ∷ l)) (sym list_was)
        (came (front_of side old r) was [] (list_at side old r) refl (front_gap _ _ r (list_at side old r) (linked.path r head)))

  -- cell by cell, what an insertion and the links of both sides make
  pub added_by : (side : Side) (s0 s1 t u v w : Slab (Cell T)) (x : ℕ) (cell : Cell T) (seat : Seat T) (link : Link) → link.prev ≢ x → link.next ≢ x → Updates s0 s1 x (Some cell)
      → cell.kind ≡ Member seat → link_of side cell ≡ link
      → LinksSame side s1 t → SetsNext side t u link.prev x → SetsPrev side u v link.next x → LinksSame side v w → IsAdded side s0 w x seat link
  added_by side s0 s1 t u v w x cell seat link np nn new kind is before a b after = record {
    kinds = λ y ne. after.kind y ∙ b.kind y ∙ a.kind y ∙ before.kind y ∙ ap kind_of (new.others y ne);
    stands = after.kind x ∙ b.kind x ∙ a.kind x ∙ before.kind x ∙ ap kind_of new.changed ∙ ap Some kind;
    forth = λ y ne far. after.next y ∙ b.next y ∙ a.next y far ∙ before.next y ∙ ap (next_of side) (new.others y ne);
    across = after.next _ ∙ b.next _ ∙ a.here;
    here = after.next x ∙ b.next x ∙ a.next x (λ e. np (sym e)) ∙ before.next x ∙ ap (next_of side) new.changed ∙ ap (λ l. l.next) is;
    back = λ y ne far. after.prev y ∙ b.prev y far ∙ a.prev y ∙ before.prev y ∙ ap (prev_of side) (new.others y ne);
    under = after.prev x ∙ b.prev x (λ e. nn (sym e)) ∙ a.prev x ∙ before.prev x ∙ ap (prev_of side) new.changed ∙ ap (λ l. l.prev) is;
    end = after.prev _ ∙ b.here;
  }

  -- a cell that was there is there after the insertion
  pub live_beside : (s0 s1 t : Slab (Cell T)) (x y : ℕ) (cell : Cell T) → Updates s0 s1 x (Some cell) → ((w : ℕ) → kind_at t w ≡ kind_at s1 w) → kind_at s0 x ≡ None → IsSome (kind_at s0 y) → IsSome (kind_at t y)
  live_beside s0 s1 t x y cell new same free some = subst IsSome (sym (same y ∙ ap kind_of (new.others y (not_vacant s0 y x some free)))) some
