-- Cells after the head of a ring with no node came in or went out.
use Rattle.std.proofs.Common.{ℕ, ◌≡◌, ◌≢◌, ⊎_elim, List, [], ◌∷◌, Bool, true, false, Option, Some, None, refl, sym, ap, ◌∙◌}
use Rattle.std.proofs.lemmas.Bool.{cases_eq}
use Rattle.std.specs.Option.{option_map}
use Rattle.std.specs.FinMap as map
use Rattle.slab.specs.Slab.{Slab, get, Updates}
use Rattle.link_pool.specs.Linked.{Linked}
use Rattle.link_pool.specs.Cells.{Ring, flip, number, ring_named, head_of, head_kind, head_cell, next_of, prev_of, kind_of, is_head_of, seat_of, home_of, next_at, prev_at, kind_at, home_at, seat_at, is_head_at, list_at, ring_if, ring_at, rings_of, nodes_of, IsLinked, IsSound}
use Rattle.link_pool.specs.declared.cells.Cell.{Cell}
use Rattle.link_pool.specs.declared.cells.Kind.{Kind}
use Rattle.link_pool.specs.declared.cells.Kind.TheVariants.{RowHead, ColHead, Member}
use Rattle.link_pool.specs.declared.cells.Side.{Side}
use Rattle.link_pool.specs.declared.cells.Side.TheVariants.{Rows, Cols}
use Rattle.link_pool.proofs.Changes.{elsewhere, closed, opened, put_at, put_here, put_there}
use Rattle.link_pool.proofs.Lists.{nodes}
use Rattle.link_pool.proofs.Sound.{ring_forth, nothing, no_value, no_head, no_home, get-rings, sound_at}
use Rattle.link_pool.proofs.Settled.{settled, rings_changed, rings_same, nodes_same}

head_there : (T : Type 0) (side : Side) → is_head_of {T = T} side (Some (head_kind side)) ≡ true
head_there T Rows = refl
head_there T Cols = refl

head_other : (T : Type 0) (side : Side) → is_head_of {T = T} (flip side) (Some (head_kind side)) ≡ false
head_other T Rows = refl
head_other T Cols = refl

seat_none : (T : Type 0) (side : Side) → seat_of {T = T} (Some (head_kind side)) ≡ None
seat_none T Rows = refl
seat_none T Cols = refl

home_none : (T : Type 0) (side other : Side) → home_of {T = T} other (Some (head_kind side)) ≡ None
home_none T side other = ap (option_map (head_of other)) (seat_none T side)

link_next : (T : Type 0) (side : Side) (r : ℕ) → next_of {T = T} side (Some (head_cell side r)) ≡ r
link_next T Rows r = refl
link_next T Cols r = refl

link_prev : (T : Type 0) (side : Side) (r : ℕ) → prev_of {T = T} side (Some (head_cell side r)) ≡ r
link_prev T Rows r = refl
link_prev T Cols r = refl

no_places : (xs : List ℕ) → Some (nodes xs) ≡ Some [] → xs ≡ []
no_places [] e = refl
no_places (x ∷ xs) e = absurd (cc)

module _ {T : Type 0} where
  -- what a head of this side is on that side
  head_kinds : (side : Side) (k : Option (Kind T)) → is_head_of side k ≡ true → k ≡ Some (head_kind side)
  head_kinds Rows None h = nothing h
  head_kinds Cols None h = nothing h
  head_kinds Rows (Some RowHead) h = refl
  head_kinds Cols (Some RowHead) h = nothing h
  head_kinds Rows (Some ColHead) h = nothing h
  head_kinds Cols (Some ColHead) h = refl
  head_kinds Rows (Some (Member seat)) h = nothing h
  head_kinds Cols (Some (Member seat)) h = nothing h

  both : (side : Side) (s : Slab (Cell T)) → IsLinked side s → IsLinked (flip side) s → IsSound s
  both Rows s a b = record { rows = a; cols = b }
  both Cols s a b = record { rows = b; cols = a }

  module _ (side : Side) (old new : Slab (Cell T)) (sound : IsSound old) (r : ℕ) where
    module _ (vacant : get old r ≡ None) (came : Updates old new r (Some (head_cell side r))) where
      stands : kind_at new r ≡ Some (head_kind side)
      stands = ap kind_of came.changed

      free : kind_at old r ≡ None
      free = ap kind_of vacant

      kinds : (y : ℕ) → y ≢ r → kind_at new y ≡ kind_at old y
      kinds y ne = ap kind_of (came.others y ne)

      own : Linked (put_at r [] (list_at side old)) (is_head_at side new) (home_at side new) (next_at side new) (prev_at side new)
      own =
          opened _ _ _ _ _ (sound_at side old sound) r (is_head_at side new) (home_at side new) (next_at side new) (prev_at side new) (λ q ne. ap (is_head_of side) (kinds q ne)) (λ y ne. ap (home_of side) (kinds y ne))
          (λ y ne. ap (next_of side) (came.others y ne)) (λ y ne. ap (prev_of side) (came.others y ne))
          (no_head side (kind_at old r) free) (no_home side (kind_at old r) free) (ap (home_of side) stands ∙ home_none T side side) (ap (is_head_of side) stands ∙ head_there T side)
          (ap (next_of side) came.changed ∙ link_next T side r) (ap (prev_of side) came.changed ∙ link_prev T side r)

      others : Linked (list_at (flip side) old) (is_head_at (flip side) new) (home_at (flip side) new) (next_at (flip side) new) (prev_at (flip side) new)
      others =
          elsewhere _ _ _ _ _ (sound_at (flip side) old sound) r (is_head_at (flip side) new) (home_at (flip side) new) (next_at (flip side) new) (prev_at (flip side) new)
          (λ q ne. ap (is_head_of (flip side)) (kinds q ne)) (λ y ne. ap (home_of (flip side)) (kinds y ne)) (λ y ne. ap (next_of (flip side)) (came.others y ne)) (λ y ne. ap (prev_of (flip side)) (came.others y ne))
          (no_head (flip side) (kind_at old r) free) (no_home (flip side) (kind_at old r) free) (ap (is_head_of (flip side)) stands ∙ head_other T side) (ap (home_of (flip side)) stands ∙ home_none T side (flip side))

      pub opened_sound : IsSound new
      opened_sound = both side new (settled side new _ own) (settled (flip side) new _ others)

      pub rings_opened : rings_of side new ≡ map.insert (rings_of side old) (ring_named side r) []
      rings_opened =
          let e = ring_forth side r in
          rings_changed side new _ own old (ring_named side r) (Some [])
          (ap (λ q. ring_if (is_head_at side new q) (put_at r [] (list_at side old) q)) e ∙ ap (λ b. ring_if b (put_at r [] (list_at side old) r)) (ap (is_head_of side) stands ∙ head_there T side) ∙ ap (λ l. Some (nodes l)) (put_here r [] (list_at side old) r refl))
          (λ q ne. ap (is_head_of side) (kinds q (λ i. ne (i ∙ sym e)))) (λ q ne h. put_there r [] (list_at side old) q (λ i. ne (i ∙ sym e)))

      pub others_opened : rings_of (flip side) new ≡ rings_of (flip side) old
      others_opened = rings_same (flip side) new _ others old heads (λ q h. refl)
        where
          heads : (q : ℕ) → is_head_at (flip side) new q ≡ is_head_at (flip side) old q
          heads q =
              ⊎_elim
              (λ e. ap (is_head_at (flip side) new) e ∙ ap (is_head_of (flip side)) stands ∙ head_other T side ∙ sym (no_head (flip side) (kind_at old r) free) ∙ ap (is_head_at (flip side) old) (sym e))
              (λ ne. ap (is_head_of (flip side)) (kinds q ne))
              (cases_eq q r)

      pub nodes_opened : nodes_of new ≡ nodes_of old
      nodes_opened = nodes_same old new (λ q. ⊎_elim (λ e. ap (seat_at new) e ∙ ap seat_of stands ∙ seat_none T side ∙ sym (ap seat_of free) ∙ ap (seat_at old) (sym e)) (λ ne. ap seat_of (kinds q ne)) (cases_eq q r))

      pub ring_was_none : map.get (rings_of side old) (ring_named side r) ≡ None
      ring_was_none = get-rings side old (ring_named side r) ∙ ap (ring_at side old) (ring_forth side r) ∙ ap (λ b. ring_if b (list_at side old r)) (no_head side (kind_at old r) free)

  -- a ring that a map has without a node
  record IsBare (side : Side) (s : Slab (Cell T)) (r : ℕ) : Type 0 where
    pub head : is_head_at side s r ≡ true
    pub none : list_at side s r ≡ []

  bare : (side : Side) (s : Slab (Cell T)) (k : Ring side) → map.get (rings_of side s) k ≡ Some [] → IsBare side s (number side k)
  bare side s k e = by (is_head_at side s (number side k)) refl (sym (get-rings side s k) ∙ e)
    where
      by : (b : Bool) → is_head_at side s (number side k) ≡ b → ring_if b (list_at side s (number side k)) ≡ Some [] → IsBare side s (number side k)
      by true h g = record { head = h; none = no_places (list_at side s (number side k)) g }
      by false h g = no_value [] g

  module _ (side : Side) (old new : Slab (Cell T)) (sound : IsSound old) (k : Ring side) (empty : map.get (rings_of side old) k ≡ Some []) (went : Updates old new (number side k) None) where
    pub was_head : is_head_at side old (number side k) ≡ true
    was_head = (bare side old k empty).head

    gone : kind_at new (number side k) ≡ None
    gone = ap kind_of went.changed

    was : kind_at old (number side k) ≡ Some (head_kind side)
    was = head_kinds side (kind_at old (number side k)) was_head

    left : (y : ℕ) → y ≢ number side k → kind_at new y ≡ kind_at old y
    left y ne = ap kind_of (went.others y ne)

    own_left : Linked (list_at side old) (is_head_at side new) (home_at side new) (next_at side new) (prev_at side new)
    own_left =
        closed _ _ _ _ _ (sound_at side old sound) (number side k) (is_head_at side new) (home_at side new) (next_at side new) (prev_at side new) (λ q ne. ap (is_head_of side) (left q ne)) (λ y ne. ap (home_of side) (left y ne))
        (λ y ne. ap (next_of side) (went.others y ne)) (λ y ne. ap (prev_of side) (went.others y ne)) was_head (bare side old k empty).none (no_head side (kind_at new (number side k)) gone) (no_home side (kind_at new (number side k)) gone)

    others_left : Linked (list_at (flip side) old) (is_head_at (flip side) new) (home_at (flip side) new) (next_at (flip side) new) (prev_at (flip side) new)
    others_left =
        elsewhere _ _ _ _ _ (sound_at (flip side) old sound) (number side k) (is_head_at (flip side) new) (home_at (flip side) new) (next_at (flip side) new) (prev_at (flip side) new)
        (λ q ne. ap (is_head_of (flip side)) (left q ne)) (λ y ne. ap (home_of (flip side)) (left y ne)) (λ y ne. ap (next_of (flip side)) (went.others y ne)) (λ y ne. ap (prev_of (flip side)) (went.others y ne))
        (ap (is_head_of (flip side)) was ∙ head_other T side) (ap (home_of (flip side)) was ∙ home_none T side (flip side)) (no_head (flip side) (kind_at new (number side k)) gone) (no_home (flip side) (kind_at new (number side k)) gone)

    pub closed_sound : IsSound new
    closed_sound = both side new (settled side new _ own_left) (settled (flip side) new _ others_left)

    pub rings_closed : rings_of side new ≡ map.remove (rings_of side old) k
    rings_closed = rings_changed side new _ own_left old k None (ap (λ b. ring_if b (list_at side old (number side k))) (no_head side (kind_at new (number side k)) gone)) (λ q ne. ap (is_head_of side) (left q ne)) (λ q ne h. refl)

    pub others_closed : rings_of (flip side) new ≡ rings_of (flip side) old
    others_closed = rings_same (flip side) new _ others_left old heads (λ q h. refl)
      where
        heads : (q : ℕ) → is_head_at (flip side) new q ≡ is_head_at (flip side) old q
        heads q =
            ⊎_elim
            (λ e. ap (is_head_at (flip side) new) e ∙ no_head (flip side) (kind_at new (number side k)) gone ∙ sym (ap (is_head_of (flip side)) was ∙ head_other T side) ∙ ap (is_head_at (flip side) old) (sym e))
            (λ ne. ap (is_head_of (flip side)) (left q ne))
            (cases_eq q (number side k))

    pub nodes_closed : nodes_of new ≡ nodes_of old
    nodes_closed =
        nodes_same old new (λ q. ⊎_elim (λ e. ap (seat_at new) e ∙ ap seat_of gone ∙ sym (ap seat_of was ∙ seat_none T side) ∙ ap (seat_at old) (sym e)) (λ ne. ap seat_of (left q ne)) (cases_eq q (number side k)))
