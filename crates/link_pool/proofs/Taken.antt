-- Cells after a node went out.
use Rattle.std.proofs.Common.{ℕ, ◌≡◌, ◌≢◌, ⊎_elim, true, Option, Some, None, IsSome, refl, sym, ap, ◌∙◌, subst}
use Rattle.std.proofs.lemmas.Bool.{cases_eq}
use Rattle.std.specs.FinMap as map
use Rattle.slab.specs.Slab.{Slab, Updates}
use Rattle.link_pool.specs.Linked.{Linked}
use Rattle.link_pool.specs.Rings.{list_in, without}
use Rattle.link_pool.specs.Cells.{flip, number, ring_of, head_of, next_of, prev_of, kind_of, is_head_of, seat_of, home_of, next_at, prev_at, kind_at, home_at, seat_at, is_head_at, list_at, ring_if, rings_of, nodes_of, IsLinked, SetsNext, SetsPrev, IsTaken}
use Rattle.link_pool.specs.declared.cells.Cell.{Cell}
use Rattle.link_pool.specs.declared.cells.Side.{Side}
use Rattle.link_pool.specs.declared.names.Node.{Node}
use Rattle.link_pool.specs.declared.names.Seat.{Seat}
use Rattle.link_pool.proofs.Changes.{unlinked, lacking, lacking_absent}
use Rattle.link_pool.proofs.Lists.{nodes-lacking}
use Rattle.link_pool.proofs.Sound.{ring_number, not_head, no_head, no_home, home_is, is_some, ring_there, list_is}
use Rattle.link_pool.proofs.Settled.{settled, rings_changed, nodes_changed}

module _ {T : Type 0} where
  module _ (side : Side) (old new : Slab (Cell T)) (linked : IsLinked side old) (x : Node) (seat : Seat T) (at : seat_at old x.number ≡ Some seat) (taken : IsTaken side old new x.number) where
    abbrev r : ℕ
    r = head_of side seat

    heads : (q : ℕ) → is_head_at side new q ≡ is_head_at side old q
    heads q =
        ⊎_elim
        (λ e. ap (is_head_at side new) e ∙ no_head side (kind_at new x.number) taken.gone ∙ sym (not_head side (kind_at old x.number) (is_some (seat_at old x.number) seat at)) ∙ ap (is_head_at side old) (sym e))
        (λ ne. ap (is_head_of side) (taken.kinds q ne))
        (cases_eq q x.number)

    after : Linked (λ q. lacking x.number (list_at side old q)) (is_head_at side new) (home_at side new) (next_at side new) (prev_at side new)
    after =
        unlinked _ _ _ _ _ linked (is_head_at side new) (home_at side new) (next_at side new) (prev_at side new) heads r x.number (home_is side (kind_at old x.number) seat at)
        (record { homes = λ y ne. ap (home_of side) (taken.kinds y ne); gone = no_home side (kind_at new x.number) taken.gone; forth = taken.forth; across = taken.across; back = taken.back; under = taken.under })

    pub taken_linked : IsLinked side new
    taken_linked = settled side new _ after

    own : is_head_at side old (number side (ring_of side seat)) ≡ true
    own = ap (is_head_at side old) (ring_number side seat) ∙ (ring_there side old linked x.number seat at).0

    -- x is in no other ring
    absent : (q : ℕ) → q ≢ number side (ring_of side seat) → is_head_at side old q ≡ true → lacking x.number (list_at side old q) ≡ list_at side old q
    absent q ne h = lacking_absent x.number (list_at side old q) (λ m. ne (one (linked.members q x.number h m) (home_is side (kind_at old x.number) seat at) ∙ sym (ring_number side seat)))
      where
        one : {o : Option ℕ} → o ≡ Some q → o ≡ Some r → q ≡ r
        one a b = cc

    here : ring_if (is_head_at side new (number side (ring_of side seat))) (lacking x.number (list_at side old (number side (ring_of side seat)))) ≡ Some (without x (list_in (rings_of side old) (ring_of side seat)))
    here =
        ap (λ b. ring_if b (lacking x.number (list_at side old (number side (ring_of side seat))))) (heads (number side (ring_of side seat)) ∙ own)
        ∙ ap Some (nodes-lacking x.number (list_at side old (number side (ring_of side seat))) ∙ ap (without x) (sym (list_is side old (ring_of side seat) own)))

    -- the ring of x has lost x
    pub rings_taken : rings_of side new ≡ map.insert (rings_of side old) (ring_of side seat) (without x (list_in (rings_of side old) (ring_of side seat)))
    rings_taken = rings_changed side new _ after old (ring_of side seat) (Some (without x (list_in (rings_of side old) (ring_of side seat)))) here (λ q ne. heads q) absent

    pub nodes_taken : nodes_of new ≡ map.remove (nodes_of old) x
    nodes_taken = nodes_changed old new x None (ap seat_of taken.gone) (λ q ne. ap seat_of (taken.kinds q ne))

  -- the links of one side are as they were, and what stands where
  pub record LinksSame (side : Side) (s t : Slab (Cell T)) : Type 0 where
    pub next : (y : ℕ) → next_at side t y ≡ next_at side s y
    pub prev : (y : ℕ) → prev_at side t y ≡ prev_at side s y
    pub kind : (y : ℕ) → kind_at t y ≡ kind_at s y

  pub nothing_set : (side : Side) (s : Slab (Cell T)) → LinksSame side s s
  nothing_set side s = record { next = λ y. refl; prev = λ y. refl; kind = λ y. refl }

  pub others_set : (side : Side) (s t u : Slab (Cell T)) (a b c d : ℕ) → SetsNext side s t a b → SetsPrev side t u c d → LinksSame (flip side) s u
  others_set side s t u a b c d f h = record { next = λ y. h.other_next y ∙ f.other_next y; prev = λ y. h.other_prev y ∙ f.other_prev y; kind = λ y. h.kind y ∙ f.kind y }

  -- cell by cell, what a removal and the links of both sides make
  pub taken_by : (side : Side) (s0 s1 t u v w : Slab (Cell T)) (x p n : ℕ) → p ≡ prev_at side s0 x → n ≡ next_at side s0 x → Updates s0 s1 x None
      → LinksSame side s1 t → SetsNext side t u p n → SetsPrev side u v n p → LinksSame side v w → IsTaken side s0 w x
  taken_by side s0 s1 t u v w x p n ep en gone before a b after = record {
    kinds = λ y ne. after.kind y ∙ b.kind y ∙ a.kind y ∙ before.kind y ∙ ap kind_of (gone.others y ne);
    gone = after.kind x ∙ b.kind x ∙ a.kind x ∙ before.kind x ∙ ap kind_of gone.changed;
    forth = λ y ne np. after.next y ∙ b.next y ∙ a.next y (λ e. np (e ∙ ep)) ∙ before.next y ∙ ap (next_of side) (gone.others y ne);
    across = after.next _ ∙ b.next _ ∙ ap (next_at side u) (sym ep) ∙ a.here ∙ en;
    back = λ y ne nn. after.prev y ∙ b.prev y (λ e. nn (e ∙ en)) ∙ a.prev y ∙ before.prev y ∙ ap (prev_of side) (gone.others y ne);
    under = after.prev _ ∙ ap (prev_at side v) (sym en) ∙ b.here ∙ ep;
  }

  pub live_after : (s0 s1 t : Slab (Cell T)) (x y z : ℕ) → Updates s0 s1 x None → ((w : ℕ) → kind_at t w ≡ kind_at s1 w) → z ≡ y → IsSome (kind_at s0 z) → z ≢ x → IsSome (kind_at t y)
  live_after s0 s1 t x y z gone same e some ne = subst (λ w. IsSome (kind_at t w)) e (subst IsSome (sym (same z ∙ ap kind_of (gone.others z ne))) some)
