-- Cells that are linked: what stands where, and what the maps answer.
use Rattle.std.proofs.Common.{ℕ, ◌≡◌, ◌≢◌, ◌≤◌, inl, ⊎_elim, [], ◌∷◌, length, Bool, true, false, Option, Some, None, IsSome, refl, sym, ap, ◌∙◌, subst, rules}
use Rattle.std.proofs.lemmas.List.{get_or_past}
use Rattle.std.specs.Prelude.{Result, Ok, Err, OnErr}
use Rattle.std.specs.Option.{option_map, unwrap_or, SomeIff}
use Rattle.std.specs.FinMap as map
use Rattle.slab.specs.Slab.{Slab, get}
use Rattle.link_pool.specs.Names.{node_named}
use Rattle.link_pool.specs.Linked.{In}
use Rattle.link_pool.specs.Rings.{list_in}
use Rattle.link_pool.specs.Cells.{Ring, number, ring_named, ring_of, head_of, kind_of, is_head_of, seat_of, home_of, next_at, prev_at, kind_at, home_at, seat_at, is_head_at, list_at, ring_if, ring_at, rings_of, nodes_of, end_of, front_of, LeadsToCells, IsLinked, IsSound}
use Rattle.link_pool.specs.declared.cells.Cell.{Cell}
use Rattle.link_pool.specs.declared.cells.Kind.{Kind}
use Rattle.link_pool.specs.declared.cells.Kind.TheVariants.{RowHead, ColHead, Member}
use Rattle.link_pool.specs.declared.cells.Side.{Side}
use Rattle.link_pool.specs.declared.cells.Side.TheVariants.{Rows, Cols}
use Rattle.link_pool.specs.declared.names.Node.{Node}
use Rattle.link_pool.specs.declared.names.Seat.{Seat}
use Rattle.link_pool.proofs.Paths.{last_in, first_in}
use Rattle.link_pool.proofs.Changes.{next_in, prev_in, next_other, prev_other}
use Rattle.link_pool.proofs.Maps.{get-table}
use Rattle.link_pool.proofs.Lists.{nodes}

pub ring_back : (side : Side) (k : Ring side) → ring_named side (number side k) ≡ k
ring_back Rows k = refl
ring_back Cols k = refl

pub ring_forth : (side : Side) (n : ℕ) → number side (ring_named side n) ≡ n
ring_forth Rows n = refl
ring_forth Cols n = refl

pub node_back : (k : Node) → node_named k.number ≡ k
node_back k = refl

pub node_forth : (n : ℕ) → (node_named n).number ≡ n
node_forth n = refl

pub no_value : {A : Type 0} {B : Type 0} (r : A) → None ≡ Some r → B
no_value r h = absurd (cc)

pub nothing : {B : Type 0} → false ≡ true → B
nothing h = absurd (cc)

pub on_err : {A E : Type 0} {P : Type 0} (r : Result A E) → P → OnErr r P
on_err (Ok x) p = tt
on_err (Err e) p = p

-- the sum that a checked addition found
pub sum_is : {A : Type 0} (P : Type 0) {o : Option A} {v w : A} → SomeIff o P v → o ≡ Some w → w ≡ v
sum_is {A} P {o} {v} {w} s e = let found : SomeIff (Some w) P v = subst (λ q. SomeIff q P v) e s in found.1

pub is_some : {A : Type 0} (o : Option A) (r : A) → o ≡ Some r → IsSome o
is_some o r e = subst IsSome (sym e) (search rules)

module _ {T : Type 0} where
  pub ring_number : (side : Side) (seat : Seat T) → number side (ring_of side seat) ≡ head_of side seat
  ring_number Rows seat = refl
  ring_number Cols seat = refl

  head_live : (side : Side) (k : Option (Kind T)) → is_head_of side k ≡ true → IsSome k
  head_live Rows None h = nothing h
  head_live Cols None h = nothing h
  head_live side (Some k) h = search rules

  pub home_seat : (side : Side) (k : Option (Kind T)) (r : ℕ) → home_of side k ≡ Some r → IsSome (seat_of k)
  home_seat side None r h = no_value r h
  home_seat side (Some RowHead) r h = no_value r h
  home_seat side (Some ColHead) r h = no_value r h
  home_seat side (Some (Member seat)) r h = search rules

  pub seat_live : (k : Option (Kind T)) → IsSome (seat_of k) → IsSome k
  seat_live None h = h
  seat_live (Some k) h = search rules

  home_live : (side : Side) (k : Option (Kind T)) (r : ℕ) → home_of side k ≡ Some r → IsSome k
  home_live side k r h = seat_live k (home_seat side k r h)

  -- a node is no head
  pub not_head : (side : Side) (k : Option (Kind T)) → IsSome (seat_of k) → is_head_of side k ≡ false
  not_head side None h = nothing h
  not_head side (Some RowHead) h = nothing h
  not_head side (Some ColHead) h = nothing h
  not_head Rows (Some (Member seat)) h = refl
  not_head Cols (Some (Member seat)) h = refl

  pub no_head : (side : Side) (k : Option (Kind T)) → k ≡ None → is_head_of side k ≡ false
  no_head Rows k e = ap (is_head_of Rows) e
  no_head Cols k e = ap (is_head_of Cols) e

  pub no_home : (side : Side) (k : Option (Kind T)) → k ≡ None → home_of side k ≡ None
  no_home side k e = ap (home_of side) e

  pub home_is : (side : Side) (k : Option (Kind T)) (seat : Seat T) → seat_of k ≡ Some seat → home_of side k ≡ Some (head_of side seat)
  home_is side k seat e = ap (option_map (head_of side)) e

  kind_live : (o : Option (Cell T)) → IsSome (kind_of o) → IsSome o
  kind_live None h = h
  kind_live (Some c) h = search rules

  no_cell : (s : Slab (Cell T)) (q : ℕ) → length s.slots ≤ q → get s q ≡ None
  no_cell s q le = get_or_past s.slots q None le

  pub no_ring : (side : Side) (s : Slab (Cell T)) (q : ℕ) → length s.slots ≤ q → ring_at side s q ≡ None
  no_ring side s q le = ap (λ b. ring_if b (list_at side s q)) (no_head side (kind_at s q) (ap kind_of (no_cell s q le)))

  pub no_seat : (s : Slab (Cell T)) (q : ℕ) → length s.slots ≤ q → seat_at s q ≡ None
  no_seat s q le = ap (λ o. seat_of (kind_of o)) (no_cell s q le)

  pub get-rings : (side : Side) (s : Slab (Cell T)) (k : Ring side) → map.get (rings_of side s) k ≡ ring_at side s (number side k)
  get-rings side s k = get-table (number side) (ring_named side) (ring_back side) (ring_forth side) (length s.slots) (ring_at side s) (no_ring side s) k

  pub get-nodes : (s : Slab (Cell T)) (k : Node) → map.get (nodes_of s) k ≡ seat_at s k.number
  get-nodes s k = get-table (λ n. n.number) node_named node_back node_forth (length s.slots) (seat_at s) (no_seat s) k

  -- a ring that a map has is a head
  pub head_found : (side : Side) (s : Slab (Cell T)) (k : Ring side) → IsSome (map.get (rings_of side s) k) → is_head_at side s (number side k) ≡ true
  head_found side s k h = by (is_head_at side s (number side k)) (subst IsSome (get-rings side s k) h)
    where
      by : (b : Bool) → IsSome (ring_if b (list_at side s (number side k))) → b ≡ true
      by true g = refl
      by false g = nothing g

  -- the list of a ring
  pub list_is : (side : Side) (s : Slab (Cell T)) (k : Ring side) → is_head_at side s (number side k) ≡ true → list_in (rings_of side s) k ≡ nodes (list_at side s (number side k))
  list_is side s k h = ap (λ o. unwrap_or o []) (get-rings side s k ∙ ap (λ b. ring_if b (list_at side s (number side k))) h)

  module _ (side : Side) (s : Slab (Cell T)) (linked : IsLinked side s) where
    live : (r y : ℕ) → is_head_at side s r ≡ true → In y (r ∷ list_at side s r) → IsSome (kind_at s y)
    live r y h m = ⊎_elim (λ e. head_live side (kind_at s y) (ap (is_head_at side s) e ∙ h)) (λ k. home_live side (kind_at s y) r (linked.members r y h k)) m

    pub head_is_live : (r : ℕ) → is_head_at side s r ≡ true → IsSome (kind_at s r)
    head_is_live r h = live r r h (inl refl)

    pub last_live : (r : ℕ) → is_head_at side s r ≡ true → IsSome (kind_at s (prev_at side s r))
    last_live r h = live r (prev_at side s r) h (last_in _ _ r r (list_at side s r) (linked.path r h))

    pub first_live : (r : ℕ) → is_head_at side s r ≡ true → IsSome (kind_at s (next_at side s r))
    first_live r h = live r (next_at side s r) h (first_in _ _ r r (list_at side s r) (linked.path r h))

    pub end_leads : (r : ℕ) → is_head_at side s r ≡ true → LeadsToCells s (end_of side s r)
    end_leads r h = record { next = head_is_live r h; prev = last_live r h }

    pub front_leads : (r : ℕ) → is_head_at side s r ≡ true → LeadsToCells s (front_of side s r)
    front_leads r h = record { next = first_live r h; prev = head_is_live r h }

    -- the ring of a node
    pub ring_there : (x : ℕ) (seat : Seat T) → seat_at s x ≡ Some seat → (is_head_at side s (head_of side seat) ≡ true) × In x (list_at side s (head_of side seat))
    ring_there x seat at = linked.homes x (head_of side seat) (home_is side (kind_at s x) seat at)

    pub prev_live : (x : ℕ) (seat : Seat T) → seat_at s x ≡ Some seat → IsSome (kind_at s (prev_at side s x)) × (prev_at side s x ≢ x)
    prev_live x seat at =
        let r = ring_there x seat at in
        (live (head_of side seat) (prev_at side s x) r.0 (prev_in _ _ _ _ _ linked (head_of side seat) x r.0 r.1), prev_other _ _ _ _ _ linked (head_of side seat) x r.0 r.1)

    pub next_live : (x : ℕ) (seat : Seat T) → seat_at s x ≡ Some seat → IsSome (kind_at s (next_at side s x)) × (next_at side s x ≢ x)
    next_live x seat at =
        let r = ring_there x seat at in
        (live (head_of side seat) (next_at side s x) r.0 (next_in _ _ _ _ _ linked (head_of side seat) x r.0 r.1), next_other _ _ _ _ _ linked (head_of side seat) x r.0 r.1)

  pub cell_live : (side : Side) (s : Slab (Cell T)) (y r : ℕ) → home_at side s y ≡ Some r → IsSome (get s y)
  cell_live side s y r h = kind_live (get s y) (home_live side (kind_at s y) r h)

  pub sound_at : (side : Side) (s : Slab (Cell T)) → IsSound s → IsLinked side s
  sound_at Rows s sound = sound.rows
  sound_at Cols s sound = sound.cols

  pub not_vacant : (s : Slab (Cell T)) (y x : ℕ) → IsSome (kind_at s y) → kind_at s x ≡ None → y ≢ x
  not_vacant s y x some none e = nothing (subst IsSome (ap (kind_at s) e ∙ none) some)

  pub record HasSeat (s : Slab (Cell T)) (x : ℕ) : Type 0 where
    pub seat : Seat T
    pub at : seat_at s x ≡ Some seat

  pub has_seat : (s : Slab (Cell T)) (x : ℕ) → IsSome (seat_at s x) → HasSeat s x
  has_seat s x h = by (seat_at s x) refl h
    where
      by : (o : Option (Seat T)) → seat_at s x ≡ o → IsSome o → HasSeat s x
      by None e g = nothing g
      by (Some seat) e g = record { seat = seat; at = e }
