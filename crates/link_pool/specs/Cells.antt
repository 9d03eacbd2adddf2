-- What the cells of a pool stand for.
use Rattle.std.specs.Prelude.{ℕ, zero, suc, ◌≡◌, ◌≢◌, ◌-◌, ◌≤◌, List, map, length, Option, Some, None, IsSome, Bool, true, false, if◌then◌else◌}
use Rattle.std.specs.declared.cmp.Ordering.{Ordering}
use Rattle.std.specs.Ordering.{nat_cmp}
use Rattle.std.specs.Option.{option_map}
use Rattle.std.specs.FinMap as map
use Rattle.slab.specs.Slab.{Slab, get, slab_len}
use Rattle.link_pool.specs.Names.{row_named, col_named, node_named, node_cmp}
use Rattle.link_pool.specs.Linked.{Linked, walk}
use Rattle.link_pool.specs.Meaning.{Meaning}
use Rattle.link_pool.specs.declared.names.Row.{Row}
use Rattle.link_pool.specs.declared.names.Col.{Col}
use Rattle.link_pool.specs.declared.names.Node.{Node}
use Rattle.link_pool.specs.declared.names.Seat.{Seat}
use Rattle.link_pool.specs.declared.cells.Cell.{Cell}
use Rattle.link_pool.specs.declared.cells.Kind.{Kind}
use Rattle.link_pool.specs.declared.cells.Kind.TheVariants.{RowHead, ColHead, Member}
use Rattle.link_pool.specs.declared.cells.Link.{Link}
use Rattle.link_pool.specs.declared.cells.Side.{Side}
use Rattle.link_pool.specs.declared.cells.Side.TheVariants.{Rows, Cols}

-- the other side
abbrev pub flip : Side → Side
flip Rows = Cols
flip Cols = Rows

-- what names a ring of this side
abbrev pub Ring : Side → Type 0
Ring Rows = Row
Ring Cols = Col

-- the number of a ring's name
abbrev pub number : (side : Side) → Ring side → ℕ
number Rows row = row.number
number Cols col = col.number

-- the ring with this number
abbrev pub ring_named : (side : Side) → ℕ → Ring side
ring_named Rows n = row_named n
ring_named Cols n = col_named n

-- rings by their numbers
abbrev pub ring_cmp : (side : Side) → Ring side → Ring side → Ordering
ring_cmp side a b = nat_cmp (number side a) (number side b)

-- a map with this at the key, or nothing
abbrev pub with_entry : {K X : Type 0} {R : K → K → Ordering} → Option X → K → map.FinMap R X → map.FinMap R X
with_entry None k m = map.remove m k
with_entry (Some v) k m = map.insert m k v

-- the values of f below n, each under the name with its number
abbrev pub tabulate : {K X : Type 0} {R : K → K → Ordering} → (ℕ → K) → ℕ → (ℕ → Option X) → map.FinMap R X
tabulate name zero f = map.empty
tabulate name (suc n) f = with_entry (f n) (name n) (tabulate name n f)

-- these places as nodes, where a ring has them
abbrev pub ring_if : Bool → List ℕ → Option (List Node)
ring_if is_head places = if is_head then Some (map node_named places) else None

module _ {T : Type 0} where
  -- the ring of a seat on this side
  abbrev pub ring_of : (side : Side) → Seat T → Ring side
  ring_of Rows seat = seat.row
  ring_of Cols seat = seat.col

  -- the head of the ring of a seat on this side
  abbrev pub head_of : Side → Seat T → ℕ
  head_of Rows seat = seat.row.number
  head_of Cols seat = seat.col.number

  -- the links of a cell on this side
  abbrev pub link_of : Side → Cell T → Link
  link_of Rows c = c.row
  link_of Cols c = c.col

  abbrev pub next_of : Side → Option (Cell T) → ℕ
  next_of side None = 0
  next_of side (Some c) = (link_of side c).next

  abbrev pub prev_of : Side → Option (Cell T) → ℕ
  prev_of side None = 0
  prev_of side (Some c) = (link_of side c).prev

  abbrev pub kind_of : Option (Cell T) → Option (Kind T)
  kind_of None = None
  kind_of (Some c) = Some c.kind

  abbrev pub head_kind : Side → Kind T
  head_kind Rows = RowHead
  head_kind Cols = ColHead

  abbrev pub is_head_of : Side → Option (Kind T) → Bool
  is_head_of Rows (Some RowHead) = true
  is_head_of Cols (Some ColHead) = true
  is_head_of _ _ = false

  abbrev pub seat_of : Option (Kind T) → Option (Seat T)
  seat_of (Some (Member seat)) = Some seat
  seat_of _ = None

  abbrev pub home_of : Side → Option (Kind T) → Option ℕ
  home_of side kind = option_map (head_of side) (seat_of kind)

  -- what stands forth of a place, on this side
  abbrev pub next_at : Side → Slab (Cell T) → ℕ → ℕ
  next_at side s y = next_of side (get s y)

  -- what stands back of a place, on this side
  abbrev pub prev_at : Side → Slab (Cell T) → ℕ → ℕ
  prev_at side s y = prev_of side (get s y)

  abbrev pub kind_at : Slab (Cell T) → ℕ → Option (Kind T)
  kind_at s y = kind_of (get s y)

  abbrev pub is_head_at : Side → Slab (Cell T) → ℕ → Bool
  is_head_at side s y = is_head_of side (kind_at s y)

  abbrev pub seat_at : Slab (Cell T) → ℕ → Option (Seat T)
  seat_at s y = seat_of (kind_at s y)

  -- the head of the ring that a place stands in, on this side
  abbrev pub home_at : Side → Slab (Cell T) → ℕ → Option ℕ
  home_at side s y = home_of side (kind_at s y)

  -- the places of a ring, from its first link on
  abbrev pub list_at : Side → Slab (Cell T) → ℕ → List ℕ
  list_at side s r = walk (length s.slots) (next_at side s) r (next_at side s r)

  abbrev pub ring_at : Side → Slab (Cell T) → ℕ → Option (List Node)
  ring_at side s r = ring_if (is_head_at side s r) (list_at side s r)

  abbrev pub rings_of : (side : Side) → Slab (Cell T) → map.FinMap (ring_cmp side) (List Node)
  rings_of side s = tabulate (ring_named side) (length s.slots) (ring_at side s)

  abbrev pub nodes_of : Slab (Cell T) → map.FinMap node_cmp (Seat T)
  nodes_of s = tabulate node_named (length s.slots) (seat_at s)

  -- what so many cells, of which room was promised for so many, stand for
  abbrev pub meaning_of : Slab (Cell T) → ℕ → Meaning T
  meaning_of s promised = record { rows = rings_of Rows s; cols = rings_of Cols s; nodes = nodes_of s; room = promised - slab_len s }

  -- the cell of a ring with no node
  abbrev pub head_cell : Side → ℕ → Cell T
  head_cell side r = record { row = record { next = r; prev = r }; col = record { next = r; prev = r }; kind = head_kind side }

  abbrev pub IsLinked : Side → Slab (Cell T) → Type 0
  IsLinked side s = Linked (list_at side s) (is_head_at side s) (home_at side s) (next_at side s) (prev_at side s)

  pub record IsSound (s : Slab (Cell T)) : Type 0 where
    pub rows : IsLinked Rows s
    pub cols : IsLinked Cols s

  -- the cells are linked, and memory for the room that was promised is there
  pub record IsWhole (s : Slab (Cell T)) (promised : ℕ) : Type 0 where
    pub sound : IsSound s
    pub within : slab_len s ≤ promised
    pub backed : promised ≤ s.capacity

  -- one link forth of one side is set
  pub record SetsNext (side : Side) (old new : Slab (Cell T)) (at to : ℕ) : Type 0 where
    pub here : next_at side new at ≡ to
    pub next : (y : ℕ) → y ≢ at → next_at side new y ≡ next_at side old y
    pub prev : (y : ℕ) → prev_at side new y ≡ prev_at side old y
    pub other_next : (y : ℕ) → next_at (flip side) new y ≡ next_at (flip side) old y
    pub other_prev : (y : ℕ) → prev_at (flip side) new y ≡ prev_at (flip side) old y
    pub kind : (y : ℕ) → kind_at new y ≡ kind_at old y
    pub len : slab_len new ≡ slab_len old
    pub capacity : new.capacity ≡ old.capacity

  -- one link back of one side is set
  pub record SetsPrev (side : Side) (old new : Slab (Cell T)) (at to : ℕ) : Type 0 where
    pub here : prev_at side new at ≡ to
    pub prev : (y : ℕ) → y ≢ at → prev_at side new y ≡ prev_at side old y
    pub next : (y : ℕ) → next_at side new y ≡ next_at side old y
    pub other_next : (y : ℕ) → next_at (flip side) new y ≡ next_at (flip side) old y
    pub other_prev : (y : ℕ) → prev_at (flip side) new y ≡ prev_at (flip side) old y
    pub kind : (y : ℕ) → kind_at new y ≡ kind_at old y
    pub len : slab_len new ≡ slab_len old
    pub capacity : new.capacity ≡ old.capacity

  -- a node went out of a ring, and its neighbours there are linked
  pub record IsTaken (side : Side) (old new : Slab (Cell T)) (x : ℕ) : Type 0 where
    pub kinds : (y : ℕ) → y ≢ x → kind_at new y ≡ kind_at old y
    pub gone : kind_at new x ≡ None
    pub forth : (y : ℕ) → y ≢ x → y ≢ prev_at side old x → next_at side new y ≡ next_at side old y
    pub across : next_at side new (prev_at side old x) ≡ next_at side old x
    pub back : (y : ℕ) → y ≢ x → y ≢ next_at side old x → prev_at side new y ≡ prev_at side old y
    pub under : prev_at side new (next_at side old x) ≡ prev_at side old x

  -- the place behind the last of a ring
  abbrev pub end_of : Side → Slab (Cell T) → ℕ → Link
  end_of side s r = record { next = r; prev = prev_at side s r }

  -- the place before the first of a ring
  abbrev pub front_of : Side → Slab (Cell T) → ℕ → Link
  front_of side s r = record { next = next_at side s r; prev = r }

  -- a link leads to cells, both ways
  pub record LeadsToCells (s : Slab (Cell T)) (link : Link) : Type 0 where
    pub next : IsSome (kind_at s link.next)
    pub prev : IsSome (kind_at s link.prev)

  -- a node came into a ring, between these neighbours
  pub record IsAdded (side : Side) (old new : Slab (Cell T)) (x : ℕ) (seat : Seat T) (link : Link) : Type 0 where
    pub kinds : (y : ℕ) → y ≢ x → kind_at new y ≡ kind_at old y
    pub stands : kind_at new x ≡ Some (Member seat)
    pub forth : (y : ℕ) → y ≢ x → y ≢ link.prev → next_at side new y ≡ next_at side old y
    pub across : next_at side new link.prev ≡ x
    pub here : next_at side new x ≡ link.next
    pub back : (y : ℕ) → y ≢ x → y ≢ link.next → prev_at side new y ≡ prev_at side old y
    pub under : prev_at side new x ≡ link.prev
    pub end : prev_at side new link.next ≡ x
