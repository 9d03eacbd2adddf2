-- Locks in rings, with the tables by which rings are found.
use Rattle.std.specs.Prelude.{ℕ, ◌≡◌, ◌+◌, ◌≤◌, ◌==◌, List, [], ◌∷◌, true, false, map, length, get_or, Option, Some, None, IsSome, IfSome, IfNone, Contains, Bool}
use Rattle.std.specs.Option.{option_map}
use Rattle.std.specs.FinMap as map
use Rattle.pss_base.specs.declared.owner.OwnerNo.{OwnerNo}
use Rattle.pss_machine.specs.declared.lock.Resource.{Resource}
use Rattle.pss_machine.specs.Needs.{same_resource}
use Rattle.link_pool.specs.Meaning.{Meaning, row_in, col_in, item_in, AreRings}
use Rattle.link_pool.specs.Rings.{list_in}
use Rattle.link_pool.specs.declared.names.Row.{Row}
use Rattle.link_pool.specs.declared.names.Col.{Col}
use Rattle.link_pool.specs.declared.names.Node.{Node}
use Rattle.lock_table.specs.declared.links.Lock.{Lock}
use Rattle.lock_table.specs.declared.places.Place.{Place}
use Rattle.lock_table.specs.declared.places.FoundPlace.{FoundPlace}
use Rattle.lock_table.specs.declared.grants.Crossing.{Crossing}
use Rattle.pss_machine.specs.declared.lock.Need.{Need}
use Rattle.lock_table.specs.declared.links.Links.{Links}
use Rattle.std.specs.FinSet as set
use Rattle.lock_table.specs.Locks.{held_by}
use Rattle.lock_table.specs.Standing.{need_of}
use Rattle.lock_table.specs.inner.Nodes.{held_in, with_lock, without_lock}
use Rattle.lock_table.specs.inner.Tables.{entry_at, key_at}

-- each key has a ring of its own, and each node stands in the ring of its key
pub record IsKeyed {K R : Type 0} (IsRing : R → Type 0) (home : Node → Option R) (key_of : Node → Option K) (at : K → Option R) : Type 0 where
  pub there : (k : K) (r : R) → at k ≡ Some r → IsRing r
  pub apart : (a b : K) (r : R) → at a ≡ Some r → at b ≡ Some r → a ≡ b
  pub stands : (node : Node) (k : K) → key_of node ≡ Some k → at k ≡ home node

-- an empty ring is that of one of these keys
abbrev pub EmptyAt : {K R : Type 0} → (R → Type 0) → (K → Option R) → List K → Type 0
EmptyAt {K} {R} IsEmpty at keys = (r : R) → IsEmpty r → (k : K) × Contains keys k × (at k ≡ Some r)

-- one owner
abbrev pub same_owner : OwnerNo → OwnerNo → Bool
same_owner a b = a.0 == b.0

-- the resource of a node's lock
abbrev pub resource_in : Meaning Lock → Node → Option Resource
resource_in p node = option_map (λ lock. lock.resource) (item_in p node)

-- the owner of a node's lock
abbrev pub owner_in : Meaning Lock → Node → Option OwnerNo
owner_in p node = option_map (λ lock. lock.owner) (item_in p node)

-- the place of a resource
abbrev pub place_at : Links → Resource → Option Place
place_at links r = entry_at same_resource links.places.table.entries r

-- the row of a resource
abbrev pub row_at : Links → Resource → Option Row
row_at links r = option_map (λ place. place.row) (place_at links r)

-- the column of an owner
abbrev pub col_at : Links → OwnerNo → Option Col
col_at links owner = entry_at same_owner links.columns.entries owner

-- no other owner has a column
abbrev pub IsAlone : Links → OwnerNo → Type 0
IsAlone links owner = (n : OwnerNo) (col : Col) → col_at links n ≡ Some col → n ≡ owner

-- a resource stands there, with this place
pub record IsAt (places : List (Resource × Place)) (r : Resource) (found : FoundPlace) : Type 0 where
  pub at : key_at found.at places ≡ Some r
  pub place : entry_at same_resource places r ≡ Some found.place

-- a resource was found there
abbrev pub IsFound : Links → Resource → FoundPlace → Type 0
IsFound links r found = IsAt links.places.table.entries r found

-- a resource was found there, whichever that is
pub record IsThere (links : Links) (found : FoundPlace) : Type 0 where
  pub resource : Resource
  pub is : IsFound links resource found

-- this was found of a resource
pub record IsLookedUp (links : Links) (r : Resource) (found : Option FoundPlace) : Type 0 where
  pub some : IfSome found (IsFound links r)
  pub none : IfNone found (place_at links r ≡ None)

-- this was found of the first lock's resource
abbrev pub IsFirst : Links → List Lock → Option FoundPlace → Type 0
IsFirst links locks found = (lock : Lock) → get_or locks 0 lock ≡ lock → IsLookedUp links lock.resource found

-- what holds whenever a lock is linked or unlinked
pub record IsLinked (links : Links) : Type 0 where
  pub rings : AreRings links.pool
  pub rows : IsKeyed (λ row. IsSome (map.get links.pool.rows row)) (row_in links.pool) (resource_in links.pool) (row_at links)
  pub cols : IsKeyed (λ col. IsSome (map.get links.pool.cols col)) (col_in links.pool) (owner_in links.pool) (col_at links)
  pub counted : (r : Resource) (place : Place) → place_at links r ≡ Some place → place.locks ≡ length (list_in links.pool.rows place.row)
  pub once : (a b : Node) (lock : Lock) → item_in links.pool a ≡ Some lock → item_in links.pool b ≡ Some lock → a ≡ b
  pub held : links.held ≡ map.len links.pool.nodes

-- an empty row is that of one of these resources
abbrev pub EmptyRows : Links → List Resource → Type 0
EmptyRows links keys = EmptyAt (λ row. map.get links.pool.rows row ≡ Some []) (row_at links) keys

-- an empty column is that of one of these owners
abbrev pub EmptyCols : Links → List OwnerNo → Type 0
EmptyCols links keys = EmptyAt (λ col. map.get links.pool.cols col ≡ Some []) (col_at links) keys

-- the resources of locks
abbrev pub resources : List Lock → List Resource
resources locks = map (λ lock. lock.resource) locks

-- the owners of locks
abbrev pub owners : List Lock → List OwnerNo
owners locks = map (λ lock. lock.owner) locks

-- no ring is empty
pub record IsWhole (links : Links) : Type 0 where
  pub linked : IsLinked links
  pub rows : EmptyRows links []
  pub cols : EmptyCols links []

-- no ring is empty but those of locks that are to come
pub record IsReady (links : Links) (locks : List Lock) : Type 0 where
  pub linked : IsLinked links
  pub rows : EmptyRows links (resources locks)
  pub cols : EmptyCols links (owners locks)

-- each lock has its row and this column
abbrev pub HaveRings : Links → Col → List Lock → Type 0
HaveRings links col locks = (lock : Lock) → Contains locks lock → IsSome (place_at links lock.resource) × (col_at links lock.owner ≡ Some col)

-- rings came in beside those that there were, and no lock
pub record Grows (old new : Links) : Type 0 where
  pub nodes : new.pool.nodes ≡ old.pool.nodes
  pub places : (r : Resource) → IsSome (place_at old r) → IsSome (place_at new r)
  pub cols : (owner : OwnerNo) (col : Col) → col_at old owner ≡ Some col → col_at new owner ≡ Some col

-- no lock came or went
abbrev pub SameNodes : Links → Links → Type 0
SameNodes old new = new.pool.nodes ≡ old.pool.nodes

-- the row of a resource went if it was empty, and all others stay
pub record DropsRow (old new : Links) (r : Resource) : Type 0 where
  pub linked : IsLinked new
  pub rows : (keys : List Resource) → EmptyRows old (r ∷ keys) → EmptyRows new keys
  pub cols : (keys : List OwnerNo) → EmptyCols old keys → EmptyCols new keys

-- a lock went out of its rings, and its row may be empty now
pub record Unlinks (old new : Links) (col : Col) (lock : Lock) (left : FoundPlace) : Type 0 where
  pub own : col_at old lock.owner ≡ Some col
  pub had : set.contains (held_by (held_in old.pool) lock.owner) (need_of lock) ≡ true
  pub held : held_in new.pool ≡ without_lock lock (held_in old.pool)
  pub found : IsFound new lock.resource left
  pub columns : new.columns.entries ≡ old.columns.entries
  pub rows : (keys : List Resource) → EmptyRows old keys → EmptyRows new (lock.resource ∷ keys)
  pub cols : (keys : List OwnerNo) → EmptyCols old keys → EmptyCols new (lock.owner ∷ keys)

-- one place counts other locks, and all else is as before
pub record Recounts (old new : Links) (r : Resource) (locks : ℕ → ℕ) : Type 0 where
  pub here : (place : Place) → place_at old r ≡ Some place → place_at new r ≡ Some (record place { locks = locks place.locks })
  pub others : (q : Resource) → same_resource q r ≡ false → place_at new q ≡ place_at old q
  pub pool : new.pool ≡ old.pool
  pub columns : new.columns.entries ≡ old.columns.entries
  pub held : new.held ≡ old.held

-- an owner has not locked what it needs, and this was found of its resource
pub record IsMissing (links : Links) (owner : OwnerNo) (need : Need) (found : Option FoundPlace) : Type 0 where
  pub new : set.contains (held_by (held_in links.pool) owner) need ≡ false
  pub looked : IsLookedUp links need.resource found

-- the rings of a lock cross there, and there is room for it
pub record IsCrossing (links : Links) (lock : Lock) (at : Crossing) : Type 0 where
  pub found : IsFound links lock.resource at.found
  pub col : col_at links lock.owner ≡ Some at.col
  pub room : 1 ≤ links.pool.room

-- a lock came into its rings, or stands there already
pub record LinksOne (old new : Links) (lock : Lock) : Type 0 where
  pub held : held_in new.pool ≡ with_lock lock (held_in old.pool)
  pub places : (r : Resource) → IsSome (place_at old r) → IsSome (place_at new r)
  pub columns : new.columns.entries ≡ old.columns.entries
  pub room : old.pool.room ≤ new.pool.room + 1
  pub rows : (keys : List Resource) → EmptyRows old (lock.resource ∷ keys) → EmptyRows new keys
  pub cols : (keys : List OwnerNo) → EmptyCols old (lock.owner ∷ keys) → EmptyCols new keys

-- the locks of an owner go out of this column, which alone may be empty
pub record IsReleasing (links : Links) (owner : OwnerNo) (col : Col) : Type 0 where
  pub linked : IsLinked links
  pub rows : EmptyRows links []
  pub cols : EmptyCols links (owner ∷ [])
  pub at : col_at links owner ≡ Some col
