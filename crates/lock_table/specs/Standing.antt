-- How locks stand in the rings of a pool.
use Rattle.std.specs.Prelude.{◌≡◌, ◌↔◌, [], Some, true}
use Rattle.std.specs.FinMap as map
use Rattle.std.specs.FinSet as set
use Rattle.pss_base.specs.declared.owner.OwnerNo.{OwnerNo}
use Rattle.pss_machine.specs.declared.lock.Need.{Need}
use Rattle.link_pool.specs.Meaning.{Meaning, item_in}
use Rattle.link_pool.specs.declared.names.Row.{Row}
use Rattle.link_pool.specs.declared.names.Col.{Col}
use Rattle.link_pool.specs.declared.names.Node.{Node}
use Rattle.link_pool.specs.declared.names.Seat.{Seat}
use Rattle.lock_table.specs.Locks.{Held, held_by}
use Rattle.lock_table.specs.declared.links.Lock.{Lock}

-- the resource of a lock and its mode, as an owner has them
abbrev pub need_of : Lock → Need
need_of lock = record { resource = lock.resource; mode = lock.mode }

-- the lock of an owner
abbrev pub lock_of : OwnerNo → Need → Lock
lock_of owner need = record { owner = owner; resource = need.resource; mode = need.mode }

-- the nodes of a pool are these locks, each once. Two stand in one column exactly where their owners are equal, and in one row
-- exactly where their resources are equal. There is no empty row and no empty column
pub record AreLocks (held : Held) (p : Meaning Lock) : Type 0 where
  pub only : (node : Node) (lock : Lock) → item_in p node ≡ Some lock → set.contains (held_by held lock.owner) (need_of lock) ≡ true
  pub found : (owner : OwnerNo) (need : Need) → set.contains (held_by held owner) need ≡ true → (node : Node) × (item_in p node ≡ Some (lock_of owner need))
  pub once : (a b : Node) (lock : Lock) → item_in p a ≡ Some lock → item_in p b ≡ Some lock → a ≡ b
  pub cols : (a b : Node) (s t : Seat Lock) → map.get p.nodes a ≡ Some s → map.get p.nodes b ≡ Some t → (s.col ≡ t.col) ↔ (s.item.owner ≡ t.item.owner)
  pub rows : (a b : Node) (s t : Seat Lock) → map.get p.nodes a ≡ Some s → map.get p.nodes b ≡ Some t → (s.row ≡ t.row) ↔ (s.item.resource ≡ t.item.resource)
  pub no_empty_col : (col : Col) → map.get p.cols col ≡ Some [] → ⊥
  pub no_empty_row : (row : Row) → map.get p.rows row ≡ Some [] → ⊥
