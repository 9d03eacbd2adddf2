-- What the nodes of a pool say of locks.
use Rattle.std.specs.Prelude.{◌==◌, nat_lt, List, [], ◌∷◌, map, filter, Option, Some, None, Bool, true, false, not, ◌&&◌, if◌then◌else◌}
use Rattle.std.specs.List.{list_any}
use Rattle.std.specs.FinMap as map
use Rattle.std.specs.FinSet as set
use Rattle.pss_base.specs.declared.owner.OwnerNo.{OwnerNo}
use Rattle.pss_machine.specs.declared.lock.Mode.{Mode}
use Rattle.pss_machine.specs.declared.lock.Mode.TheVariants.{S as Read, M as Many, X as Write}
use Rattle.pss_machine.specs.declared.lock.Need.{Need}
use Rattle.pss_machine.specs.Needs.{go_together}
use Rattle.link_pool.specs.Meaning.{Meaning, item_in}
use Rattle.link_pool.specs.Rings.{list_in}
use Rattle.link_pool.specs.declared.names.Row.{Row}
use Rattle.link_pool.specs.declared.names.Node.{Node}
use Rattle.link_pool.specs.declared.names.Seat.{Seat}
use Rattle.lock_table.specs.declared.links.Lock.{Lock}
use Rattle.lock_table.specs.Locks.{Held, held_by, with_locks}
use Rattle.lock_table.specs.Standing.{need_of}

-- one lock more
abbrev pub with_lock : Lock → Held → Held
with_lock lock held = map.insert held lock.owner.0 (set.insert (held_by held lock.owner) (need_of lock))

-- one lock fewer
abbrev pub without_lock : Lock → Held → Held
without_lock lock held = with_locks held lock.owner (set.remove (held_by held lock.owner) (need_of lock))

-- these locks more
abbrev pub with_all : List Lock → Held → Held
with_all [] held = held
with_all (lock ∷ locks) held = with_lock lock (with_all locks held)

-- the locks of seats
abbrev pub held_of : List (Node × Seat Lock) → Held
held_of [] = map.empty
held_of (e ∷ es) = with_lock e.1.item (held_of es)

-- the locks of a pool's nodes
abbrev pub held_in : Meaning Lock → Held
held_in p = held_of (map.entries p.nodes)

-- ---- along a row

-- one mode
abbrev pub same_mode : Mode → Mode → Bool
same_mode Read Read = true
same_mode Many Many = true
same_mode Write Write = true
same_mode _ _ = false

-- a test of the lock of a node
abbrev pub passes : (Lock → Bool) → Option Lock → Bool
passes test None = false
passes test (Some lock) = test lock

-- it is the owner's own lock in this mode
abbrev pub is_own : OwnerNo → Mode → Lock → Bool
is_own owner mode lock = lock.owner.0 == owner.0 && same_mode lock.mode mode

-- it is a lock of another owner, which does not go together with this mode
abbrev pub is_against : OwnerNo → Mode → Lock → Bool
is_against owner mode lock = not (lock.owner.0 == owner.0) && not (go_together lock.mode mode)

-- some lock of the row passes
abbrev pub any_in_row : Meaning Lock → Row → (Lock → Bool) → Bool
any_in_row p row test = list_any (λ node. passes test (item_in p node)) (list_in p.rows row)

-- the lesser of two owners
abbrev pub lesser : Option OwnerNo → Option OwnerNo → Option OwnerNo
lesser None b = b
lesser (Some a) None = Some a
lesser (Some a) (Some b) = if nat_lt b.0 a.0 then Some b else Some a

-- the owner of a lock that passes
abbrev pub owner_if : (Lock → Bool) → Option Lock → Option OwnerNo
owner_if test None = None
owner_if test (Some lock) = if test lock then Some lock.owner else None

-- the least owner of those
abbrev pub least_of : List (Option OwnerNo) → Option OwnerNo
least_of [] = None
least_of (o ∷ os) = lesser o (least_of os)

-- the least owner of a lock in the row that passes
abbrev pub least_in_row : Meaning Lock → Row → (Lock → Bool) → Option OwnerNo
least_in_row p row test = least_of (map (λ node. owner_if test (item_in p node)) (list_in p.rows row))

-- the needs that an owner has not locked
abbrev pub missing : Held → OwnerNo → List Need → List Need
missing held owner needs = filter (λ need. not (set.contains (held_by held owner) need)) needs
