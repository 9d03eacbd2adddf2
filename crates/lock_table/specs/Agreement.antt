-- The locks of the machine's owners, and those of a table.
use Rattle.std.specs.Prelude.{◌≡◌, List, map, sum}
use Rattle.std.specs.Option.{option_map, unwrap_or}
use Rattle.std.specs.FinMap as map
use Rattle.std.specs.FinSet as set
use Rattle.pss_base.specs.declared.owner.OwnerNo.{OwnerNo}
use Rattle.pss_machine.specs.Needs.{Locks}
use Rattle.pss_machine.specs.declared.lock.Need.{Need}
use Rattle.pss_machine.specs.Owners.{Owners}
use Rattle.pss_machine.specs.Owners as machine
use Rattle.lock_table.specs.Locks.{Held, held_by, blocker, lock_count}

-- what an owner of the machine has locked, and nothing where there is no such owner
abbrev pub locks_of : Owners → OwnerNo → Locks
locks_of owners n = unwrap_or (option_map (λ owner. owner.locks) (map.get owners n.0)) set.empty

-- each owner has the same locks in both
abbrev pub HaveLocks : Owners → Held → Type 0
HaveLocks owners held = (n : OwnerNo) → locks_of owners n ≡ held_by held n

-- then the same owner holds up what is needed
abbrev pub SameBlockers : Type 0
SameBlockers = (owners : Owners) (held : Held) → HaveLocks owners held → (n : OwnerNo) (wanted : List Need) → machine.blocker owners n wanted ≡ blocker held n wanted

-- and there are as many locks
abbrev pub SameCounts : Type 0
SameCounts = (owners : Owners) (held : Held) → HaveLocks owners held → sum (map (λ e. set.len e.1.locks) (map.entries owners)) ≡ lock_count held
