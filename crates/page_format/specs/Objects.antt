-- Objects under their serials, and changes over them.
use Rattle.std.specs.Prelude.{ℕ, ◌==◌, ◌≤◌, cond, List, [], ◌∷◌, length, map, None, Some, IfSome}
use Rattle.std.specs.Ordering.{nat_cmp}
use Rattle.std.specs.FinMap.{FinMap, from_entries, insert, remove}
use Rattle.std.specs.declared.option.Option.{Option}
use Rattle.pss_base.specs.declared.put.Put.{Put}
use Rattle.page_format.specs.Pages.{Entry}
use Rattle.page_format.specs.declared.objects.Stored.{Stored}

abbrev pub Objects : Type 0
Objects = FinMap nat_cmp Stored

-- a record has 1 to 8,000 octets
pub record HasRecord (octets : List ℕ) : Type 0 where
  pub some : 1 ≤ length octets
  pub most : length octets ≤ 8000

-- a change removes an object, or leaves such a record
abbrev pub IsRightPut : Put → Type 0
IsRightPut put = IfSome put.bytes HasRecord

-- an object under its serial as an entry, and an entry as an object under its serial
abbrev pub entry_of : ℕ × Stored → Entry
entry_of o = record { home = o.1.home; serial = o.0; octets = o.1.octets }

abbrev pub entries_of : List (ℕ × Stored) → List Entry
entries_of os = map entry_of os

abbrev pub stored_of : Entry → ℕ × Stored
stored_of e = (e.serial, record { home = e.home; octets = e.octets })

-- the octets that a change leaves, what it leaves as an entry, and what changes leave
abbrev pub octets_left : Option (List ℕ) → List ℕ
octets_left None = []
octets_left (Some octets) = octets

abbrev pub entry_left : Put → Entry
entry_left put = record { home = put.home; serial = put.serial; octets = octets_left put.bytes }

abbrev pub entries_left : List Put → List Entry
entries_left puts = map entry_left puts

-- the objects that stand in entries: of two for one serial the first counts
abbrev pub by_serial : List Entry → Objects
by_serial es = from_entries (map stored_of es)

-- the objects with another record under a serial, or with none
abbrev pub with_record : Objects → ℕ → ℕ → Option (List ℕ) → Objects
with_record m serial home None = remove m serial
with_record m serial home (Some octets) = insert m serial (record { home = home; octets = octets })

-- the objects with changes made one after the other
abbrev pub over : Objects → List Put → Objects
over m [] = m
over m (put ∷ puts) = over (with_record m put.serial put.home put.bytes) puts

-- what a change leaves of its object
abbrev pub left_by : ℕ → Option (List ℕ) → Option Stored
left_by home None = None
left_by home (Some octets) = Some (record { home = home; octets = octets })

-- what changes leave of an object
abbrev pub after : List Put → ℕ → Option Stored → Option Stored
after [] q o = o
after (put ∷ puts) q o = after puts q (cond (q == put.serial) (left_by put.home put.bytes) o)
