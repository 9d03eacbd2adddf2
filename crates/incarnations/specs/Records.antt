-- What is kept of bodies and sessions.
use Rattle.std.specs.Prelude.{ℕ, ◌-◌, List, Bool, cond}
use Rattle.type_layout.specs.Types.{PlainValue}
use Rattle.incarnations.specs.declared.names.BodyRecord.{BodyRecord}
use Rattle.incarnations.specs.declared.names.SessionRecord.{SessionRecord}

abbrev pub with_entries : ℕ → BodyRecord → BodyRecord
with_entries n b = record { place = record { row = b.place.row; entries = n }; value = b.value }

abbrev pub with_value : List PlainValue → BodyRecord → BodyRecord
with_value v b = record { place = b.place; value = v }

-- so many of a session's entries stand on a body
abbrev pub with_attached : ℕ → SessionRecord → SessionRecord
with_attached n r = record { col = r.col; row = r.row; last = r.last; entries = r.entries; attached = n }

-- one entry fewer, which stood on a body or on none
abbrev pub without_one : Bool → SessionRecord → SessionRecord
without_one stood r = record { col = r.col; row = r.row; last = r.last; entries = r.entries - 1; attached = r.attached - cond stood 1 0 }
