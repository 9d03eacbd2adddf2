-- Faults of a page as faults of its store.
use Rattle.std.specs.Prelude.{ℕ, ◌+◌}
use Rattle.page_format.specs.Places.{slot_start}
use Rattle.page_format.specs.declared.fault.PageFault.{PageFault}
use Rattle.page_format.specs.declared.fault.PageFault.TheVariants as fault
use Rattle.page_format.specs.declared.stop.PageStop.{PageStop}
use Rattle.page_format.specs.declared.stop.PageStop.TheVariants as stop

-- the place is counted from the start of the file
abbrev pub in_file : ℕ → PageStop → PageFault
in_file slot (stop.Damaged at kind) = fault.Damaged (slot_start slot + at) kind
in_file slot stop.NoMemory = fault.NoMemory
