use Rattle.std.proofs.Common.{◌≡◌, ◌++◌, take}
use Rattle.page_format.specs.Written.{list_octets}
use Rattle.page_format.proofs.spelling.put_slots.Given as goal

abbrev pub invariant-loop-slot : goal.invariant-loop-slot
invariant-loop-slot l = l.buffer ≡ record { size = l.fn.buffer.size; octets = l.fn.buffer.octets ++ list_octets (take l.slot-index l.slots) }
