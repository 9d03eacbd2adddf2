use Rattle.std.proofs.Common.{◌≡◌, ◌++◌, take}
use Rattle.page_format.specs.Objects.{entries_left}
use Rattle.page_format.specs.Written.{entries_octets}
use Rattle.page_format.proofs.spelling.put_entries.Given as goal

abbrev pub invariant-loop-put : goal.invariant-loop-put
invariant-loop-put l = l.buffer ≡ record { size = l.fn.buffer.size; octets = l.fn.buffer.octets ++ entries_octets (take l.put-index (entries_left l.puts)) }
