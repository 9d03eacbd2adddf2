use Rattle.std.proofs.Common.{◌≡◌, ◌++◌, take}
use Rattle.page_format.specs.Written.{pages_octets}
use Rattle.page_format.proofs.spelling.put_pages.Given as goal

abbrev pub invariant-loop-page : goal.invariant-loop-page
invariant-loop-page l = l.buffer ≡ record { size = l.fn.buffer.size; octets = l.fn.buffer.octets ++ pages_octets l.epoch (take l.page-index l.pages) }
