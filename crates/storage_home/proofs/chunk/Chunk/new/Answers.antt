use Rattle.std.proofs.Common.{length, sym, ap, ◌∙◌, get_or, None}
use Rattle.storage_home.specs.Cells.{cells_of}
use Rattle.storage_home.proofs.Bits.{cells_none, no_bits}
use Rattle.storage_home.proofs.chunk.Chunk.new.Goals as goal

pub invariant_of-result : goal.invariant_of-result
invariant_of-result c = ap length c.new.ensures.items ∙ sym (no_bits 64)

pub returns : goal.returns
returns c q = ap (λ l. get_or (cells_of 64 0 l) q None) c.new.ensures.items ∙ cells_none 64 0 q
