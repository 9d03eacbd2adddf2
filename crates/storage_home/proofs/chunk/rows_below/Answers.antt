use Rattle.std.proofs.Common.{◌-◌, ap, ◌∙◌, bit_and}
use Rattle.std.specs.Prelude.{count_ones}
use Rattle.std.proofs.lemmas.Nat.{and_mask}
use Rattle.storage_home.proofs.Bits.{ones_are}
use Rattle.storage_home.proofs.chunk.rows_below.Goals as goal

pub returns : goal.returns
returns c = ap (λ k. count_ones (bit_and c.args.present (k - 1))) c.bit_of.ensures ∙ ap count_ones (and_mask c.args.present c.args.place) ∙ ones_are c.args.place c.args.present
