use Rattle.std.proofs.Common.{◌-◌, ◌*◌, ◌/◌, ◌%◌, ◌^◌, ◌∙◌}
use Rattle.std.specs.Hash.DefaultHasher.{write_word, round, wrapping_add}
use Rattle.table_hash.proofs.Words.{eight, with_tail}
use Rattle.table_hash.proofs.byte_hasher.ByteHasher.write_eight.Goals as goal

pub returns : goal.returns
unfolding write_word round
returns c =
    let e = c.write_word.ensures in
    (λ j. with_tail (e j) (c.args.i / 256 / 2 ^ (56 - 8 * (c.args.self.now.length % 8))) (wrapping_add (e j).length 8)) ∙ eight c.args.self.now c.args.i c.ranges.i.fits
