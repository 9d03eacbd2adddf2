use Rattle.std.proofs.Common.{◌-◌, ◌*◌, ◌/◌, ◌%◌, ◌^◌, ◌∙◌, arith}
use Rattle.std.specs.Hash.DefaultHasher.{write_word, round}
use Rattle.table_hash.proofs.Words.{four_within, four_across, with_tail}
use Rattle.table_hash.proofs.byte_hasher.ByteHasher.write_four.Goals as goal

pub returns-then-held-lt32 : goal.returns-then-held-lt32
returns-then-held-lt32 c = four_within c.args.self.now c.args.i c.ranges.i.fits (omega arith)

pub returns-else-held-lt32 : goal.returns-else-held-lt32
unfolding write_word round
returns-else-held-lt32 c =
    let s = c.args.self.now in
    let e = c.write_word.ensures in
    (λ j. with_tail (e j) (c.args.i / 2 ^ (64 - 8 * (s.length % 8))) (e j).length) ∙ four_across s c.args.i c.ranges.i.fits (omega arith)
