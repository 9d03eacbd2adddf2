use Rattle.std.proofs.Common.{◌≡◌, drop}
use Rattle.psdl_check.specs.inner.LineLengths.{numbers_length}
use Rattle.psdl_check.proofs.line_lengths.with_numbers.Given as goal

abbrev pub invariant-loop-number : goal.invariant-loop-number
invariant-loop-number l = numbers_length l.whole.0 (drop l.number-index l.numbers) ≡ numbers_length l.fn.front.0 l.numbers
