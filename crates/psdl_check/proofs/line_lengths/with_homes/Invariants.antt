use Rattle.std.proofs.Common.{◌≡◌, drop, map}
use Rattle.psdl_check.specs.inner.LineLengths.{numbers_length}
use Rattle.psdl_check.proofs.line_lengths.with_homes.Given as goal

abbrev pub invariant-loop-home : goal.invariant-loop-home
invariant-loop-home l = numbers_length l.whole.0 (map (λ h. h.0) (drop l.home-index l.homes)) ≡ numbers_length l.fn.front.0 (map (λ h. h.0) l.homes)
