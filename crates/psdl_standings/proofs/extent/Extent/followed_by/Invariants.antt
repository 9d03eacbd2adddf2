use Rattle.std.proofs.Common.{◌≡◌, ℕ, ◌<◌, get_or, length}
use Rattle.psdl_standings.specs.Extents.{extent_view, followed}
use Rattle.psdl_standings.proofs.extent.Extent.followed_by.Given as goal

abbrev pub invariant-loop-place : goal.invariant-loop-place
invariant-loop-place l = record {
  sized : length l.both ≡ 8;
  so_far : (k : ℕ) → k < l.place → get_or l.both k 0 ≡ followed (extent_view l.self) (extent_view l.others) k;
}
