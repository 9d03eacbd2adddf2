use Rattle.std.proofs.Common.{◌≡◌, ◌+◌, ℕ, List, map}
use Rattle.std.specs.List.{range_with_len}
use Rattle.psdl_directory.specs.Directories.{all_of}
use Rattle.psdl_standings.specs.Depths.{is_deep}
use Rattle.psdl_standings.specs.Standings.{Standing}
use Rattle.psdl_standings.specs.inner.Levels.{depth, alias_depth}
use Rattle.psdl_standings.proofs.nesting.deep_of.Given as goal

abbrev pub invariant-loop-index : goal.invariant-loop-index
invariant-loop-index l =
    record {
      deep : (done : List Standing) → l.levels ≡ map depth done → l.deep.items ≡ map (is_deep (all_of l.directory) done) (range_with_len 0 l.index);
      last : (n : ℕ) → l.index ≡ n + 1 → l.spec ≡ alias_depth (all_of l.directory) l.levels n;
    }
