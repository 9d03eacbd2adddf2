use Rattle.std.proofs.Common.{◌≡◌, ◌≤◌, map, length, take}
use Rattle.psdl_check.proofs.home_factories.all_bases.Given as goal

abbrev pub invariant-loop-number : goal.invariant-loop-number
invariant-loop-number l =
    record {
      within : l.number ≤ length l.graph;
      rows : map (λ r. r.items) l.all.items ≡ take l.number l.graph;
    }
