use Rattle.std.proofs.Common.{◌≡◌, length, take}
use Rattle.std.specs.List.{flat_map, range_with_len}
use Rattle.psdl_lineage.specs.Graph.{ancestry_in}
use Rattle.psdl_lineage.specs.inner.Walks.{IsIdle}
use Rattle.psdl_lineage.proofs.Repeats.{once}
use Rattle.psdl_lineage.proofs.ancestry.order.Given as goal

abbrev pub invariant-loop-number : goal.invariant-loop-number
invariant-loop-number l =
    record {
      sized : length l.marks ≡ length l.fn.marks;
      idle : IsIdle l.graph l.marks l.walk;
      found : l.walk.found.items ≡ once (flat_map (ancestry_in l.graph) (take l.number (range_with_len 0 (length l.graph))));
    }
