use Rattle.std.proofs.Common.{◌≡◌, take, length}
use Rattle.psdl_lineage.specs.inner.Walks.{IsIdle, AreFirst}
use Rattle.psdl_lineage.proofs.descendants.first_descendants.Given as goal

abbrev pub invariant-loop-root : goal.invariant-loop-root
invariant-loop-root l =
    record {
      sized : length l.marks ≡ length l.fn.marks;
      idle : IsIdle l.graph l.marks l.walk;
      first : AreFirst l.graph (take l.root-index l.roots) l.walk.found.items l.firsts.items;
    }
