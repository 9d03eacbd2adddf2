use Rattle.std.proofs.Common.{◌≡◌, ◌++◌, List, length, take}
use Rattle.psdl_lineage.specs.Descent.{Listed}
use Rattle.psdl_check.specs.declared.key_rows.KeyIds.{KeyIds}
use Rattle.psdl_check.specs.inner.Gathered.{AreGathered}
use Rattle.psdl_check.specs.inner.KeyIds.{own_views, HaveIds}
use Rattle.psdl_check.proofs.home_keys.add_all.Given as goal

abbrev pub invariant-loop-key : goal.invariant-loop-key
invariant-loop-key l =
    record {
      sized : length l.marks ≡ length l.fn.marks;
      gathered : (ids : KeyIds) (all : List Listed) → HaveIds ids l.keys → AreGathered ids l.fn.marks l.fn.found.items all → AreGathered ids l.marks l.found.items (all ++ own_views (take l.key-index l.keys));
    }
