use Rattle.std.proofs.Common.{◌≡◌, ◌++◌, ℕ, List, length, take}
use Rattle.std.specs.List.{flat_map}
use Rattle.psdl_lineage.specs.Descent.{Listed}
use Rattle.psdl_check.specs.declared.key_rows.KeyIds.{KeyIds}
use Rattle.psdl_check.specs.inner.Gathered.{AreGathered}
use Rattle.psdl_check.specs.inner.KeyIds.{own_views, HaveIds}
use Rattle.psdl_check.specs.inner.KeyRowed.{row_in}
use Rattle.psdl_check.proofs.home_keys.add_bodies.Given as goal

abbrev pub invariant-loop-body : goal.invariant-loop-body
invariant-loop-body l =
    record {
      sized : length l.marks ≡ length l.fn.marks;
      gathered : (ids : KeyIds) (all : List Listed) → ((n : ℕ) → HaveIds ids (row_in l.rows.rows.items n)) → AreGathered ids l.fn.marks l.fn.found.items all
          → AreGathered ids l.marks l.found.items (all ++ flat_map (λ n. own_views (row_in l.rows.rows.items n)) (take l.body-index l.bodies));
    }
