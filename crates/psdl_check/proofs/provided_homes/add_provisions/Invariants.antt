use Rattle.std.proofs.Common.{◌≡◌, ◌≤◌, ◌++◌, map, take, length}
use Rattle.std.specs.List.{flat_map}
use Rattle.psdl_tree.specs.Views.{provision_view}
use Rattle.psdl_check.specs.inner.Modules.{provision_of}
use Rattle.psdl_check.specs.inner.Texts.{text_in}
use Rattle.psdl_check.proofs.provided_homes.add_provisions.Given as goal

abbrev pub invariant-loop-place : goal.invariant-loop-place
invariant-loop-place l =
    record {
      within : l.place ≤ length l.provisions;
      put : l.list.items ≡ l.fn.list.items ++ flat_map (provision_of (text_in l.text) l.number l.catalog) (map provision_view (take l.place l.provisions));
    }
