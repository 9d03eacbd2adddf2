use Rattle.std.proofs.Common.{◌≡◌, ◌≤◌, length, map, take}
use Rattle.psdl_lineage.specs.Descent.{concrete_homes}
use Rattle.psdl_check.specs.inner.Masks.{type_mask}
use Rattle.psdl_check.specs.inner.Texts.{text_in}
use Rattle.psdl_check.proofs.heirs.masks_of_types.Given as goal

abbrev pub invariant-loop-place : goal.invariant-loop-place
invariant-loop-place l =
    record {
      within : l.place ≤ length (concrete_homes (text_in l.text));
      kept : l.kept.items ≡ map (type_mask (text_in l.text) l.masks) (take l.place (concrete_homes (text_in l.text)));
    }
