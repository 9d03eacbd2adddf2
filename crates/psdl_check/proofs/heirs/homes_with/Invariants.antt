use Rattle.std.proofs.Common.{◌≡◌, ◌≤◌, ℕ, Bool, length, map, filter, take}
use Rattle.psdl_lineage.specs.Descent.{concrete_homes}
use Rattle.psdl_check.specs.Schemas.{home_no}
use Rattle.psdl_check.specs.inner.Masks.{has_bit}
use Rattle.psdl_check.specs.inner.Texts.{text_in}
use Rattle.psdl_check.proofs.heirs.homes_with.Given as goal

abbrev pub invariant-loop-place : goal.invariant-loop-place
invariant-loop-place l =
    let all = text_in l.text in
    record {
      within : l.place ≤ length (concrete_homes all);
      homes : (test : ℕ → Bool) → map (λ m. has_bit m l.bit) l.masks ≡ map test (concrete_homes all) → l.homes.items ≡ map (home_no all) (filter test (take l.place (concrete_homes all)));
    }
