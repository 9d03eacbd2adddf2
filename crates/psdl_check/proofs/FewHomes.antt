-- A text without a fault has no more homes than a schema may have.
use Rattle.std.proofs.Common.{◌≡◌, ℕ, ◌+◌, ◌<◌, List, [], length, get_or, true, false, ◌&&◌, ◌==◌, Option, Some, refl, sym, ap, ◌∙◌, ⊎_elim}
use Rattle.std.specs.List.{range_with_len, slice_get}
use Rattle.std.proofs.lemmas.Bool.{and_from, cases_lt, eq-eqb}
use Rattle.std.proofs.lemmas.List.Elements.{filter_passes}
use Rattle.std.proofs.lemmas.Option.{slice_get-get_or}
use Rattle.type_layout.specs.Schemas.{given}
use Rattle.psdl_directory.specs.declared.fault.CheckKind.TheVariants.{Limit}
use Rattle.psdl_directory.specs.Declarations.{Declaration}
use Rattle.psdl_directory.specs.Lookup.{at}
use Rattle.psdl_directory.specs.Parts.{is_concrete_home}
use Rattle.psdl_lineage.specs.Descent.{concrete_homes}
use Rattle.psdl_lineage.proofs.Inherited.{homes_below}
use Rattle.psdl_lineage.proofs.Named.{has_at}
use Rattle.psdl_rules.specs.Faults.{faults}
use Rattle.psdl_rules.specs.Faults.Limit.{home_number, most_homes}
use Rattle.psdl_check.specs.inner.HomeNos.{HasFewHomes}
use Rattle.psdl_check.proofs.FaultlessTexts.{does_not_hold, faultless_at}
use Rattle.psdl_check.proofs.Slots.{numbered_at}

is_one : (all : List Declaration) (k : ℕ) → k < length (concrete_homes all) → is_concrete_home (at all (get_or (concrete_homes all) k 0)).what ≡ true
unfolding concrete_homes
is_one all k lt = filter_passes (λ n. is_concrete_home (at all n).what) (range_with_len 0 (length all)) k 0 lt

has_number : (all : List Declaration) (k n : ℕ) → slice_get (concrete_homes all) k ≡ Some n → (home_number all n == k + 1) ≡ true
has_number all k n is = numbered_at all n k ∙ ap (λ (o : Option ℕ). given o false (λ h. h == n)) is ∙ eq-eqb n n refl

-- the home at the place of the limit would be a fault; the place is a variable, since it is not to be counted
too_many : (all : List Declaration) → faults all ≡ [] → (most : ℕ) → most ≡ most_homes → most < length (concrete_homes all) → ⊥
too_many all none most limit lt =
    let n : ℕ = get_or (concrete_homes all) most 0 in
    let place : slice_get (concrete_homes all) most ≡ Some n = slice_get-get_or (concrete_homes all) most 0 lt in
    let declared : n < length all = homes_below all n (has_at (concrete_homes all) most n place) in
    let off = does_not_hold (is_concrete_home (at all n).what && home_number all n == most_homes + 1) Limit (at all n).place (faultless_at all none n declared).no_many_homes in
    let number : (home_number all n == most_homes + 1) ≡ true = ap (λ (m : ℕ). home_number all n == m + 1) (sym limit) ∙ has_number all most n place in
    let on = and_from (is_concrete_home (at all n).what) (home_number all n == most_homes + 1) (is_one all most lt) number in
    cc

pub few_homes : (all : List Declaration) → faults all ≡ [] → HasFewHomes all
few_homes all none = ⊎_elim (λ lt. absurd (too_many all none most_homes refl lt)) (λ le. le) (cases_lt most_homes (length (concrete_homes all)))
