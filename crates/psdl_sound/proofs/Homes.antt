-- The homes of a text's schema, by their numbers.
use Rattle.std.proofs.Common.{◌≡◌, ℕ, zero, suc, ◌+◌, ◌<◌, ◌≤◌, List, length, map, Bool, true, false, ◌==◌, Option, Some, None, refl, sym, ap, subst, ◌∙◌, arith}
use Rattle.std.specs.List.{slice_get, filter, range_with_len}
use Rattle.std.specs.Option.{option_map}
use Rattle.std.proofs.lemmas.Bool.{eqb-true, eq-eqb}
use Rattle.std.proofs.lemmas.List.{length-map}
use Rattle.std.proofs.lemmas.List.Elements.{filter_passes}
use Rattle.std.proofs.lemmas.Option.{slice_get-map, slice_get_within, get_or_from_slice_get}
use Rattle.type_layout.specs.declared.home.HomeNo.{HomeNo}
use Rattle.type_layout.specs.declared.schema.Home.{Home}
use Rattle.type_layout.specs.Schemas.{given, nth}
use Rattle.type_layout.specs.Sound.{EachHome}
use Rattle.psdl_directory.specs.Declarations.{Declaration}
use Rattle.psdl_lineage.specs.Descent.{concrete_homes}
use Rattle.psdl_check.specs.Faults.{first_fault}
use Rattle.psdl_rules.specs.Faults.Limit.{home_number, most_homes}
use Rattle.psdl_directory.specs.Lookup.{at}
use Rattle.psdl_directory.specs.Parts.{is_concrete_home}
use Rattle.psdl_check.specs.Schemas.{home_of, schema}
use Rattle.psdl_standings.specs.Standings.{standings}
use Rattle.psdl_check.proofs.FaultlessTexts.{none_of_all}
use Rattle.psdl_check.proofs.FewHomes.{few_homes as few_of_text}
use Rattle.psdl_lineage.proofs.Inherited.{homes_below}
use Rattle.psdl_lineage.proofs.Named.{has_at}
use Rattle.psdl_check.proofs.Slots.{numbered_at}

-- a declaration is the concrete home at a place among the homes
pub record IsHome (all : List Declaration) (k n : ℕ) : Type 0 where
  pub at_place : slice_get (concrete_homes all) k ≡ Some n
  pub is_concrete : is_concrete_home (at all n).what ≡ true
  pub is_declared : n < length all
  pub has_number : home_number all n ≡ suc k

passes : (all : List Declaration) (k n : ℕ) → slice_get (concrete_homes all) k ≡ Some n → is_concrete_home (at all n).what ≡ true
unfolding concrete_homes
passes all k n is =
    let test : ℕ → Bool = λ m. is_concrete_home (at all m).what in
    let homes : List ℕ = filter test (range_with_len 0 (length all)) in
    let same = get_or_from_slice_get homes k n 0 is in
    rw same at (filter_passes test (range_with_len 0 (length all)) k 0 (slice_get_within homes k n is))

number_is : (all : List Declaration) (k n : ℕ) → slice_get (concrete_homes all) k ≡ Some n → home_number all n ≡ suc k
number_is all k n is =
    let test : (home_number all n == k + 1) ≡ true = numbered_at all n k ∙ ap (λ (o : Option ℕ). given o false (λ h. h == n)) is ∙ eq-eqb n n refl in
    omega (arith, eqb-true (home_number all n) (k + 1) test)

-- what stands among the homes is one
pub is_home : (all : List Declaration) (k n : ℕ) → slice_get (concrete_homes all) k ≡ Some n → IsHome all k n
is_home all k n is =
    record {
      at_place = is;
      is_concrete = passes all k n is;
      is_declared = homes_below all n (has_at (concrete_homes all) k n is);
      has_number = number_is all k n is;
    }

-- the homes of the schema are those of the text
pub homes_of : (all : List Declaration) → (schema all).homes ≡ map (home_of all (standings all)) (concrete_homes all)
unfolding schema
homes_of all = refl

-- there are as many
pub homes_count : (all : List Declaration) → length (schema all).homes ≡ length (concrete_homes all)
homes_count all = ap (λ (l : List Home). length l) (homes_of all) ∙ length-map (concrete_homes all) (home_of all (standings all))

-- what holds of each home of the text holds of each home of the schema
pub each_home : (all : List Declaration) (P : HomeNo → Home → Type 0) → ((k n : ℕ) → IsHome all k n → P (record { 0 = suc k }) (home_of all (standings all) n)) → EachHome (schema all) P
each_home all P f h home is = by h.0 is
  where
    there : (k : ℕ) (o : Option ℕ) → slice_get (concrete_homes all) k ≡ o → option_map (home_of all (standings all)) o ≡ Some home → P (record { 0 = suc k }) home
    there k None e is = absurd (cc)
    there k (Some n) e is = let same : home_of all (standings all) n ≡ home = cc in subst (λ (x : Home). P (record { 0 = suc k }) x) same (f k n (is_home all k n e))

    by : (m : ℕ) → nth (schema all).homes m ≡ Some home → P (record { 0 = m }) home
    by zero is = absurd (cc)
    by (suc k) is =
        there k (slice_get (concrete_homes all) k) refl
        (sym (ap (λ (l : List Home). slice_get l k) (homes_of all) ∙ slice_get-map (home_of all (standings all)) (concrete_homes all) k) ∙ is)

-- ---- how many

-- a text without a fault has at most 4,096 homes
pub few_homes : (all : List Declaration) → first_fault all ≡ None → length (schema all).homes ≤ most_homes
few_homes all none = omega (arith, few_of_text all (none_of_all all none).0, homes_count all)
