-- The shape text of a text without a fault is within its limit.
use Rattle.std.proofs.Common.{◌≡◌, ℕ, zero, suc, ◌+◌, ◌<◌, ◌≤◌, List, [], ◌∷◌, length, take, get_or, Bool, true, false, cond, nat_lt, Option, Some, None, refl, sym, ap, ◌∙◌, arith, ⊎_elim}
use Rattle.std.specs.List.{find, range_with_len}
use Rattle.std.specs.Option.{option_and_then}
use Rattle.std.proofs.lemmas.Bool.{cases_lt, cases_eq, lt-ltb}
use Rattle.std.proofs.lemmas.List.{take_all}
use Rattle.std.proofs.lemmas.Option.{slice_get-get_or}
use Rattle.type_layout.specs.declared.schema.Home.{Home}
use Rattle.type_layout.specs.Schemas.{given, nth}
use Rattle.type_layout.specs.ShapeText.{lines_from, shape_text}
use Rattle.psdl_directory.specs.declared.fault.CheckFault.{CheckFault}
use Rattle.psdl_directory.specs.declared.fault.CheckKind.TheVariants.{Limit}
use Rattle.psdl_directory.specs.Declarations.{Declaration}
use Rattle.psdl_lineage.specs.Descent.{concrete_homes}
use Rattle.psdl_directory.specs.Fault.{fault}
use Rattle.psdl_check.specs.Faults.{first_fault, passing, long_shape}
use Rattle.psdl_rules.specs.Faults.Limit.{most_shape}
use Rattle.psdl_directory.specs.Lookup.{at}
use Rattle.psdl_check.specs.Schemas.{schema}
use Rattle.psdl_check.proofs.FaultlessTexts.{no_long_shape}
use Rattle.psdl_sound.proofs.Homes.{homes_count}

-- a number of a range that passes a test
record IsFound (test : ℕ → Bool) (a m : ℕ) : Type 0 where
  number : ℕ
  is : find test (range_with_len a m) ≡ Some number
  from : a ≤ number
  below : number < a + m

-- where one passes, one is found
found : (test : ℕ → Bool) (a m j : ℕ) → a ≤ j → j < a + m → test j ≡ true → IsFound test a m
found test a zero j le lt on = absurd (omega (arith, le, lt))
found test a (suc m) j le lt on = by (test a) refl (λ more. found test (a + 1) m j more (omega (arith, lt)) on)
  where
    by : (b : Bool) → test a ≡ b → (a + 1 ≤ j → IsFound test (a + 1) m) → IsFound test a (suc m)
    by true e later = record { number = a; is = ap (λ (v : Bool). cond v (Some a) (find test (range_with_len (a + 1) m))) e; from = omega arith; below = omega arith }
    by false e later =
        let other : a ≡ j → ⊥ = λ same. let both : true ≡ false = sym on ∙ ap test (sym same) ∙ e in cc in
        let more : a < j = ⊎_elim (λ same. absurd (other same)) (λ differ. omega (arith, differ, le)) (cases_eq a j) in
        let rest : IsFound test (a + 1) m = later (omega (arith, more)) in
        record {
          number = rest.number;
          is = ap (λ (v : Bool). cond v (Some a) (find test (range_with_len (a + 1) m))) e ∙ rest.is;
          from = omega (arith, rest.from);
          below = omega (arith, rest.below);
        }

-- ---- the home with which the limit would be passed

module _ (all : List Declaration) (none : first_fault all ≡ None) where
  abbrev within : ℕ → Bool
  within k = nat_lt most_shape (length (lines_from (schema all) 1 (take k (schema all).homes)))

  never : (k : ℕ) → passing (schema all) ≡ Some k → 1 ≤ k → k < 1 + length (schema all).homes → ⊥
  never zero is from below = omega (arith, from)
  never (suc k) is from below =
      let there : nth (concrete_homes all) (suc k) ≡ Some (get_or (concrete_homes all) k 0) = slice_get-get_or (concrete_homes all) k 0 (omega (arith, below, homes_count all)) in
      let home : option_and_then (nth (concrete_homes all)) (passing (schema all)) ≡ Some (get_or (concrete_homes all) k 0) = ap (option_and_then (nth (concrete_homes all))) is ∙ there in
      let one : long_shape all ≡ fault Limit (at all (get_or (concrete_homes all) k 0)).place ∷ [] = ap (λ (o : Option ℕ). given {B = List CheckFault} o [] (λ h. fault Limit (at all h).place ∷ [])) home in
      let empty : long_shape all ≡ [] = no_long_shape all none in
      cc

  too_long : most_shape < length (shape_text (schema all)) → ⊥
  too_long lt = by (schema all).homes refl
    where
      all_of_it : within (length (schema all).homes) ≡ true
      all_of_it =
          ap (λ (hs : List Home). nat_lt most_shape (length (lines_from (schema all) 1 hs))) (take_all (length (schema all).homes) (schema all).homes (omega arith))
          ∙ lt-ltb most_shape (length (shape_text (schema all))) lt

      by : (homes : List Home) → (schema all).homes ≡ homes → ⊥
      by [] e =
          let none_there : length (shape_text (schema all)) ≡ 0 = ap (λ (hs : List Home). length (lines_from (schema all) 1 hs)) e in
          omega (arith, lt, none_there)
      by (h ∷ hs) e =
          let some : 1 ≤ length (schema all).homes = omega (arith, ap (λ (l : List Home). length l) e) in
          let one : IsFound within 1 (length (schema all).homes) = found within 1 (length (schema all).homes) (length (schema all).homes) some (omega arith) all_of_it in
          never one.number one.is one.from one.below

-- the shape text of a text without a fault is not too long
pub short_shape : (all : List Declaration) → first_fault all ≡ None → length (shape_text (schema all)) ≤ most_shape
short_shape all none = ⊎_elim (λ lt. absurd (too_long all none lt)) (λ le. le) (cases_lt most_shape (length (shape_text (schema all))))
