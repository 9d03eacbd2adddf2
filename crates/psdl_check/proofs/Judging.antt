-- What comes of a text, by its faults and by what is made of it.
use Rattle.std.proofs.Common.{Bool, true, false, cond, refl, ◌≡◌, ℕ, zero, suc, ◌<◌, List, [], ◌∷◌, length, map, Option, Some, None, sym, ap, ◌∙◌}
use Rattle.std.specs.Option.{option_and_then, IfNone}
use Rattle.type_layout.specs.declared.schema.Schema.{Schema}
use Rattle.type_layout.specs.Schemas.{given, nth}
use Rattle.std.specs.List.{flat_map, enumerate_from}
use Rattle.pss_base.specs.declared.place.Place.{Place}
use Rattle.psdl_directory.specs.declared.fault.CheckFault.{CheckFault}
use Rattle.psdl_directory.specs.declared.fault.CheckKind.TheVariants.{Limit}
use Rattle.psdl_check.specs.declared.schemas.Made.{Made}
use Rattle.psdl_check.specs.declared.schemas.Made.TheVariants as made
use Rattle.psdl_directory.specs.Declarations.{Declaration}
use Rattle.psdl_lineage.specs.Descent.{concrete_homes}
use Rattle.psdl_directory.specs.Fault.{fault, is_after, least, lesser}
use Rattle.psdl_check.specs.Faults.{long_shape, or_else, all_faults, first_fault, passing}
use Rattle.psdl_rules.specs.Faults.{faults}
use Rattle.psdl_directory.specs.Lookup.{at}
use Rattle.psdl_check.specs.inner.Made.{IsMade}
use Rattle.psdl_check.specs.Schemas.{home_of, key_of, all_introduced, provided_homes, schema}
use Rattle.psdl_standings.specs.Standings.{standings}
use Rattle.psdl_check.proofs.Overlong.{home_declared}

-- ---- what is made

pub none_then : (o : Option ℕ) (P : Type 0) → o ≡ None → IfNone o P → P
none_then None P is p = p
none_then (Some n) P is p = absurd (cc)

-- the home with which the limit is passed is declared
pub passing_declared : (all : List Declaration) (o : Option ℕ) (h : ℕ) → option_and_then (nth (concrete_homes all)) o ≡ Some h → h < length all
passing_declared all None h is = absurd (cc)
passing_declared all (Some zero) h is = absurd (cc)
passing_declared all (Some (suc k)) h is = home_declared all k h is

pub shape_is : (all : List Declaration) (o r : Option ℕ) → r ≡ option_and_then (nth (concrete_homes all)) (passing (schema all)) → r ≡ o → long_shape all ≡ given o [] (λ h. fault Limit (at all h).place ∷ [])
shape_is all o r is same = ap (λ (p : Option ℕ). given p [] (λ h. fault Limit (at all h).place ∷ [])) (sym is ∙ same)

pub schema_made : (all : List Declaration) (s : Schema) → s.homes ≡ map (home_of all (standings all)) (concrete_homes all) → s.keys ≡ map (key_of all (standings all)) (all_introduced all)
    → s.provided ≡ flat_map (provided_homes all) (enumerate_from 0 all) → s ≡ schema all
unfolding schema
schema_made all s a b c = λ i. record { homes = a i; keys = b i; provided = c i }

-- ---- what is answered

some_least : (f : CheckFault) (o : Option CheckFault) → lesser (Some f) o ≡ None → ⊥
some_least f None e = cc
some_least f (Some g) e = by (is_after f g) e
  where
    by : (b : Bool) → cond b (Some g) (Some f) ≡ None → ⊥
    by true e = cc
    by false e = cc

nothing_least : (fs : List CheckFault) → least fs ≡ None → fs ≡ []
nothing_least [] e = refl
nothing_least (f ∷ fs) e = absurd (some_least f (least fs) e)

-- where nothing else is wrong, the shape counts
shape_counts : (all : List Declaration) → least (faults all) ≡ None → first_fault all ≡ least (long_shape all)
unfolding all_faults
shape_counts all none = ap (λ (fs : List CheckFault). least (or_else fs (long_shape all))) (nothing_least (faults all) none)

pub whole_is : (all : List Declaration) (m : Made) (s : Schema) → IsMade all m → m ≡ made.Whole s → least (faults all) ≡ None → (first_fault all ≡ None) × (s ≡ schema all)
whole_is all (made.Whole t) s (same, short) is none = let one : t ≡ s = cc in (shape_counts all none ∙ ap least short, sym one ∙ same)
whole_is all (made.TooLong h) s are is none = absurd (cc)

pub too_long_is : (all : List Declaration) (m : Made) (h : ℕ) (place : Place) → IsMade all m → m ≡ made.TooLong h → place ≡ (at all h).place → least (faults all) ≡ None → first_fault all ≡ Some (fault Limit place)
too_long_is all (made.Whole t) h place are is at_is none = absurd (cc)
too_long_is all (made.TooLong k) h place (lt, long) is at_is none =
    let one : k ≡ h = cc in
    shape_counts all none ∙ ap least long ∙ ap (λ (n : ℕ). Some (fault Limit (at all n).place)) one ∙ ap (λ (p : Place). Some (fault Limit p)) (sym at_is)

first_counts : (xs ys : List CheckFault) (f : CheckFault) → least xs ≡ Some f → least (or_else xs ys) ≡ Some f
first_counts [] ys f is = absurd (cc)
first_counts (x ∷ xs) ys f is = is

pub fault_is : (all : List Declaration) (o : Option CheckFault) (f : CheckFault) → o ≡ least (faults all) → o ≡ Some f → first_fault all ≡ Some f
unfolding all_faults
fault_is all o f is same = first_counts (faults all) (long_shape all) f (sym is ∙ same)
