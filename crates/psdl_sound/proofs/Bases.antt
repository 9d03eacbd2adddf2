-- The base of a home of a text without a fault has a lower number.
use Rattle.std.proofs.Common.{◌≡◌, ℕ, suc, ◌+◌, ◌<◌, List, [], ◌∷◌, ◌++◌, length, Bool, true, false, cond, not, nat_lt, ◌==◌, Option, Some, None, refl, sym, ap, subst, ◌∙◌, arith, ⊎_elim}
use Rattle.std.specs.List.{flat_map}
use Rattle.std.specs.Option.{option_map, option_or}
use Rattle.std.proofs.lemmas.Bool.{cases_eq, eq-eqb, ltb-true, not-false}
use Rattle.std.proofs.lemmas.List.Concat.{flat_map-append}
use Rattle.pss_base.specs.declared.place.Place.{Place}
use Rattle.psdl_tree.specs.declared.names.NamePart.{NamePart}
use Rattle.psdl_tree.specs.Trees.{Name}
use Rattle.type_layout.specs.Schemas.{given}
use Rattle.type_layout.specs.Sound.{IsLower}
use Rattle.psdl_directory.specs.declared.fault.CheckKind.TheVariants.{Incomplete, Cycle}
use Rattle.psdl_directory.specs.Declarations.{Path, Declaration}
use Rattle.psdl_lineage.specs.Descent.{base_home}
use Rattle.psdl_directory.specs.Fault.{fault_if}
use Rattle.psdl_check.specs.Faults.{first_fault}
use Rattle.psdl_rules.specs.Words.{above}
use Rattle.psdl_rules.specs.Faults.Incomplete.{is_defined_by, of_forward, never_defined}
use Rattle.psdl_standings.specs.Selves.{is_itself, of_itself, in_struct}
use Rattle.psdl_rules.specs.Faults.Limit.{home_number}
use Rattle.psdl_directory.specs.Lookup.{as_is, at, nothing, below, first, first_of, first_inside, outwards, inwards, beginning, meaning, named, origin, place_of, is_named}
use Rattle.psdl_directory.specs.Parts.{is_module, is_concrete_home, bases, implemented}
use Rattle.psdl_check.specs.Schemas.{home_no}
use Rattle.psdl_check.proofs.FaultlessTexts.{HasNone, both_empty, does_not_hold, none_at, none_given, no_fault_at}
use Rattle.psdl_lineage.proofs.Foremost.{first_passes}
use Rattle.psdl_sound.proofs.Homes.{IsHome}
use Rattle.psdl_check.proofs.Meanings.{position_within, named_parts, IsDefinition, definition_is, IsOneOf, base_is}
use Rattle.psdl_sound.proofs.HomeNumbers.{number_is, lower_number}

-- ---- what a name means is the first of its own name

-- what holds of the first of each name in each scope holds of what names mean
module _ (all : List Declaration) (limit : ℕ) (P : ℕ → Type 0) (holds : (path : Path) (name : List ℕ) (m : ℕ) → first_of as_is all limit path name ≡ Some m → P m) where
  or_so : (a b : Option ℕ) → ((m : ℕ) → a ≡ Some m → P m) → ((m : ℕ) → b ≡ Some m → P m) → (m : ℕ) → option_or a b ≡ Some m → P m
  or_so None b f g m e = g m e
  or_so (Some n) b f g m e = f m e

  outwards_so : (name : List ℕ) (path : Path) (m : ℕ) → outwards (λ p. first_of as_is all limit p name) path ≡ Some m → P m
  outwards_so name [] m e = holds [] name m e
  outwards_so name (outer ∷ path) m e =
      or_so (first_of as_is all limit (outer ∷ path) name) (outwards (λ p. first_of as_is all limit p name) path) (holds (outer ∷ path) name) (outwards_so name path) m e

  inside_so : (n : ℕ) (name : List ℕ) (m : ℕ) → first_inside as_is all limit n name ≡ Some m → P m
  inside_so n name m e = by (is_module (at all n).what) e
    where
      by : (b : Bool) → cond b (first_of as_is all limit ((at all n).name ∷ (at all n).path) name) None ≡ Some m → P m
      by true e = holds ((at all n).name ∷ (at all n).path) name m e
      by false e = absurd (cc)

  inwards_so : (n : ℕ) (parts : List NamePart) → P n → (m : ℕ) → inwards as_is all limit n parts ≡ Some m → P m
  inwards_so n [] here m e = let same : n ≡ m = cc in subst P same here
  inwards_so n (part ∷ parts) here m e = further (first_inside as_is all limit n part.name.name) (inside_so n part.name.name) (λ k so is. inwards_so k parts so m is) e
    where
      further : (o : Option ℕ) → ((k : ℕ) → o ≡ Some k → P k) → ((k : ℕ) → P k → inwards as_is all limit k parts ≡ Some m → P m) → given o None (λ k. inwards as_is all limit k parts) ≡ Some m → P m
      further None h next e = absurd (cc)
      further (Some k) h next e = next k (h k refl) e

  begins_so : (path : Path) (name : Name) (m : ℕ) → beginning as_is all limit path name ≡ Some m → P m
  begins_so path name m e = by name.leading e
    where
      by : (o : Option Place) → given o (outwards (λ p. first_of as_is all limit p name.first.name) path) (λ _. first_of as_is all limit [] name.first.name) ≡ Some m → P m
      by None e = outwards_so name.first.name path m e
      by (Some place) e = holds [] name.first.name m e

  -- of what a name means
  pub meaning_so : (path : Path) (name : Name) (m : ℕ) → meaning as_is all limit path name ≡ Some m → P m
  unfolding meaning
  meaning_so path name m e = by (beginning as_is all limit path name) (begins_so path name) e
    where
      by : (o : Option ℕ) → ((k : ℕ) → o ≡ Some k → P k) → given o None (λ n. inwards as_is all limit n name.others) ≡ Some m → P m
      by None h e = absurd (cc)
      by (Some n) h e = inwards_so n name.others (h n refl) m e

at_first : (limit : ℕ) (o : Option ℕ) (m : ℕ) → below limit o ≡ Some m → o ≡ Some m
at_first limit None m e = absurd (cc)
at_first limit (Some n) m e = by (nat_lt n limit) e
  where
    by : (b : Bool) → cond b (Some n) None ≡ Some m → Some n ≡ Some m
    by true e = e
    by false e = absurd (cc)

own_first : (all : List Declaration) (path : Path) (name : List ℕ) (m : ℕ) → first as_is all path name ≡ Some m → origin all m ≡ Some m
own_first all path name m is =
    let e : Declaration = at all m in
    let asked : Declaration = record { path = path; name = name; place = e.place; what = e.what } in
    let lt : m < length all = omega (arith, position_within (is_named as_is path name) 0 all m is) in
    let parts = named_parts asked e (first_passes (is_named as_is path name) all m nothing lt is) in
    sym (ap (λ (p : Path). first as_is all p name) parts.0 ∙ ap (λ (n : List ℕ). first as_is all e.path n) parts.1) ∙ is

-- the first of its name is what a name means
pub means_first : (all : List Declaration) (n : ℕ) (name : Name) (m : ℕ) → named all n name ≡ Some m → origin all m ≡ Some m
means_first all n name m is =
    meaning_so all (n + 1) (λ k. origin all k ≡ Some k) (λ path word k e. own_first all path word k (at_first (n + 1) (first as_is all path word) k e)) (at all n).path name m is

-- ---- the base of a home

-- of lists that are empty together the first is empty
front_empty : {X A : Type 0} (f : X → List A) (xs ys : List X) → flat_map f (xs ++ ys) ≡ [] → flat_map f xs ≡ []
front_empty f xs ys e = (both_empty (flat_map f xs) (flat_map f ys) (sym (flat_map-append f xs ys) ∙ e)).0

not_forward : (all : List Declaration) (n : ℕ) → HasNone all n → flat_map (of_forward all n) (bases (at all n).what) ≡ []
not_forward all n none =
    let d : Declaration = at all n in
    let whole = (both_empty (never_defined all n d) (flat_map (of_forward all n) (above d.what)) none.no_incomplete).1 in
    front_empty (of_forward all n) (bases d.what) (implemented d.what) (front_empty (of_forward all n) (bases d.what ++ implemented d.what) _ whole)

not_itself : (all : List Declaration) (n : ℕ) → HasNone all n → flat_map (of_itself all n) (bases (at all n).what) ≡ []
not_itself all n none =
    let d : Declaration = at all n in
    let whole = front_empty (of_itself all n) (above d.what) (in_struct n d.what) none.no_cycle in
    front_empty (of_itself all n) (bases d.what) (implemented d.what) (front_empty (of_itself all n) (bases d.what ++ implemented d.what) _ whole)

module _ (all : List Declaration) (n b : ℕ) (none : HasNone all n) (base : IsOneOf all n (bases (at all n).what) (λ m. is_concrete_home (at all m).what) b) where
  abbrev j : ℕ
  j = base.means.declared

  -- it stands no further on
  not_behind : b < n + 1
  not_behind =
      let here : of_forward all n base.name ≡ [] = none_at (of_forward all n) (bases (at all n).what) (not_forward all n none) base.place base.name base.at_place in
      let fault = none_given (named all n base.name) (λ j. fault_if (not (is_defined_by all n j)) Incomplete (place_of base.name)) here j base.means.is_named in
      let defined : is_defined_by all n j ≡ true = not-false (is_defined_by all n j) (does_not_hold (not (is_defined_by all n j)) Incomplete (place_of base.name) fault) in
      ltb-true b (n + 1) (sym (ap (λ (o : Option ℕ). given o false (λ k. nat_lt k (n + 1))) base.means.is_definition) ∙ defined)

  -- it is not the home itself
  not_same : b ≡ n → ⊥
  not_same same =
      let here : of_itself all n base.name ≡ [] = none_at (of_itself all n) (bases (at all n).what) (not_itself all n none) base.place base.name base.at_place in
      let off : is_itself all n base.name ≡ false = does_not_hold (is_itself all n base.name) Cycle (place_of base.name) here in
      let whole : IsDefinition all j b = definition_is all j b base.means.is_definition in
      let one : origin all b ≡ origin all j =
      ap (λ (p : Path). first as_is all p (at all b).name) (sym whole.one_path) ∙ ap (λ (w : List ℕ). first as_is all (at all j).path w) (sym whole.one_name) in
      let own : origin all n ≡ Some j = ap (origin all) (sym same) ∙ one ∙ means_first all n base.name j base.means.is_named in
      let on : is_itself all n base.name ≡ true =
      ap (λ (o : Option ℕ). given o false (λ j. given (origin all n) false (λ k. j == k))) base.means.is_named ∙ ap (λ (o : Option ℕ). given o false (λ k. j == k)) own ∙ eq-eqb j j refl in
      let both : true ≡ false = sym on ∙ off in
      cc

  base_in_front : b < n
  base_in_front = ⊎_elim (λ same. absurd (not_same same)) (λ differ. omega (arith, differ, not_behind)) (cases_eq b n)

-- the base of a home has a lower number
pub base_lower : (all : List Declaration) → first_fault all ≡ None → (k n : ℕ) → IsHome all k n → IsLower (option_map (home_no all) (base_home all n)) (record { 0 = suc k })
base_lower all none k n home = by (base_home all n) refl
  where
    by : (o : Option ℕ) → base_home all n ≡ o → IsLower (option_map (home_no all) o) (record { 0 = suc k })
    by None e = tt
    by (Some b) e =
        let base = base_is all n b e in
        let lt : b < n = base_in_front all n b (no_fault_at all none n home.is_declared) base in
        let low : home_number all b < home_number all n = lower_number all b n lt home.is_declared base.passes home.is_concrete in
        (omega (arith, number_is all b (omega (arith, lt, home.is_declared)) base.passes), omega (arith, low, home.has_number))
