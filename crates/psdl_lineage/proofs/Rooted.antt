-- A concrete home's base is the home itself or stands before it, so that families are found in order.
use Rattle.std.proofs.Common.{◌≡◌, ℕ, zero, suc, ◌+◌, ◌≤◌, ◌<◌, List, [], ◌∷◌, ◌++◌, Bool, true, false, cond, ◌==◌, ◌&&◌, ◌||◌, not, nat_lt, length, take, get_or, Option, Some, None, refl, sym, ap, ◌∙◌, arith, ⊎_elim}
use Rattle.std.specs.List.{find, flat_map, list_any, slice_get}
use Rattle.std.specs.Option.{option_or, option_and_then, option_to_list}
use Rattle.std.specs.Str.{bytes_eq}
use Rattle.std.proofs.lemmas.Bool.{and_parts, and_from, eqb-true, eq-eqb, cases_Bool, ltb-true, ltb-false}
use Rattle.std.proofs.lemmas.List.Folds.{list_any_more}
use Rattle.std.proofs.lemmas.List.FromFn.{get_or-map-range_with_len, length-map-range_with_len}
use Rattle.std.proofs.lemmas.Option.{slice_get_within, get_or_from_slice_get, slice_get-get_or}
use Rattle.std.proofs.lemmas.Slice.Eq.{bytes_eq-Decides}
use Rattle.pss_base.specs.declared.place.Place.{Place}
use Rattle.psdl_tree.specs.declared.names.NamePart.{NamePart}
use Rattle.psdl_tree.specs.Trees.{Name}
use Rattle.type_layout.specs.Schemas.{given}
use Rattle.psdl_directory.specs.Declarations.{Path, What, IsModule, IsConstant, IsAlias, IsStruct, IsEnumeration, IsEnumerator, IsAbstractType, IsConcreteType, IsAbstractHome, IsConcreteHome, IsCatalog, Declaration}
use Rattle.psdl_directory.specs.Parts.{is_concrete_home, is_forward, is_module, kind, same_kind, bases}
use Rattle.psdl_directory.specs.Lookup.{as_is, at, nothing, below, first, first_of, outwards, first_inside, inwards, beginning, meaning, named, defines, definition, defined, is_named, same_path}
use Rattle.psdl_lineage.specs.Descent.{base_home, root_within, family}
use Rattle.psdl_lineage.specs.inner.Families.{families_before}
use Rattle.psdl_lineage.proofs.Foremost.{front_of_first, first_passes}
use Rattle.psdl_directory.proofs.Agreeing.{same_path-Decides}
use Rattle.psdl_directory.proofs.Within.{found-lower}

-- ---- what a name means is below the limit

abbrev Low : ℕ → Option ℕ → Type 0
Low limit o = (m : ℕ) → o ≡ Some m → m < limit

low_below : (limit : ℕ) (o : Option ℕ) → Low limit (below limit o)
low_below limit None m e = absurd (cc)
low_below limit (Some k) m e = by (nat_lt k limit) refl e
  where
    by : (b : Bool) → nat_lt k limit ≡ b → cond b (Some k) None ≡ Some m → m < limit
    by true t same = let at_k : k ≡ m = cc in omega (arith, ltb-true k limit t)
    by false f same = absurd (cc)

low_or : (limit : ℕ) (o p : Option ℕ) → Low limit o → Low limit p → Low limit (option_or o p)
low_or limit None p lo lp = lp
low_or limit (Some k) p lo lp = lo

low_outwards : (limit : ℕ) (f : Path → Option ℕ) → ((p : Path) → Low limit (f p)) → (path : Path) → Low limit (outwards f path)
low_outwards limit f each [] = each []
low_outwards limit f each (name ∷ path) = low_or limit (f (name ∷ path)) (outwards f path) (each (name ∷ path)) (low_outwards limit f each path)

low_inside : (all : List Declaration) (limit n : ℕ) (name : List ℕ) → Low limit (first_inside as_is all limit n name)
low_inside all limit n name = by (is_module (at all n).what)
  where
    by : (b : Bool) → Low limit (cond b (first_of as_is all limit ((at all n).name ∷ (at all n).path) name) None)
    by true = low_below limit (first as_is all ((at all n).name ∷ (at all n).path) name)
    by false = λ m e. absurd (cc)

low_inwards : (all : List Declaration) (limit n : ℕ) (parts : List NamePart) → n < limit → Low limit (inwards as_is all limit n parts)
low_inwards all limit n [] lt m e = let same : n ≡ m = cc in omega (arith, lt)
low_inwards all limit n (part ∷ parts) lt m e = by (first_inside as_is all limit n part.name.name) (low_inside all limit n part.name.name) (λ k l. low_inwards all limit k parts l) m e
  where
    by : (o : Option ℕ) → Low limit o → ((m : ℕ) → m < limit → Low limit (inwards as_is all limit m parts)) → Low limit (given o None (λ m. inwards as_is all limit m parts))
    by None low rest = λ m e. absurd (cc)
    by (Some k) low rest = rest k (low k refl)

low_beginning : (all : List Declaration) (limit : ℕ) (path : Path) (name : Name) → Low limit (beginning as_is all limit path name)
low_beginning all limit path name = by name.leading
  where
    by : (o : Option Place) → Low limit (given o (outwards (λ p. first_of as_is all limit p name.first.name) path) (λ _. first_of as_is all limit [] name.first.name))
    by None = low_outwards limit (λ p. first_of as_is all limit p name.first.name) (λ p. low_below limit (first as_is all p name.first.name)) path
    by (Some place) = low_below limit (first as_is all [] name.first.name)

pub low_meaning : (all : List Declaration) (limit : ℕ) (path : Path) (name : Name) → Low limit (meaning as_is all limit path name)
unfolding meaning
low_meaning all limit path name = by (beginning as_is all limit path name) (low_beginning all limit path name)
  where
    by : (o : Option ℕ) → Low limit o → Low limit (given o None (λ n. inwards as_is all limit n name.others))
    by None low = λ m e. absurd (cc)
    by (Some k) low = low_inwards all limit k name.others (low k refl)

-- ---- a concrete home is defined where it is declared, or before

kind_of_home : (e : What) → is_concrete_home e ≡ true → kind e ≡ 9
kind_of_home (IsConcreteHome home) h = refl
kind_of_home IsModule h = absurd (cc)
kind_of_home (IsConstant constant) h = absurd (cc)
kind_of_home (IsAlias before spec dimensions) h = absurd (cc)
kind_of_home (IsStruct struct) h = absurd (cc)
kind_of_home (IsEnumeration enumerators) h = absurd (cc)
kind_of_home IsEnumerator h = absurd (cc)
kind_of_home (IsAbstractType body) h = absurd (cc)
kind_of_home (IsConcreteType body) h = absurd (cc)
kind_of_home (IsAbstractHome body) h = absurd (cc)
kind_of_home (IsCatalog provisions) h = absurd (cc)

no_forward : (d : What) → kind d ≡ 9 → is_forward d ≡ false
no_forward (IsConcreteHome home) k = refl
no_forward IsModule k = refl
no_forward (IsConstant constant) k = refl
no_forward (IsAlias before spec dimensions) k = refl
no_forward (IsStruct struct) k = refl
no_forward (IsEnumeration enumerators) k = refl
no_forward IsEnumerator k = refl
no_forward (IsAbstractType body) k = absurd (omega (arith, k))
no_forward (IsConcreteType body) k = absurd (omega (arith, k))
no_forward (IsAbstractHome body) k = absurd (omega (arith, k))
no_forward (IsCatalog provisions) k = refl

home_kind : (d e : What) → same_kind d e ≡ true → is_concrete_home e ≡ true → is_forward d ≡ false
home_kind d e k h = no_forward d (eqb-true (kind d) (kind e) k ∙ kind_of_home e h)

defines_itself : (d : Declaration) → is_forward d.what ≡ false → defines d d ≡ true
defines_itself d f =
    and_from (not (is_forward d.what) && same_kind d.what d.what) (is_named as_is d.path d.name d)
    (and_from (not (is_forward d.what)) (same_kind d.what d.what) (ap not f) (eq-eqb (kind d.what) (kind d.what) refl))
    (and_from (same_path d.path d.path) (bytes_eq d.name d.name) ((same_path-Decides d.path d.path).1 refl) ((bytes_eq-Decides d.name d.name).1 refl))

same_kind_from : (d e : Declaration) → defines d e ≡ true → same_kind d.what e.what ≡ true
same_kind_from d e h =
    let front = and_parts (not (is_forward e.what) && same_kind d.what e.what) (is_named as_is d.path d.name e) h in
    (and_parts (not (is_forward e.what)) (same_kind d.what e.what) front.0).1

or_truly : (b : Bool) → (b || true) ≡ true
or_truly true = refl
or_truly false = refl

pub defined_low : (all : List Declaration) (m b : ℕ) → m < length all → b < length all → definition all m ≡ Some b → is_concrete_home (at all b).what ≡ true → b ≤ m
defined_low all m b lt there e h =
    let d : Declaration = at all m in
    let found : defines d (at all b) ≡ true = first_passes (defines d) all b nothing there e in
    let kinds : same_kind d.what (at all b).what ≡ true = same_kind_from d (at all b) found in
    let own : defines d d ≡ true = defines_itself d (home_kind d.what (at all b).what kinds h) in
    let more : list_any (defines d) (take (m + 1) all) ≡ (list_any (defines d) (take m all) || defines d d) = list_any_more (defines d) all m nothing lt in
    let any : list_any (defines d) (take (m + 1) all) ≡ true = more ∙ ap (λ v. list_any (defines d) (take m all) || v) own ∙ or_truly (list_any (defines d) (take m all)) in
    let front : list_any (defines d) (take (m + 1) all) ≡ nat_lt b (m + 1) = front_of_first (defines d) all (m + 1) ∙ ap (λ (o : Option ℕ). given o false (λ j. nat_lt j (m + 1))) e in
    omega (arith, ltb-true b (m + 1) (sym front ∙ any))

base_low_at : (all : List Declaration) (n : ℕ) (name : Name) (b : ℕ) → n < length all → defined all n name ≡ Some b → is_concrete_home (at all b).what ≡ true → b ≤ n
base_low_at all n name b lt e h = by (named all n name) (low_meaning all (n + 1) (at all n).path name) e
  where
    by : (o : Option ℕ) → Low (n + 1) o → option_and_then (definition all) o ≡ Some b → b ≤ n
    by None low same = absurd (cc)
    by (Some m) low same =
        let within : m < n + 1 = low m refl in
        let there : b < length all = omega (arith, found-lower (defines (at all m)) 0 all b same) in
        omega (arith, within, defined_low all m b (omega (arith, within, lt)) there same h)

abbrev first_home : List Declaration → ℕ → List Name → Option ℕ
first_home all n names = find (λ b. is_concrete_home (at all b).what) (flat_map (λ name. option_to_list (defined all n name)) names)

first_low : (all : List Declaration) (n : ℕ) (names : List Name) (b : ℕ) → n < length all → first_home all n names ≡ Some b → b ≤ n
first_low all n [] b lt e = absurd (cc)
first_low all n (name ∷ names) b lt e = by (defined all n name) (λ d s h. base_low_at all n name d lt s h) (first_low all n names b lt) e
  where
    by : (o : Option ℕ) → ((d : ℕ) → o ≡ Some d → is_concrete_home (at all d).what ≡ true → d ≤ n) → (first_home all n names ≡ Some b → b ≤ n)
        → find (λ b. is_concrete_home (at all b).what) (option_to_list o ++ flat_map (λ name. option_to_list (defined all n name)) names) ≡ Some b → b ≤ n
    by None here rest same = rest same
    by (Some d) here rest same =
        ⊎_elim
        (λ t. let is : d ≡ b = cc (sym (ap (λ v. cond v (Some d) (first_home all n names)) t) ∙ same) in omega (arith, here d refl t))
        (λ f. rest (sym (ap (λ v. cond v (Some d) (first_home all n names)) f) ∙ same))
        (cases_Bool (is_concrete_home (at all d).what))

pub base_low : (all : List Declaration) (n b : ℕ) → n < length all → base_home all n ≡ Some b → b ≤ n
base_low all n b lt e = first_low all n (bases (at all n).what) b lt e

-- ---- the first home of a family

base_itself : (all : List Declaration) (n : ℕ) → base_home all n ≡ Some n → (fuel : ℕ) → root_within fuel all n ≡ n
base_itself all n e zero = refl
base_itself all n e (suc fuel) = ap (λ (o : Option ℕ). given o n (λ b. root_within fuel all b)) e ∙ base_itself all n e fuel

no_base : (all : List Declaration) (n : ℕ) → base_home all n ≡ None → (fuel : ℕ) → root_within fuel all n ≡ n
no_base all n e zero = refl
no_base all n e (suc fuel) = ap (λ (o : Option ℕ). given o n (λ b. root_within fuel all b)) e

of_first : (all : List Declaration) → 0 < length all → (fuel : ℕ) → root_within fuel all 0 ≡ 0
of_first all lt fuel = by (base_home all 0) refl
  where
    by : (o : Option ℕ) → base_home all 0 ≡ o → root_within fuel all 0 ≡ 0
    by None e = no_base all 0 e fuel
    by (Some b) e = let same : b ≡ 0 = omega (arith, base_low all 0 b lt e) in base_itself all 0 (e ∙ ap (λ m. Some m) same) fuel

both_first : (all : List Declaration) (n f g : ℕ) → n ≡ 0 → n < length all → root_within f all n ≡ root_within g all n
both_first all n f g e lt = rw e (of_first all (omega (arith, e, lt)) f ∙ sym (of_first all (omega (arith, e, lt)) g))

under : (b n : ℕ) → b ≤ n → (b == n) ≡ false → b < n
under b n le e = grind arith

-- as many steps as there are numbers in front are enough
enough : (all : List Declaration) (most n f g : ℕ) → n ≤ most → n ≤ f → n ≤ g → n < length all → root_within f all n ≡ root_within g all n
enough all zero n f g le lf lg lt = both_first all n f g (omega (arith, le)) lt
enough all (suc most) n zero g le lf lg lt = both_first all n zero g (omega (arith, lf)) lt
enough all (suc most) n (suc f) zero le lf lg lt = both_first all n (suc f) zero (omega (arith, lg)) lt
enough all (suc most) n (suc f) (suc g) le lf lg lt = by (base_home all n) refl (λ b. enough all most b f g)
  where
    by : (o : Option ℕ) → base_home all n ≡ o → ((b : ℕ) → b ≤ most → b ≤ f → b ≤ g → b < length all → root_within f all b ≡ root_within g all b)
        → root_within (suc f) all n ≡ root_within (suc g) all n
    by None e rest = no_base all n e (suc f) ∙ sym (no_base all n e (suc g))
    by (Some b) e rest =
        let low : b ≤ n = base_low all n b lt e in
        ⊎_elim (λ t. let itself : base_home all n ≡ Some n = e ∙ ap (λ m. Some m) (eqb-true b n t) in base_itself all n itself (suc f) ∙ sym (base_itself all n itself (suc g)))
        (λ u.
        let less : b < n = under b n low u in
        ap (λ (o : Option ℕ). given o n (λ c. root_within f all c)) e ∙ rest b (omega (arith, less, le)) (omega (arith, less, lf)) (omega (arith, less, lg)) (omega (arith, less, lt))
        ∙ sym (ap (λ (o : Option ℕ). given o n (λ c. root_within g all c)) e))
        (cases_Bool (b == n))

pub family_is : (all : List Declaration) (n : ℕ) → n < length all → family all n ≡ given (base_home all n) n (λ b. family all b)
unfolding family
family_is all n lt = enough all n n (length all) (suc (length all)) (omega arith) (omega (arith, lt)) (omega (arith, lt)) lt

-- ---- in order

pub alone : (all : List Declaration) (n : ℕ) → n < length all → base_home all n ≡ None → n ≡ family all n
alone all n lt e = sym (family_is all n lt ∙ ap (λ (o : Option ℕ). given o n (λ b. family all b)) e)

-- the family of a base that stands in front
pub as_base : (all : List Declaration) (families : List ℕ) (n b r : ℕ) → n < length all → families ≡ families_before all n → base_home all n ≡ Some b → slice_get families b ≡ Some r → r ≡ family all n
as_base all families n b r lt so_far e got =
    let sized : length families ≡ n = ap (λ l. length l) so_far ∙ length-map-range_with_len (family all) 0 n in
    let within : b < n = omega (arith, sized, slice_get_within families b r got) in
    sym (get_or_from_slice_get families b r 0 got) ∙ ap (λ l. get_or l b 0) so_far ∙ get_or-map-range_with_len (family all) 0 n b b 0 within (omega arith)
    ∙ sym (family_is all n lt ∙ ap (λ (o : Option ℕ). given o n (λ c. family all c)) e)

-- a base that does not stand in front is the home itself
pub as_itself : (all : List Declaration) (families : List ℕ) (n b : ℕ) → n < length all → families ≡ families_before all n → base_home all n ≡ Some b → slice_get families b ≡ None → n ≡ family all n
unfolding family
as_itself all families n b lt so_far e got =
    let sized : length families ≡ n = ap (λ l. length l) so_far ∙ length-map-range_with_len (λ m. root_within (length all) all m) 0 n in
    let past : n ≤ b = ⊎_elim (λ t. absurd (cc (sym got ∙ slice_get-get_or families b 0 (omega (arith, sized, ltb-true b n t))))) (λ f. ltb-false b n f) (cases_Bool (nat_lt b n)) in
    let same : b ≡ n = omega (arith, past, base_low all n b lt e) in
    sym (base_itself all n (e ∙ ap (λ m. Some m) same) (length all))
