-- In a text without a fault no name is declared twice in a scope, and lists in which no two are alike.
use Rattle.std.proofs.Common.{◌≡◌, ℕ, suc, ◌<◌, List, [], ◌∷◌, length, take, get_or, Bool, true, false, not, ◌&&◌, ◌||◌, Some, None, refl, sym, ap, ◌∙◌, arith, ⊎_elim}
use Rattle.std.specs.List.{slice_get, list_any}
use Rattle.std.specs.Str.{bytes_eq}
use Rattle.std.proofs.lemmas.Bool.{and_from, or_from, cases_Bool}
use Rattle.std.proofs.lemmas.List.{length-take-le, get_or-take}
use Rattle.std.proofs.lemmas.List.Folds.{list_any_at}
use Rattle.std.proofs.lemmas.Slice.Eq.{bytes_eq-Decides}
use Rattle.type_layout.specs.Sound.{are_distinct}
use Rattle.psdl_directory.specs.declared.fault.CheckKind.TheVariants.{Redefined}
use Rattle.psdl_directory.specs.Declarations.{Declaration}
use Rattle.psdl_check.specs.Faults.{first_fault}
use Rattle.psdl_directory.specs.Lookup.{lower, at, nothing, same_path, is_named}
use Rattle.psdl_directory.specs.Parts.{is_module, is_forward, same_kind}
use Rattle.psdl_rules.specs.Faults.Redefined.{is_again, takes_name_of}
use Rattle.psdl_directory.proofs.Agreeing.{same_path-Decides}
use Rattle.psdl_check.proofs.FaultlessTexts.{does_not_hold, no_fault_at}

-- ---- names of a scope

untaken : (all : List Declaration) → first_fault all ≡ None → (p q : ℕ) → p < q → q < length all → takes_name_of (at all q) (at all p) ≡ false
untaken all none p q lt inside =
    let off : list_any (takes_name_of (at all q)) (take q all) ≡ false = does_not_hold (list_any (takes_name_of (at all q)) (take q all)) Redefined (at all q).place (no_fault_at all none q inside).no_redefined in
    let len : length (take q all) ≡ q = length-take-le q all (omega (arith, inside)) in
    let here : get_or (take q all) p nothing ≡ at all p = get_or-take q all p nothing lt in
    ⊎_elim
    (λ on.
    let some : list_any (takes_name_of (at all q)) (take q all) ≡ true =
    list_any_at (takes_name_of (at all q)) (take q all) p nothing (omega (arith, len, lt)) (ap (takes_name_of (at all q)) here ∙ on) in
    let both : true ≡ false = sym some ∙ off in
    absurd (cc))
    (λ e. e)
    (cases_Bool (takes_name_of (at all q) (at all p)))

bound : (n k m f g : Bool) → m ≡ false → f ≡ false → g ≡ false → n && k && (m || f || g) ≡ false
bound true true false false false p q e = refl
bound true false m f g p q e = refl
bound false k m f g p q e = refl
bound true true true f g p q e = absurd (cc)
bound true true false true g p q e = absurd (cc)
bound true true false false true p q e = absurd (cc)

-- of two declarations of one name and scope that are neither modules nor forward there are none
pub declared_once : (all : List Declaration) → first_fault all ≡ None → (p q : ℕ) → p < q → q < length all → is_module (at all q).what ≡ false → is_forward (at all q).what ≡ false → is_forward (at all p).what ≡ false
    → (at all q).path ≡ (at all p).path → (at all q).name ≡ (at all p).name → ⊥
declared_once all none p q lt inside module_off off_q off_p paths names =
    let d : Declaration = at all q in
    let e : Declaration = at all p in
    let alike : is_named lower d.path d.name e ≡ true =
    and_from (same_path d.path e.path) (bytes_eq (lower d.name) (lower e.name)) ((same_path-Decides d.path e.path).1 paths) ((bytes_eq-Decides (lower d.name) (lower e.name)).1 (ap lower names)) in
    let once : is_again d e ≡ false = bound (bytes_eq d.name e.name) (same_kind d.what e.what) (is_module d.what) (is_forward d.what) (is_forward e.what) module_off off_q off_p in
    let taken : takes_name_of d e ≡ true = and_from (is_named lower d.path d.name e) (not (is_again d e)) alike (ap not once) in
    let both : true ≡ false = sym taken ∙ untaken all none p q lt inside in
    cc

-- ---- lists in which no two are alike

none_of : {X : Type 0} (test : X → Bool) (xs : List X) → ((i : ℕ) (x : X) → slice_get xs i ≡ Some x → test x ≡ false) → list_any test xs ≡ false
none_of test [] off = refl
none_of test (x ∷ xs) off = or_from (test x) (list_any test xs) (off 0 x refl) (none_of test xs (λ i y is. off (suc i) y is))

-- by their places
pub distinct_by : {X : Type 0} (same : X → X → Bool) (xs : List X) → ((i j : ℕ) (x y : X) → i < j → slice_get xs i ≡ Some x → slice_get xs j ≡ Some y → same x y ≡ false) → are_distinct same xs ≡ true
distinct_by same [] off = refl
distinct_by same (x ∷ xs) off =
    and_from (not (list_any (same x) xs)) (are_distinct same xs) (ap not (none_of (same x) xs (λ i y is. off 0 (suc i) x y (omega arith) refl is)))
    (distinct_by same xs (λ i j y z lt a b. off (suc i) (suc j) y z (omega (arith, lt)) a b))

-- names of which no two are equal
pub names_distinct : (xs : List (List ℕ)) → ((i j : ℕ) (x y : List ℕ) → i < j → slice_get xs i ≡ Some x → slice_get xs j ≡ Some y → x ≡ y → ⊥) → are_distinct bytes_eq xs ≡ true
names_distinct xs differ =
    distinct_by bytes_eq xs
    (λ i j x y lt a b. ⊎_elim (λ same. absurd (differ i j x y lt a b ((bytes_eq-Decides x y).0 same))) (λ off. off) (cases_Bool (bytes_eq x y)))
