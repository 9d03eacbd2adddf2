-- What headers tell of the definitions that names mean.
use Rattle.std.proofs.Common.{◌≡◌, ℕ, zero, suc, ◌+◌, ◌<◌, ◌≤◌, List, [], ◌∷◌, ◌++◌, length, get_or, map, filter, Option, Some, None, refl, sym, ap, ◌∙◌, arith, Bool, true, false, nat_lt}
use Rattle.std.specs.List.{flat_map, find}
use Rattle.std.specs.Option.{option_to_list, option_map, option_and_then}
use Rattle.std.specs.declared.vec.Vec.{Vec}
use Rattle.std.proofs.lemmas.List.{map-append, get_or_past}
use Rattle.std.proofs.lemmas.List.FromFn.{get_or-map-range_with_len, length-map-range_with_len}
use Rattle.psdl_tree.specs.Trees.{Name}
use Rattle.psdl_directory.specs.declared.uses.Use.{Use}
use Rattle.std.proofs.lemmas.Bool.{ltb-true, ltb-false}
use Rattle.std.proofs.lemmas.Grind.{common_steps, flat_map-append}
use Rattle.std.proofs.lemmas.List.Elements.{filter-append}
use Rattle.psdl_directory.specs.Declarations.{Declaration}
use Rattle.psdl_directory.specs.Parts.{is_storage_type, is_concrete_home, parents, bases, implemented, managed}
use Rattle.psdl_directory.specs.Lookup.{at, nothing, defined}
use Rattle.psdl_directory.specs.Headers.{used, Header, header, headers}
use Rattle.psdl_lineage.specs.Descent.{same_sort, definitions_of, type_of_home, base_home, family, provider}
use Rattle.psdl_lineage.specs.inner.Families.{families_before}
use Rattle.psdl_lineage.specs.inner.Providing.{AreProviders}
use Rattle.psdl_lineage.specs.Graph.{rows_before}
use Rattle.psdl_lineage.specs.inner.Rows.{rows_of}
use Rattle.psdl_lineage.specs.inner.Meant.{meant_by, defined_by, of_uses}
use Rattle.psdl_lineage.proofs.Texts.{one_row_more}

pub meant_are : (all : List Declaration) (n : ℕ) (names : List Name) → meant_by (map (used all (n + 1) n) names) ≡ flat_map (λ name. option_to_list (defined all n name)) names
meant_are all n [] = refl
meant_are all n (name ∷ names) = ap (λ l. option_to_list (defined all n name) ++ l) (meant_are all n names)

pub uses_are : (all : List Declaration) (n : ℕ) (names : List Name) → of_uses all n (map (used all (n + 1) n) names) ≡ definitions_of all n names
uses_are all n names = ap (λ l. filter (λ p. same_sort (at all n).what (at all p).what) l) (meant_are all n names)

pub header_at : (all : List Declaration) (hs : List Header) (i : ℕ) (d : Header) → hs ≡ headers all → i < length hs → get_or hs i d ≡ header all i
header_at all hs i d e lt =
    let sized : length hs ≡ length all = ap (λ l. length l) e ∙ length-map-range_with_len (header all) 0 (length all) in
    ap (λ l. get_or l i d) e ∙ get_or-map-range_with_len (header all) 0 (length all) i i d (omega (arith, sized, lt)) (omega arith)

pub as_many : (all : List Declaration) (hs : List Header) → hs ≡ headers all → length hs ≡ length all
as_many all hs e = ap (λ l. length l) e ∙ length-map-range_with_len (header all) 0 (length all)

pub row_is : (all : List Declaration) (n : ℕ) (h : Header) (row : List ℕ) → h ≡ header all n → row ≡ of_uses all n (h.bases ++ h.implemented) → row ≡ definitions_of all n (parents (at all n).what)
row_is all n h row same e =
    e ∙ ap (λ (x : Header). of_uses all n (x.bases ++ x.implemented)) same
    ∙ ap (λ l. of_uses all n l) (sym (map-append (used all (n + 1) n) (bases (at all n).what) (implemented (at all n).what)))
    ∙ uses_are all n (parents (at all n).what)

pub row_more : {Z : Type 0} (all : List Declaration) (rows : List (Vec ℕ Z)) (row : Vec ℕ Z) (more : List (Vec ℕ Z)) (i : ℕ)
    → more ≡ rows ++ row ∷ [] → rows_of rows ≡ rows_before all i → row.items ≡ definitions_of all i (parents (at all i).what) → rows_of more ≡ rows_before all (i + 1)
row_more {Z} all rows row more i push so_far is =
    ap (λ (l : List (Vec ℕ Z)). rows_of l) push
    ∙ map-append (λ (v : Vec ℕ Z). v.items) rows (row ∷ [])
    ∙ ap (λ (l : List (List ℕ)). l ++ row.items ∷ []) so_far
    ∙ ap (λ (l : List ℕ). rows_before all i ++ l ∷ []) is
    ∙ sym (one_row_more all i)

-- ---- homes by their headers

pub managed_is : (all : List Declaration) (n : ℕ) → defined_by (header all n).managed ≡ option_and_then (defined all n) (managed (at all n).what)
managed_is all n = by (managed (at all n).what)
  where
    by : (o : Option Name) → defined_by (option_map (used all (n + 1) n) o) ≡ option_and_then (defined all n) o
    by None = refl
    by (Some name) = refl

pub type_is : (all : List Declaration) (n : ℕ) (h : Header) (r : Option ℕ) → h ≡ header all n → r ≡ find (λ t. is_storage_type (at all t).what) (option_to_list (defined_by h.managed)) → r ≡ type_of_home all n
type_is all n h r same e =
    e ∙ ap (λ (x : Header). find (λ t. is_storage_type (at all t).what) (option_to_list (defined_by x.managed))) same
    ∙ ap (λ o. find (λ t. is_storage_type (at all t).what) (option_to_list o)) (managed_is all n)

pub base_is : (all : List Declaration) (n : ℕ) (h : Header) (r : Option ℕ) → h ≡ header all n → r ≡ find (λ b. is_concrete_home (at all b).what) (meant_by h.bases) → r ≡ base_home all n
base_is all n h r same e =
    e ∙ ap (λ (x : Header). find (λ b. is_concrete_home (at all b).what) (meant_by x.bases)) same
    ∙ ap (λ l. find (λ b. is_concrete_home (at all b).what) l) (meant_are all n (bases (at all n).what))

pub no_type : (all : List Declaration) (n : ℕ) → length all ≤ n → None ≡ type_of_home all n
no_type all n past = sym (ap (λ (d : Declaration). find (λ t. is_storage_type (at all t).what) (option_to_list (option_and_then (defined all n) (managed d.what)))) (get_or_past all n nothing past))

pub no_base : (all : List Declaration) (n : ℕ) → length all ≤ n → None ≡ base_home all n
no_base all n past = sym (ap (λ (d : Declaration). find (λ b. is_concrete_home (at all b).what) (flat_map (λ name. option_to_list (defined all n name)) (bases d.what))) (get_or_past all n nothing past))

-- ---- what is looked up by number

pub header_got : (all : List Declaration) (hs : List Header) (n i : ℕ) (h : Header) → hs ≡ headers all → i ≡ n → true ≡ nat_lt i (length hs) → h ≡ get_or hs i h → h ≡ header all n
header_got all hs n i h e same there got = got ∙ header_at all hs i h e (ltb-true i (length hs) (sym there)) ∙ ap (λ k. header all k) same

pub header_none : (all : List Declaration) (hs : List Header) (n i : ℕ) → hs ≡ headers all → i ≡ n → false ≡ nat_lt i (length hs) → length all ≤ n
header_none all hs n i e same none = omega (arith, as_many all hs e, ltb-false i (length hs) (sym none), same)

pub family_got : (all : List Declaration) (fs : List ℕ) (n i f : ℕ) → fs ≡ families_before all (length all) → i ≡ n → f ≡ get_or fs i f → n < length all → f ≡ family all n
family_got all fs n i f e same got lt =
    got ∙ ap (λ k. get_or fs k f) same ∙ ap (λ l. get_or l n f) e ∙ get_or-map-range_with_len (family all) 0 (length all) n n f lt (omega arith)

pub family_there : (all : List Declaration) (fs : List ℕ) (n i : ℕ) → fs ≡ families_before all (length all) → i ≡ n → false ≡ nat_lt i (length fs) → n < length all → ⊥
family_there all fs n i e same none lt =
    omega (arith, ltb-false i (length fs) (sym none), same, ap (λ l. length l) e, length-map-range_with_len (family all) 0 (length all), lt)

get_there : (xs : List (Option ℕ)) (n : ℕ) (d e : Option ℕ) → n < length xs → get_or xs n d ≡ get_or xs n e
get_there [] n d e lt = absurd (omega (arith, lt))
get_there (x ∷ xs) zero d e lt = refl
get_there (x ∷ xs) (suc n) d e lt = get_there xs n d e (omega (arith, lt))

pub provider_got : (all : List Declaration) (ps : List (Option ℕ)) (n i : ℕ) (p : Option ℕ) → AreProviders all ps → i ≡ n → p ≡ get_or ps i p → n < length all → p ≡ provider all n
provider_got all ps n i p are same got lt =
    got ∙ ap (λ k. get_or ps k p) same ∙ get_there ps n p None (omega (arith, lt, are.sized)) ∙ are.each n lt

pub provider_there : (all : List Declaration) (ps : List (Option ℕ)) (n i : ℕ) → AreProviders all ps → i ≡ n → false ≡ nat_lt i (length ps) → n < length all → ⊥
provider_there all ps n i are same none lt = omega (arith, ltb-false i (length ps) (sym none), same, are.sized, lt)

pub uses_append : (all : List Declaration) (n : ℕ) (xs ys : List Use) → of_uses all n (xs ++ ys) ≡ of_uses all n xs ++ of_uses all n ys
uses_append all n xs ys =
    let test : ℕ → Bool = λ p. same_sort (at all n).what (at all p).what in
    ap (λ l. filter test l) (flat_map-append (λ (u : Use). option_to_list u.defined) xs ys) ∙ filter-append test (meant_by xs) (meant_by ys)

pub ruleset by_uses = (common_steps, uses_append)
