-- Descent in a text is descent over the numbers alone.
use Rattle.std.proofs.Common.{◌≡◌, ℕ, zero, suc, ◌+◌, ◌≤◌, ◌<◌, List, [], ◌∷◌, ◌++◌, Bool, not, ◌==◌, length, filter, map, add-one, subst, refl, sym, ap, ◌∙◌, arith, ⊎_elim, ◌⊎◌, inl, inr, Option, Some, None, true, false, cond, ◌||◌}
use Rattle.std.specs.List.{flat_map, position_from, range_with_len}
use Rattle.std.specs.Option.{option_and_then, option_to_list}
use Rattle.std.proofs.Math.Dec.{ltb}
use Rattle.std.proofs.lemmas.List.{get_or_past, map-append}
use Rattle.std.proofs.lemmas.List.FromFn.{get_or-map-range_with_len, length-map-range_with_len}
use Rattle.std.proofs.lemmas.Bool.{cases_Bool, ltb-true, ltb-false, eqb-true}
use Rattle.psdl_tree.specs.Trees.{Name}
use Rattle.psdl_directory.specs.Declarations.{Declaration}
use Rattle.psdl_directory.specs.Parts.{parents}
use Rattle.psdl_directory.specs.Lookup.{at, nothing, named, defines, definition, defined}
use Rattle.psdl_lineage.specs.Descent.{has, same_sort, definitions_of, lines, ancestry, conforms}
use Rattle.psdl_lineage.specs.Graph.{parents_in, lines_in, ancestry_in, conforms_in, rows_before, graph_of, IsGraph}
use Rattle.psdl_lineage.proofs.Repeats.{once, has-append, has_kept}

flat_map_same : (f g : ℕ → List ℕ) → ((n : ℕ) → f n ≡ g n) → (xs : List ℕ) → flat_map f xs ≡ flat_map g xs
flat_map_same f g h [] = refl
flat_map_same f g h (x ∷ xs) = ap (λ l. l ++ flat_map f xs) (h x) ∙ ap (λ l. g x ++ l) (flat_map_same f g h xs)

pub length-graph_of : (all : List Declaration) → length (graph_of all) ≡ length all
unfolding graph_of
length-graph_of all = length-map-range_with_len (λ n. definitions_of all n (parents (at all n).what)) 0 (length all)

pub parents_at : (all : List Declaration) (n : ℕ) → n < length all → parents_in (graph_of all) n ≡ definitions_of all n (parents (at all n).what)
unfolding graph_of
parents_at all n lt = get_or-map-range_with_len (λ m. definitions_of all m (parents (at all m).what)) 0 (length all) n n [] lt (omega arith)

none_past : (all : List Declaration) (n : ℕ) → length all ≤ n → parents_in (graph_of all) n ≡ definitions_of all n (parents (at all n).what)
none_past all n past =
    get_or_past (graph_of all) n [] (omega (arith, length-graph_of all))
    ∙ sym (ap (λ d. definitions_of all n (parents d.what)) (get_or_past all n nothing past))

within_or_past : (n m : ℕ) → (n < m) ⊎ (m ≤ n)
within_or_past n m = ⊎_elim (λ t. inl (ltb-true n m t)) (λ f. inr (ltb-false n m f)) (cases_Bool (ltb n m))

pub parents_are : (all : List Declaration) (n : ℕ) → parents_in (graph_of all) n ≡ definitions_of all n (parents (at all n).what)
parents_are all n = ⊎_elim (λ lt. parents_at all n lt) (λ past. none_past all n past) (within_or_past n (length all))

pub lines_are : (fuel : ℕ) (all : List Declaration) (way : List ℕ) (n : ℕ) → lines fuel all way n ≡ lines_in fuel (graph_of all) way n
lines_are zero all way n = refl
lines_are (suc fuel) all way n =
    let f : ℕ → List ℕ = λ p. lines fuel all (p ∷ way) p in
    let g : ℕ → List ℕ = λ p. lines_in fuel (graph_of all) (p ∷ way) p in
    ap (λ l. once (l ++ n ∷ []))
    (flat_map_same f g (λ p. lines_are fuel all (p ∷ way) p) (filter (λ p. not (has way p)) (definitions_of all n (parents (at all n).what)))
    ∙ ap (λ ps. flat_map g (filter (λ p. not (has way p)) ps)) (sym (parents_are all n)))

pub ancestry_is : (all : List Declaration) (n : ℕ) → ancestry all n ≡ ancestry_in (graph_of all) n
unfolding ancestry ancestry_in
ancestry_is all n =
    lines_are (length all) all (n ∷ []) n ∙ ap (λ fuel. lines_in fuel (graph_of all) (n ∷ []) n) (sym (length-graph_of all))

pub conforms_is : (all : List Declaration) (t u : ℕ) → conforms all t u ≡ conforms_in (graph_of all) t u
conforms_is all t u = ap (λ l. has l u) (ancestry_is all t)

-- ---- each that is named is a declaration

has_one : (x n : ℕ) → has (x ∷ []) n ≡ true → x ≡ n
has_one x n h = ⊎_elim (λ t. eqb-true x n t) (λ f. absurd (cc (ap (λ v. v || false) f))) (cases_Bool (x == n))

position_below : (test : Declaration → Bool) (i : ℕ) (all : List Declaration) (p : ℕ) → position_from test i all ≡ Some p → p < i + length all
position_below test i [] p h = absurd (cc)
position_below test i (d ∷ all) p h =
    ⊎_elim
    (λ t. let same : i ≡ p = cc (sym (ap (λ v. cond v (Some i) (position_from test (i + 1) all)) t) ∙ h) in omega arith)
    (λ f. omega (arith, position_below test (i + 1) all p (sym (ap (λ v. cond v (Some i) (position_from test (i + 1) all)) f) ∙ h)))
    (cases_Bool (test d))

found_below : (all : List Declaration) (o : Option ℕ) (p : ℕ) → has (option_to_list (option_and_then (definition all) o)) p ≡ true → p < length all
found_below all None p h = absurd (cc)
found_below all (Some q) p h = of_definition (definition all q) refl
  where
    of_definition : (o : Option ℕ) → definition all q ≡ o → p < length all
    of_definition None e = absurd (cc (ap (λ r. has (option_to_list r) p) e))
    of_definition (Some m) e =
        let same : m ≡ p = has_one m p (sym (ap (λ r. has (option_to_list r) p) e) ∙ h) in
        omega (arith, position_below (defines (at all q)) 0 all m e)

names_below : (all : List Declaration) (n : ℕ) (names : List Name) (p : ℕ) → has (flat_map (λ name. option_to_list (defined all n name)) names) p ≡ true → p < length all
names_below all n [] p h = absurd (cc)
names_below all n (name ∷ names) p h =
    let here : List ℕ = option_to_list (defined all n name) in
    let rest : List ℕ = flat_map (λ m. option_to_list (defined all n m)) names in
    ⊎_elim (λ t. found_below all (named all n name) p t)
    (λ f. names_below all n names p (sym (ap (λ v. v || has rest p) f) ∙ sym (has-append here rest p) ∙ h))
    (cases_Bool (has here p))

pub is_graph : (all : List Declaration) → IsGraph (graph_of all)
is_graph all n p h =
    let names : List Name = parents (at all n).what in
    let ps : List ℕ = flat_map (λ name. option_to_list (defined all n name)) names in
    let there : has (definitions_of all n names) p ≡ true = sym (ap (λ l. has l p) (parents_are all n)) ∙ h in
    omega (arith, names_below all n names p (has_kept (λ q. same_sort (at all n).what (at all q).what) ps p there), length-graph_of all)

-- ---- row by row

pub range_more : (a n : ℕ) → range_with_len a (n + 1) ≡ range_with_len a n ++ (a + n) ∷ []
range_more a n = rw (add-one n) (range_next a n)
  where
    range_next : (a n : ℕ) → range_with_len a (suc n) ≡ range_with_len a n ++ (a + n) ∷ []
    range_next a zero = let e : a + 0 ≡ a = omega arith in rw e refl
    range_next a (suc n) = let e : a + suc n ≡ a + 1 + n = omega arith in rw e (ap (λ l. a ∷ l) (range_next (a + 1) n))

pub one_row_more : (all : List Declaration) (i : ℕ) → rows_before all (i + 1) ≡ rows_before all i ++ definitions_of all i (parents (at all i).what) ∷ []
one_row_more all i =
    let f : ℕ → List ℕ = λ n. definitions_of all n (parents (at all n).what) in
    let e : 0 + i ≡ i = omega arith in
    ap (λ l. map f l) (range_more 0 i) ∙ map-append f (range_with_len 0 i) ((0 + i) ∷ []) ∙ ap (λ n. map f (range_with_len 0 i) ++ f n ∷ []) e

pub all_rows : (all : List Declaration) (rows : List (List ℕ)) → rows ≡ rows_before all (length all) → rows ≡ graph_of all
unfolding graph_of
all_rows all rows e = e

pub are_graph : (all : List Declaration) (rows : List (List ℕ)) → rows ≡ graph_of all → IsGraph rows
are_graph all rows e = subst IsGraph (sym e) (is_graph all)
