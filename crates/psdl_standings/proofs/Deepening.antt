-- How deep types nest, level by level.
use Rattle.std.proofs.Common.{◌≡◌, ℕ, suc, ◌+◌, List, [], ◌∷◌, ◌++◌, length, max, Option, Some, None, refl, sym, ap, ◌∙◌, arith}
use Rattle.std.specs.Prelude.{option_map}
use Rattle.std.specs.List.{flat_map}
use Rattle.psdl_tree.specs.Trees.{Name, TypeSpec, Declarator, Field as FieldTree, Struct as StructTree}
use Rattle.psdl_directory.specs.Declarations.{all_declarators}
use Rattle.psdl_directory.specs.Parts.{all_fields}
use Rattle.psdl_standings.specs.Standings.{all_there}
use Rattle.psdl_standings.specs.Nesting.{spec_nesting, declarator_nesting, field_nestings, deepest, struct_nesting}
use Rattle.psdl_standings.specs.inner.Measured.{cut}
use Rattle.psdl_standings.specs.inner.Levels.{raised, deeper, all_deep, dimensioned, field_depth}

-- ---- cut sums and maxima

cut_sum : (k n : ℕ) → cut (cut k + n) ≡ cut (k + n)
cut_sum k n = omega arith

cut_max : (a b : ℕ) → max (cut a) (cut b) ≡ cut (max a b)
cut_max a b = omega arith

pub raised_cut : (o : Option ℕ) (n : ℕ) → raised (option_map cut o) n ≡ option_map cut (option_map (λ k. k + n) o)
raised_cut None n = refl
raised_cut (Some k) n = ap Some (cut_sum k n)

pub next_cut : (o : Option ℕ) → raised (option_map cut o) 1 ≡ option_map cut (option_map (λ k. suc k) o)
next_cut None = refl
next_cut (Some k) = ap Some (cut_sum k 1 ∙ ap cut (omega arith))

-- ---- the deepest of several

deeper-assoc : (a b c : Option ℕ) → deeper (deeper a b) c ≡ deeper a (deeper b c)
deeper-assoc None b c = refl
deeper-assoc (Some a) None c = refl
deeper-assoc (Some a) (Some b) None = refl
deeper-assoc (Some a) (Some b) (Some c) = ap Some (omega arith)

deeper_none : (o : Option ℕ) → deeper o (Some 0) ≡ o
deeper_none None = refl
deeper_none (Some a) = ap Some (omega arith)

abbrev deepest_of : List (Option ℕ) → Option ℕ
deepest_of xs = option_map cut (option_map deepest (all_there xs))

cons_deep : (x : Option ℕ) (xs : List (Option ℕ)) → deepest_of (x ∷ xs) ≡ deeper (option_map cut x) (deepest_of xs)
cons_deep None xs = refl
cons_deep (Some a) xs = by (all_there xs)
  where
    by : (o : Option (List ℕ)) → option_map cut (option_map deepest (option_map (λ others. a ∷ others) o)) ≡ deeper (Some (cut a)) (option_map cut (option_map deepest o))
    by None = refl
    by (Some ks) = ap Some (sym (cut_max a (deepest ks)))

append_deep : (xs ys : List (Option ℕ)) → deepest_of (xs ++ ys) ≡ deeper (deepest_of xs) (deepest_of ys)
append_deep [] ys = by (option_map deepest (all_there ys))
  where
    by : (o : Option ℕ) → option_map cut o ≡ deeper (Some 0) (option_map cut o)
    by None = refl
    by (Some k) = ap Some (omega arith)
append_deep (x ∷ xs) ys =
    cons_deep x (xs ++ ys) ∙ ap (λ (o : Option ℕ). deeper (option_map cut x) o) (append_deep xs ys)
    ∙ sym (deeper-assoc (option_map cut x) (deepest_of xs) (deepest_of ys)) ∙ ap (λ (o : Option ℕ). deeper o (deepest_of ys)) (sym (cons_deep x xs))

parts_deep : {X : Type 0} (f : X → Option ℕ) (g : X → List (Option ℕ)) → ((x : X) → f x ≡ deepest_of (g x)) → (xs : List X) → all_deep f xs ≡ deepest_of (flat_map g xs)
parts_deep f g h [] = refl
parts_deep f g h (x ∷ xs) = rw (h x, parts_deep f g h xs) (sym (append_deep (g x) (flat_map g xs)))

declarator_deep : (names : Name → Option ℕ) (spec : TypeSpec) (d : Declarator) → dimensioned (option_map cut (spec_nesting names spec)) d ≡ deepest_of (declarator_nesting names spec d.dimensions ∷ [])
declarator_deep names spec d =
    raised_cut (spec_nesting names spec) (length d.dimensions) ∙ sym (deeper_none (option_map cut (declarator_nesting names spec d.dimensions))) ∙ sym (cons_deep (declarator_nesting names spec d.dimensions) [])

field_deep : (names : Name → Option ℕ) (field : FieldTree) → field_depth names field ≡ deepest_of (field_nestings names field)
field_deep names field =
    parts_deep (dimensioned (option_map cut (spec_nesting names field.spec))) (λ d. declarator_nesting names field.spec d.dimensions ∷ []) (declarator_deep names field.spec) (all_declarators field.declarators)

pub struct_depth : (names : Name → Option ℕ) (s : StructTree) (first others both r : Option ℕ) → first ≡ field_depth names s.first → others ≡ all_deep (field_depth names) s.others
    → both ≡ deeper first others → r ≡ raised both 1 → r ≡ option_map cut (struct_nesting names s)
struct_depth names s first others both r f o b is =
    let parts : List (Option ℕ) = flat_map (field_nestings names) (all_fields s) in
    is ∙ ap (λ (k : Option ℕ). raised k 1) (b ∙ rw (f, o) (parts_deep (field_depth names) (field_nestings names) (field_deep names) (all_fields s))) ∙ by (all_there parts)
  where
    by : (o : Option (List ℕ)) → raised (option_map cut (option_map deepest o)) 1 ≡ option_map cut (option_map (λ ks. suc (deepest ks)) o)
    by None = refl
    by (Some ks) = ap Some (cut_sum (deepest ks) 1 ∙ ap cut (omega arith))
