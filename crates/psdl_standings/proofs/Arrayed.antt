-- The dimensions of arrays, one by one.
use Rattle.std.proofs.Common.{◌≡◌, Box, Global, ℕ, ◌+◌, ◌<◌, List, [], ◌∷◌, ◌++◌, length, get_or, map, take, drop, Option, Some, None, refl, sym, ap, ◌∙◌}
use Rattle.psdl_tree.specs.declared.types.TypeSpec.TheOpen as open_spec
use Rattle.std.specs.Prelude.{IfSome, option_map}
use Rattle.std.specs.Option.{option_and_then, option_to_list}
use Rattle.std.proofs.lemmas.Grind.{flat_map-append}
use Rattle.std.proofs.lemmas.List.{drop_more, map-append}
use Rattle.psdl_tree.specs.declared.expressions.Expression.{Expression as ExpressionNode}
use Rattle.psdl_tree.specs.declared.types.TypeSpec.{TypeSpec as TypeSpecNode}
use Rattle.psdl_tree.specs.declared.types.TypeSpec.TheVariants as nodes
use Rattle.psdl_tree.specs.declared.types.TypeSpec.TheFolds.{fold-roll-TypeSpec}
use Rattle.psdl_tree.specs.Trees.{Name, Expression, TypeSpec, Sequence}
use Rattle.psdl_tree.specs.Views.{expression_view, type_spec_view, spec_step}
use Rattle.type_layout.specs.Schemas.{given}
use Rattle.type_layout.specs.Types.{PlainType, Seq}
use Rattle.psdl_standings.specs.declared.spot.Spot.{Spot}
use Rattle.psdl_standings.specs.declared.walk.Walk.{Walk}
use Rattle.psdl_standings.specs.Standings.{Standing, size_by, spec_by, arrays_by}
use Rattle.psdl_standings.specs.Uses.{Use, Bound, in_expression, in_expressions, in_spec, bounds_of, spec_bounds, most_items}
use Rattle.psdl_standings.specs.inner.TypeNodes.{Extends}
use Rattle.psdl_standings.specs.inner.TypeNumbers.{bound_by, sequence_of, array_of, arrays_of}
use Rattle.psdl_standings.specs.inner.TypeTables.{entry_type}
use Rattle.psdl_standings.specs.inner.Walked.{names_in, noted_in, AddsType, Adds, Finds}
use Rattle.psdl_standings.proofs.Goings.{adds_behind, goes_on, noted_on, names_same, take_one}
use Rattle.psdl_standings.proofs.Operands.{append_none}

-- ---- arrays from the last dimension on

pub array_more : (a b d : Walk) (sizes : List (Option ℕ)) (k i : ℕ) (n m item whole after : Option ℕ) → i ≡ k + 1 → k < length sizes → n ≡ get_or sizes k m → AddsType a b (arrays_of (drop i sizes) (entry_type a.types item)) whole
    → AddsType b d (array_of (entry_type b.types whole) n) after → AddsType a d (arrays_of (drop k sizes) (entry_type a.types item)) after
array_more a b d sizes k i n m item whole after next within at x y =
    let t : Option PlainType = entry_type a.types item in
    let front : drop k sizes ≡ n ∷ drop i sizes =
    drop_more sizes k m within ∙ ap (λ (j : ℕ). get_or sizes k m ∷ drop j sizes) (sym next) ∙ ap (λ (o : Option ℕ). o ∷ drop i sizes) (sym at) in
    record {
      goes = goes_on a b d x.goes y.goes;
      same = y.same ∙ x.same;
      there = y.there;
      is = y.is ∙ ap (λ (o : Option PlainType). array_of o n) x.is ∙ ap (λ (l : List (Option ℕ)). arrays_of l t) (sym front);
    }

array_by : (names : Name → Standing) (e : Expression) (es : List Expression) (o : Option PlainType) → array_of (option_and_then (arrays_by names es) o) (size_by names e) ≡ option_and_then (arrays_by names (e ∷ es)) o
array_by names e es None = refl
array_by names e es (Some t) = refl

-- by the sizes as by the dimensions
pub arrays_by_sizes : (names : Name → Standing) (es : List Expression) (o : Option PlainType) → arrays_of (map (size_by names) es) o ≡ option_and_then (arrays_by names es) o
arrays_by_sizes names [] None = refl
arrays_by_sizes names [] (Some t) = refl
arrays_by_sizes names (e ∷ es) o = ap (λ (t : Option PlainType). array_of t (size_by names e)) (arrays_by_sizes names es o) ∙ array_by names e es o

-- ---- sizes

module _ (spot : Spot) (most : ℕ) where
  abbrev SizesTo : Walk → Walk → List Expression → List (Option ℕ) → Type 0
  SizesTo a b es sizes = Finds a b spot (in_expressions spot.limit es) (bounds_of spot.limit most es) (map (size_by (names_in a spot)) es) sizes

  one_size : (a b d : Walk) (es : List Expression) (e : Expression) (sizes more : List (Option ℕ)) (size : Option ℕ) → SizesTo a b es sizes
      → Finds b d spot (in_expression spot.limit e) (bounds_of spot.limit most (e ∷ [])) (size_by (names_in b spot) e) size → more ≡ sizes ++ size ∷ [] → SizesTo a d (es ++ e ∷ []) more
  one_size a b d es e sizes more size x y pushed =
      let names : in_expressions spot.limit (es ++ e ∷ []) ≡ in_expressions spot.limit es ++ in_expression spot.limit e =
      flat_map-append (in_expression spot.limit) es (e ∷ []) ∙ ap (λ (l : List Use). in_expressions spot.limit es ++ l) (append_none (in_expression spot.limit e)) in
      let bounds : bounds_of spot.limit most (es ++ e ∷ []) ≡ bounds_of spot.limit most es ++ bounds_of spot.limit most (e ∷ []) =
      map-append (λ (v : Expression). record { limit = spot.limit; most = most; value = v }) es (e ∷ []) in
      record {
        goes = goes_on a b d x.goes y.goes;
        noted =
            noted_on a b spot (in_expressions spot.limit es) (in_expression spot.limit e) (bounds_of spot.limit most es) (bounds_of spot.limit most (e ∷ [])) d.faults x.goes x.noted y.noted
            ∙ ap (λ (us : List Use). noted_in a spot us (bounds_of spot.limit most es ++ bounds_of spot.limit most (e ∷ []))) (sym names)
            ∙ ap (λ (bs : List Bound). noted_in a spot (in_expressions spot.limit (es ++ e ∷ [])) bs) (sym bounds);
        is =
            pushed
            ∙ ap (λ (l : List (Option ℕ)). l ++ size ∷ []) x.is
            ∙ ap (λ (o : Option ℕ). map (size_by (names_in a spot)) es ++ o ∷ []) (y.is ∙ ap (λ (f : Name → Standing). size_by f e) (names_same a b spot x.goes))
            ∙ sym (map-append (size_by (names_in a spot)) es (e ∷ []));
      }

  pub sizes_more : (a b d : Walk) (ds : List ExpressionNode) (i : ℕ) (v : ExpressionNode) (sizes more : List (Option ℕ)) (size : Option ℕ) → i < length ds → v ≡ get_or ds i v → SizesTo a b (map expression_view (take i ds)) sizes
      → Finds b d spot (in_expression spot.limit (expression_view v)) (bounds_of spot.limit most (expression_view v ∷ [])) (size_by (names_in b spot) (expression_view v)) size → more ≡ sizes ++ size ∷ []
      → SizesTo a d (map expression_view (take (i + 1) ds)) more
  sizes_more a b d ds i v sizes more size lt at x y pushed =
      let e : map expression_view (take (i + 1) ds) ≡ map expression_view (take i ds) ++ expression_view v ∷ [] =
      ap (λ (l : List ExpressionNode). map expression_view l) (take_one ds i v lt at) ∙ map-append expression_view (take i ds) (v ∷ []) in
      rw e (one_size a b d (map expression_view (take i ds)) (expression_view v) sizes more size x y pushed)

-- ---- the whole

pub type_more : (old new : List PlainType) (o : Option ℕ) → Extends old new → IfSome o (λ n. n < length old) → entry_type new o ≡ entry_type old o
type_more old new None x there = refl
type_more old new (Some n) x there = ap (λ (t : PlainType). Some t) (x n there).1

pub there_more : (old new : List PlainType) (o : Option ℕ) → Extends old new → IfSome o (λ n. n < length old) → IfSome o (λ n. n < length new)
there_more old new None x there = there
there_more old new (Some n) x there = (x n there).0

pub arrays_behind : (a b d : Walk) (spot : Spot) (us : List Use) (bs : List Bound) (es : List Expression) (sizes : List (Option ℕ)) (item number : Option ℕ) → IfSome item (λ n. n < length a.types) → Finds a b spot us bs (map (size_by (names_in a spot)) es) sizes
    → AddsType b d (arrays_of sizes (entry_type b.types item)) number → Adds a d spot us bs (option_and_then (arrays_by (names_in a spot) es) (entry_type a.types item)) number
arrays_behind a b d spot us bs es sizes item number there x y =
    adds_behind a b d spot us bs (option_and_then (arrays_by (names_in a spot) es) (entry_type a.types item)) number x.goes x.noted
    (record {
      goes = y.goes;
      same = y.same;
      there = y.there;
      is =
          y.is
          ∙ ap (λ (l : List (Option ℕ)). arrays_of l (entry_type b.types item)) x.is
          ∙ ap (λ (t : Option PlainType). arrays_of (map (size_by (names_in a spot)) es) t) (type_more a.types b.types item x.goes.types there)
          ∙ arrays_by_sizes (names_in a spot) es (entry_type a.types item);
    })

sequence_by : (names : Name → Standing) (item : TypeSpec) (bound : Option Expression) → sequence_of (spec_by names item) (bound_by names bound) ≡ spec_by names (Sequence item bound)
sequence_by names item None = by (spec_by names item)
  where
    by : (o : Option PlainType) → given o None (λ t. option_map (Seq t) (Some 0)) ≡ option_map (λ t. Seq t 0) o
    by None = refl
    by (Some t) = refl
sequence_by names item (Some e) = refl

pub sequence_behind : (a b d e : Walk) (spot : Spot) (item : TypeSpec) (bound : Option Expression) (n most number : Option ℕ) → Adds a b spot (in_spec spot.limit item) (spec_bounds spot.limit item) (spec_by (names_in a spot) item) n
    → Finds b d spot (in_expressions spot.limit (option_to_list bound)) (bounds_of spot.limit most_items (option_to_list bound)) (bound_by (names_in b spot) bound) most → AddsType d e (sequence_of (entry_type d.types n) most) number
    → Adds a e spot (in_spec spot.limit (Sequence item bound)) (spec_bounds spot.limit (Sequence item bound)) (spec_by (names_in a spot) (Sequence item bound)) number
sequence_behind a b d e spot item bound n most number x y z =
    adds_behind a d e spot (in_spec spot.limit (Sequence item bound)) (spec_bounds spot.limit (Sequence item bound)) (spec_by (names_in a spot) (Sequence item bound)) number (goes_on a b d x.goes y.goes)
    (noted_on a b spot (in_spec spot.limit item) (in_expressions spot.limit (option_to_list bound)) (spec_bounds spot.limit item) (bounds_of spot.limit most_items (option_to_list bound)) d.faults x.goes x.noted y.noted)
    (record {
      goes = z.goes;
      same = z.same;
      there = z.there;
      is =
          z.is
          ∙ ap (λ (t : Option PlainType). sequence_of t most) (type_more b.types d.types n y.goes.types x.there ∙ x.is)
          ∙ ap (λ (m : Option ℕ). sequence_of (spec_by (names_in a spot) item) m) (y.is ∙ ap (λ (f : Name → Standing). bound_by f bound) (names_same a b spot x.goes))
          ∙ sequence_by (names_in a spot) item bound;
    })

pub sequence_view : (item : Box TypeSpecNode Global) (bound : Option ExpressionNode) → type_spec_view (nodes.Sequence item bound) ≡ Sequence (type_spec_view item.value) (option_map expression_view bound)
sequence_view item bound = ap type_spec_view (sym (nodes.rolls-Sequence item bound)) ∙ fold-roll-TypeSpec TypeSpec spec_step (open_spec.Sequence item bound)

pub sequence_walked : (a b d e : Walk) (spot : Spot) (x inner : TypeSpecNode) (item : Box TypeSpecNode Global) (bound : Option ExpressionNode) (n most number : Option ℕ) → x ≡ nodes.Sequence item bound → inner ≡ item.value
    → Adds a b spot (in_spec spot.limit (type_spec_view inner)) (spec_bounds spot.limit (type_spec_view inner)) (spec_by (names_in a spot) (type_spec_view inner)) n
    → Finds b d spot (in_expressions spot.limit (option_to_list (option_map expression_view bound))) (bounds_of spot.limit most_items (option_to_list (option_map expression_view bound))) (bound_by (names_in b spot) (option_map expression_view bound)) most
    → AddsType d e (sequence_of (entry_type d.types n) most) number → Adds a e spot (in_spec spot.limit (type_spec_view x)) (spec_bounds spot.limit (type_spec_view x)) (spec_by (names_in a spot) (type_spec_view x)) number
sequence_walked a b d e spot x inner item bound n most number is is_inner p q r =
    let view : type_spec_view x ≡ Sequence (type_spec_view inner) (option_map expression_view bound) =
    ap type_spec_view is ∙ sequence_view item bound ∙ ap (λ (i : TypeSpecNode). Sequence (type_spec_view i) (option_map expression_view bound)) (sym is_inner) in
    rw view (sequence_behind a b d e spot (type_spec_view inner) (option_map expression_view bound) n most number p q r)
