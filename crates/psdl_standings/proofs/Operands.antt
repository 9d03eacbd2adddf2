-- The operands of a level of operators, one part behind the other, and what is noted of them.
use Rattle.std.proofs.Common.{◌≡◌, ℕ, suc, ◌+◌, ◌<◌, ◌≤◌, List, [], ◌∷◌, ◌++◌, length, get_or, map, drop, refl, sym, ap, ◌∙◌, add-one, drop-cons}
use Rattle.std.specs.List.{flat_map}
use Rattle.std.proofs.lemmas.List.{drop_all}
use Rattle.pss_base.specs.declared.place.Place.{Place}
use Rattle.psdl_tree.specs.declared.expressions.ShiftOperator.{ShiftOperator}
use Rattle.psdl_tree.specs.declared.expressions.SumOperator.{SumOperator}
use Rattle.psdl_tree.specs.declared.expressions.ProductOperator.{ProductOperator}
use Rattle.psdl_tree.specs.Trees.{Primary, Unary, Product, Sum, Shift, And, Xor}
use Rattle.psdl_tree.specs.Views.{product_of, sum_of, shift_of, and_of, xor_of, expression_of}
use Rattle.psdl_standings.specs.declared.body_faults.BodyFaults.{BodyFaults}
use Rattle.psdl_standings.specs.inner.Sights.{Scene}
use Rattle.psdl_standings.specs.Expressions.{in_unary, in_product, in_sum, in_shift, in_and, in_xor, operands}
use Rattle.psdl_standings.specs.inner.Walks.{noted_by, noted}

pub noted_append : (s : Scene) (f : BodyFaults) (xs ys : List Primary) → noted s f (xs ++ ys) ≡ noted s (noted s f xs) ys
noted_append s f [] ys = refl
noted_append s f (x ∷ xs) ys = noted_append s (noted_by s f x) xs ys

pub append_none : {A : Type 0} (xs : List A) → xs ++ [] ≡ xs
append_none [] = refl
append_none {A} (x ∷ xs) = ap (λ (l : List A). x ∷ l) (append_none xs)

-- ---- loops

pub notes_begin : {N X : Type 0} (s : Scene) (view : N → X) (part : X → List Primary) (items xs : List N) (before start : BodyFaults) (first whole : List Primary) → start ≡ noted s before first → items ≡ xs
    → whole ≡ first ++ flat_map part (map view xs) → noted s start (flat_map part (map view items)) ≡ noted s before whole
notes_begin s view part items xs before start first whole e f g =
    rw (e, f, g) (sym (noted_append s before first (flat_map part (map view xs))))

pub notes_go_on : {N X : Type 0} (s : Scene) (view : N → X) (part : X → List Primary) (xs : List N) (i : ℕ) (node : N) (old now total : BodyFaults) → i < length xs → node ≡ get_or xs i node
    → noted s old (flat_map part (map view (drop i xs))) ≡ total → now ≡ noted s old (part (view node)) → noted s now (flat_map part (map view (drop (i + 1) xs))) ≡ total
notes_go_on {N} s view part xs i node old now total lt at h e =
    let cut : drop i xs ≡ node ∷ drop (i + 1) xs = rw (add-one, drop-cons xs i node) (ap (λ (x : N). x ∷ drop (suc i) xs) (sym at)) in
    ap (λ (f : BodyFaults). noted s f (flat_map part (map view (drop (i + 1) xs)))) e
    ∙ sym (noted_append s old (part (view node)) (flat_map part (map view (drop (i + 1) xs))))
    ∙ sym (ap (λ (l : List N). noted s old (flat_map part (map view l))) cut)
    ∙ h

pub notes_end : {N X : Type 0} (s : Scene) (view : N → X) (part : X → List Primary) (xs : List N) (i : ℕ) (now total : BodyFaults) → length xs ≤ i → noted s now (flat_map part (map view (drop i xs))) ≡ total → now ≡ total
notes_end {N} s view part xs i now total le h = sym (ap (λ (l : List N). noted s now (flat_map part (map view l))) (drop_all i xs le)) ∙ h

-- ---- levels

abbrev pub product_operands : Place × ProductOperator × Unary → List Primary
product_operands p = in_unary p.2

pub product_parts : (x : Unary) (ps : List (Place × ProductOperator × Unary)) → in_product (product_of x ps) ≡ in_unary x ++ flat_map product_operands ps
product_parts x [] = sym (append_none (in_unary x))
product_parts x (p ∷ ps) = ap (λ (l : List Primary). in_unary x ++ l) (product_parts p.2 ps)

abbrev pub sum_operands : Place × SumOperator × Product → List Primary
sum_operands p = in_product p.2

pub sum_parts : (x : Product) (ps : List (Place × SumOperator × Product)) → in_sum (sum_of x ps) ≡ in_product x ++ flat_map sum_operands ps
sum_parts x [] = sym (append_none (in_product x))
sum_parts x (p ∷ ps) = ap (λ (l : List Primary). in_product x ++ l) (sum_parts p.2 ps)

abbrev pub shift_operands : Place × ShiftOperator × Sum → List Primary
shift_operands p = in_sum p.2

pub shift_parts : (x : Sum) (ps : List (Place × ShiftOperator × Sum)) → in_shift (shift_of x ps) ≡ in_sum x ++ flat_map shift_operands ps
shift_parts x [] = sym (append_none (in_sum x))
shift_parts x (p ∷ ps) = ap (λ (l : List Primary). in_sum x ++ l) (shift_parts p.2 ps)

abbrev pub and_operands : Place × Shift → List Primary
and_operands p = in_shift p.1

pub and_parts : (x : Shift) (ps : List (Place × Shift)) → in_and (and_of x ps) ≡ in_shift x ++ flat_map and_operands ps
and_parts x [] = sym (append_none (in_shift x))
and_parts x (p ∷ ps) = ap (λ (l : List Primary). in_shift x ++ l) (and_parts p.1 ps)

abbrev pub xor_operands : Place × And → List Primary
xor_operands p = in_and p.1

pub xor_parts : (x : And) (ps : List (Place × And)) → in_xor (xor_of x ps) ≡ in_and x ++ flat_map xor_operands ps
xor_parts x [] = sym (append_none (in_and x))
xor_parts x (p ∷ ps) = ap (λ (l : List Primary). in_and x ++ l) (xor_parts p.1 ps)

abbrev pub expression_operands : Place × Xor → List Primary
expression_operands p = in_xor p.1

pub expression_parts : (x : Xor) (ps : List (Place × Xor)) → operands (expression_of x ps) ≡ in_xor x ++ flat_map expression_operands ps
expression_parts x [] = sym (append_none (in_xor x))
expression_parts x (p ∷ ps) = ap (λ (l : List Primary). in_xor x ++ l) (expression_parts p.1 ps)
