-- Levels of operators from left to right.
use Rattle.std.proofs.Common.{◌≡◌, ℕ, suc, ◌+◌, ◌<◌, ◌≤◌, List, [], ◌∷◌, ◌++◌, length, get_or, map, drop, Option, Some, refl, sym, ap, ◌∙◌, add-one, drop-cons}
use Rattle.std.proofs.lemmas.List.{drop_all}
use Rattle.std.specs.Prelude.{ℤ}
use Rattle.pss_base.specs.declared.place.Place.{Place}
use Rattle.psdl_tree.specs.declared.expressions.ShiftOperator.{ShiftOperator}
use Rattle.psdl_tree.specs.declared.expressions.SumOperator.{SumOperator}
use Rattle.psdl_tree.specs.declared.expressions.ProductOperator.{ProductOperator}
use Rattle.psdl_tree.specs.Trees.{Name, Unary, Product, Sum, Shift, And, Xor}
use Rattle.psdl_tree.specs.Views.{product_of, sum_of, shift_of, and_of, xor_of, expression_of}
use Rattle.psdl_standings.specs.declared.assessment.Assessment.{Assessment}
use Rattle.psdl_directory.specs.declared.fault.CheckFault.{CheckFault}
use Rattle.psdl_directory.specs.declared.fault.CheckKind.TheVariants.{ConstZero}
use Rattle.psdl_standings.specs.declared.operator.Operator.{Operator}
use Rattle.psdl_standings.specs.declared.operator.Operator.TheVariants.{Disjunction, Exclusion, Conjunction}
use Rattle.psdl_standings.specs.inner.Assessments.{seen, operated_on}
use Rattle.psdl_directory.specs.Fault.{fault, lesser, least}
use Rattle.psdl_standings.specs.Values.{Assessed, operated, zero_divisor, shift_operator, sum_operator, product_operator, unary, product, product_onto, sum, sum_onto, shift, shift_onto, and, and_onto, xor, xor_onto, assessed, or_onto}
use Rattle.psdl_directory.proofs.Noting.{lesser-assoc}

least_map_append : {X : Type 0} (f : X → CheckFault) (xs ys : List X) → least (map f (xs ++ ys)) ≡ lesser (least (map f xs)) (least (map f ys))
least_map_append f [] ys = refl
least_map_append f (x ∷ xs) ys = ap (λ o. lesser (Some (f x)) o) (least_map_append f xs ys) ∙ sym (lesser-assoc (Some (f x)) (least (map f xs)) (least (map f ys)))

pub seen_operated : (operator : Operator) (place : Place) (a b : Assessed) → operated_on operator place (seen a) (seen b) ≡ seen (operated operator place a b)
seen_operated operator place a b =
    let first : Option CheckFault = least (map (fault ConstZero) a.zeros) in
    let bs : Option CheckFault = least (map (fault ConstZero) b.zeros) in
    let own : List Place = zero_divisor operator place b.value in
    let owns : Option CheckFault = least (map (fault ConstZero) own) in
    let zero : lesser first (lesser bs owns) ≡ least (map (fault ConstZero) ((a.zeros ++ b.zeros) ++ own)) =
    sym (lesser-assoc first bs owns)
    ∙ ap (λ (o : Option CheckFault). lesser o owns) (sym (least_map_append (fault ConstZero) a.zeros b.zeros))
    ∙ sym (least_map_append (fault ConstZero) (a.zeros ++ b.zeros) own) in
    ap (λ (o : Option CheckFault). record { value = (operated operator place a b).value; leaves = (operated operator place a b).leaves; zero = o }) zero

-- an operator with its right operand
pub record Part : Type 0 where
  pub operator : Operator
  pub place : Place
  pub operand : Assessment

abbrev pub folded : Assessment → List Part → Assessment
folded a [] = a
folded a (p ∷ ps) = folded (operated_on p.operator p.place a p.operand) ps

-- ---- loops

pub begins : {N X : Type 0} (view : N → X) (part : X → Part) (items xs : List N) (first start total : Assessment) → start ≡ first → items ≡ xs → total ≡ folded first (map part (map view xs)) → folded start (map part (map view items)) ≡ total
begins view part items xs first start total e f g = rw (e, f) (sym g)

pub goes_on : {N X : Type 0} (view : N → X) (part : X → Part) (xs : List N) (i : ℕ) (node : N) (so_far now total : Assessment) → i < length xs → node ≡ get_or xs i node
    → folded so_far (map part (map view (drop i xs))) ≡ total → now ≡ operated_on (part (view node)).operator (part (view node)).place so_far (part (view node)).operand
    → folded now (map part (map view (drop (i + 1) xs))) ≡ total
goes_on {N} view part xs i node so_far now total lt at h e =
    let cut : drop i xs ≡ node ∷ drop (i + 1) xs = rw (add-one, drop-cons xs i node) (ap (λ (x : N). x ∷ drop (suc i) xs) (sym at)) in
    ap (λ (a : Assessment). folded a (map part (map view (drop (i + 1) xs)))) e ∙ sym (ap (λ (l : List N). folded so_far (map part (map view l))) cut) ∙ h

pub ends : {N X : Type 0} (view : N → X) (part : X → Part) (xs : List N) (i : ℕ) (so_far total : Assessment) → length xs ≤ i → folded so_far (map part (map view (drop i xs))) ≡ total → so_far ≡ total
ends {N} view part xs i so_far total le h = sym (ap (λ (l : List N). folded so_far (map part (map view l))) (drop_all i xs le)) ∙ h

-- ---- levels

module _ (env : Name → Option ℤ) (width : Option ℕ) where
  abbrev pub product_part : Place × ProductOperator × Unary → Part
  product_part p = record { operator = product_operator p.1; place = p.0; operand = seen (unary env width p.2) }

  product_on : (a : Assessed) (place : Place) (operator : Operator) (x : Unary) (ps : List (Place × ProductOperator × Unary)) → seen (product_onto env width a place operator (product_of x ps)) ≡ folded (operated_on operator place (seen a) (seen (unary env width x))) (map product_part ps)
  product_on a place operator x [] = sym (seen_operated operator place a (unary env width x))
  product_on a place operator x (p ∷ ps) =
      product_on (operated operator place a (unary env width x)) p.0 (product_operator p.1) p.2 ps
      ∙ ap (λ (y : Assessment). folded (operated_on (product_operator p.1) p.0 y (seen (unary env width p.2))) (map product_part ps)) (sym (seen_operated operator place a (unary env width x)))

  pub product_folded : (x : Unary) (ps : List (Place × ProductOperator × Unary)) → seen (product env width (product_of x ps)) ≡ folded (seen (unary env width x)) (map product_part ps)
  product_folded x [] = refl
  product_folded x (p ∷ ps) = product_on (unary env width x) p.0 (product_operator p.1) p.2 ps

  abbrev pub sum_part : Place × SumOperator × Product → Part
  sum_part p = record { operator = sum_operator p.1; place = p.0; operand = seen (product env width p.2) }

  sum_on : (a : Assessed) (place : Place) (operator : Operator) (x : Product) (ps : List (Place × SumOperator × Product)) → seen (sum_onto env width a place operator (sum_of x ps)) ≡ folded (operated_on operator place (seen a) (seen (product env width x))) (map sum_part ps)
  sum_on a place operator x [] = sym (seen_operated operator place a (product env width x))
  sum_on a place operator x (p ∷ ps) =
      sum_on (operated operator place a (product env width x)) p.0 (sum_operator p.1) p.2 ps
      ∙ ap (λ (y : Assessment). folded (operated_on (sum_operator p.1) p.0 y (seen (product env width p.2))) (map sum_part ps)) (sym (seen_operated operator place a (product env width x)))

  pub sum_folded : (x : Product) (ps : List (Place × SumOperator × Product)) → seen (sum env width (sum_of x ps)) ≡ folded (seen (product env width x)) (map sum_part ps)
  sum_folded x [] = refl
  sum_folded x (p ∷ ps) = sum_on (product env width x) p.0 (sum_operator p.1) p.2 ps

  abbrev pub shift_part : Place × ShiftOperator × Sum → Part
  shift_part p = record { operator = shift_operator p.1; place = p.0; operand = seen (sum env width p.2) }

  shift_on : (a : Assessed) (place : Place) (operator : Operator) (x : Sum) (ps : List (Place × ShiftOperator × Sum)) → seen (shift_onto env width a place operator (shift_of x ps)) ≡ folded (operated_on operator place (seen a) (seen (sum env width x))) (map shift_part ps)
  shift_on a place operator x [] = sym (seen_operated operator place a (sum env width x))
  shift_on a place operator x (p ∷ ps) =
      shift_on (operated operator place a (sum env width x)) p.0 (shift_operator p.1) p.2 ps
      ∙ ap (λ (y : Assessment). folded (operated_on (shift_operator p.1) p.0 y (seen (sum env width p.2))) (map shift_part ps)) (sym (seen_operated operator place a (sum env width x)))

  pub shift_folded : (x : Sum) (ps : List (Place × ShiftOperator × Sum)) → seen (shift env width (shift_of x ps)) ≡ folded (seen (sum env width x)) (map shift_part ps)
  shift_folded x [] = refl
  shift_folded x (p ∷ ps) = shift_on (sum env width x) p.0 (shift_operator p.1) p.2 ps

  abbrev pub and_part : Place × Shift → Part
  and_part p = record { operator = Conjunction; place = p.0; operand = seen (shift env width p.1) }

  and_on : (a : Assessed) (place : Place) (x : Shift) (ps : List (Place × Shift)) → seen (and_onto env width a place (and_of x ps)) ≡ folded (operated_on Conjunction place (seen a) (seen (shift env width x))) (map and_part ps)
  and_on a place x [] = sym (seen_operated Conjunction place a (shift env width x))
  and_on a place x (p ∷ ps) =
      and_on (operated Conjunction place a (shift env width x)) p.0 p.1 ps
      ∙ ap (λ (y : Assessment). folded (operated_on Conjunction p.0 y (seen (shift env width p.1))) (map and_part ps)) (sym (seen_operated Conjunction place a (shift env width x)))

  pub and_folded : (x : Shift) (ps : List (Place × Shift)) → seen (and env width (and_of x ps)) ≡ folded (seen (shift env width x)) (map and_part ps)
  and_folded x [] = refl
  and_folded x (p ∷ ps) = and_on (shift env width x) p.0 p.1 ps

  abbrev pub xor_part : Place × And → Part
  xor_part p = record { operator = Exclusion; place = p.0; operand = seen (and env width p.1) }

  xor_on : (a : Assessed) (place : Place) (x : And) (ps : List (Place × And)) → seen (xor_onto env width a place (xor_of x ps)) ≡ folded (operated_on Exclusion place (seen a) (seen (and env width x))) (map xor_part ps)
  xor_on a place x [] = sym (seen_operated Exclusion place a (and env width x))
  xor_on a place x (p ∷ ps) =
      xor_on (operated Exclusion place a (and env width x)) p.0 p.1 ps
      ∙ ap (λ (y : Assessment). folded (operated_on Exclusion p.0 y (seen (and env width p.1))) (map xor_part ps)) (sym (seen_operated Exclusion place a (and env width x)))

  pub xor_folded : (x : And) (ps : List (Place × And)) → seen (xor env width (xor_of x ps)) ≡ folded (seen (and env width x)) (map xor_part ps)
  xor_folded x [] = refl
  xor_folded x (p ∷ ps) = xor_on (and env width x) p.0 p.1 ps

  abbrev pub assessed_part : Place × Xor → Part
  assessed_part p = record { operator = Disjunction; place = p.0; operand = seen (xor env width p.1) }

  assessed_on : (a : Assessed) (place : Place) (x : Xor) (ps : List (Place × Xor)) → seen (or_onto env width a place (expression_of x ps)) ≡ folded (operated_on Disjunction place (seen a) (seen (xor env width x))) (map assessed_part ps)
  assessed_on a place x [] = sym (seen_operated Disjunction place a (xor env width x))
  assessed_on a place x (p ∷ ps) =
      assessed_on (operated Disjunction place a (xor env width x)) p.0 p.1 ps
      ∙ ap (λ (y : Assessment). folded (operated_on Disjunction p.0 y (seen (xor env width p.1))) (map assessed_part ps)) (sym (seen_operated Disjunction place a (xor env width x)))

  pub assessed_folded : (x : Xor) (ps : List (Place × Xor)) → seen (assessed env width (expression_of x ps)) ≡ folded (seen (xor env width x)) (map assessed_part ps)
  assessed_folded x [] = refl
  assessed_folded x (p ∷ ps) = assessed_on (xor env width x) p.0 p.1 ps
