-- How deep types nest, type by type.
use Rattle.std.proofs.Common.{◌≡◌, ℕ, zero, suc, ◌+◌, ◌<◌, List, [], ◌∷◌, ◌++◌, length, get_or, map, take, max, Bool, true, false, ◌&&◌, nat_lt, refl, sym, ap, ◌∙◌, arith, length-append, ⊎_elim}
use Rattle.std.specs.List.{list_all}
use Rattle.std.proofs.lemmas.Bool.{cases_lt, ltb-true}
use Rattle.std.proofs.lemmas.List.{map-append, get_or_append_left, get_or_push, get_or_default}
use Rattle.type_layout.specs.Types.{PlainType, PlainField, fields_of}
use Rattle.psdl_standings.specs.declared.types.FieldNode.{FieldNode}
use Rattle.psdl_standings.specs.declared.types.Node.{Node}
use Rattle.psdl_standings.specs.Nesting.{nesting, deepest_field}
use Rattle.psdl_standings.specs.inner.Measured.{cut, AreLevels}
use Rattle.psdl_standings.specs.inner.TypeNodes.{type_at, field_type, node_type}
use Rattle.psdl_standings.proofs.Goings.{take_one}

both_true : (a b : Bool) → a && b ≡ true → (a ≡ true) × (b ≡ true)
both_true true true e = (refl, refl)
both_true true false e = cc
both_true false b e = cc

pub item_below : (count : ℕ) (fs : List FieldNode) (i : ℕ) (g : FieldNode) → list_all (λ f. nat_lt f.item count) fs ≡ true → i < length fs → (get_or fs i g).item < count
item_below count [] i g e lt = absurd (omega (arith, lt))
item_below count (f ∷ fs) zero g e lt = ltb-true f.item count (both_true (nat_lt f.item count) (list_all (λ h. nat_lt h.item count) fs) e).0
item_below count (f ∷ fs) (suc i) g e lt = item_below count fs i g (both_true (nat_lt f.item count) (list_all (λ h. nat_lt h.item count) fs) e).1 (omega (arith, lt))

pub take_next : (fs : List FieldNode) (i : ℕ) (g : FieldNode) → i < length fs → take (i + 1) fs ≡ take i fs ++ get_or fs i g ∷ []
take_next fs i g lt = take_one fs i (get_or fs i g) lt (get_or_default fs i g (get_or fs i g) lt)

deepest_push : (xs : List PlainField) (x : PlainField) → deepest_field (fields_of (xs ++ x ∷ [])) ≡ max (deepest_field (fields_of xs)) (nesting x.type)
deepest_push [] x = omega arith
deepest_push (y ∷ ys) x = ap (λ (k : ℕ). max (nesting y.type) k) (deepest_push ys x) ∙ omega arith

cut_max : (a b : ℕ) → max (cut a) (cut b) ≡ cut (max a b)
cut_max a b = omega arith

abbrev deepest_in : List PlainType → List FieldNode → ℕ
deepest_in types fs = cut (deepest_field (fields_of (map (field_type types) fs)))

pub deepest_more : (types : List PlainType) (levels : List ℕ) (fs : List FieldNode) (i : ℕ) (g : FieldNode) (d deepest more : ℕ) → AreLevels types levels → list_all (λ f. nat_lt f.item (length levels)) fs ≡ true → i < length fs → deepest ≡ deepest_in types (take i fs)
    → more ≡ max deepest (get_or levels (get_or fs i g).item d) → more ≡ deepest_in types (take (i + 1) fs)
deepest_more types levels fs i g d deepest more are below lt so_far e =
    let f : FieldNode = get_or fs i g in
    let front : List PlainField = map (field_type types) (take i fs) in
    e
    ∙ ap (λ (k : ℕ). max k (get_or levels f.item d)) so_far
    ∙ ap (λ (k : ℕ). max (deepest_in types (take i fs)) k) (are f.item d (item_below (length levels) fs i g below lt))
    ∙ cut_max (deepest_field (fields_of front)) (nesting (type_at types f.item))
    ∙ ap cut (sym (deepest_push front (field_type types f)))
    ∙ sym (ap (λ (l : List FieldNode). deepest_in types l) (take_next fs i g lt) ∙ ap (λ (l : List PlainField). cut (deepest_field (fields_of l))) (map-append (field_type types) (take i fs) (f ∷ [])))

pub levels_more : (types : List PlainType) (levels more : List ℕ) (one : ℕ) (node : Node) (n : ℕ) → length levels ≡ n → AreLevels types levels → one ≡ cut (nesting (node_type types node)) → node_type types node ≡ type_at types n → more ≡ levels ++ one ∷ [] → AreLevels types more
levels_more types levels more one node n many are e is pushed k d lt =
    ⊎_elim
    (λ less. let there : k < length levels = omega (arith, less, many) in
    ap (λ (l : List ℕ). get_or l k d) pushed ∙ get_or_append_left levels (one ∷ []) d k there ∙ are k d there)
    (λ past. let here : k ≡ n = omega (arith, past, lt, many, ap (λ (l : List ℕ). length l) pushed, length-append levels (one ∷ [])) in
    ap (λ (l : List ℕ). get_or l k d) pushed ∙ get_or_push levels one d k (many ∙ sym here) ∙ e ∙ ap (λ (t : PlainType). cut (nesting t)) is ∙ ap (λ (j : ℕ). cut (nesting (type_at types j))) (sym here))
    (cases_lt k n)
