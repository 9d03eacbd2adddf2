-- The fields of a struct, one by one, and the struct of them.
use Rattle.std.proofs.Common.{◌≡◌, ℕ, ◌+◌, ◌<◌, ◌≤◌, List, [], ◌∷◌, ◌++◌, length, get_or, map, take, Bool, true, false, ◌&&◌, nat_lt, IsTrue, Option, Some, None, refl, sym, ap, ◌∙◌}
use Rattle.std.specs.Prelude.{option_map}
use Rattle.std.specs.List.{list_all, flat_map}
use Rattle.std.proofs.lemmas.List.{take_all, append-nil}
use Rattle.psdl_tree.specs.declared.types.Field.{Field as FieldNodeTree}
use Rattle.psdl_tree.specs.Trees.{Name, Field}
use Rattle.psdl_tree.specs.Views.{field_view}
use Rattle.type_layout.specs.Schemas.{given}
use Rattle.type_layout.specs.Types.{PlainType, Struct, PlainField, fields_of}
use Rattle.psdl_standings.specs.declared.spot.Spot.{Spot}
use Rattle.psdl_standings.specs.declared.structs.Part.{Part}
use Rattle.psdl_standings.specs.declared.types.FieldNode.{FieldNode}
use Rattle.psdl_standings.specs.declared.walk.Walk.{Walk}
use Rattle.psdl_standings.specs.Standings.{Standing, fields_by, all_there}
use Rattle.psdl_standings.specs.Uses.{Use, Bound, in_field, field_bounds}
use Rattle.psdl_standings.specs.inner.Fields.{node_of, part_node, all_parts, part_type, struct_of_parts, is_below, ArePartsBelow, AddsParts}
use Rattle.psdl_standings.specs.inner.TypeNodes.{field_type}
use Rattle.psdl_standings.specs.inner.Walked.{names_in, noted_in, AddsType, Adds}
use Rattle.psdl_standings.proofs.Bodied.{list_more}
use Rattle.psdl_standings.proofs.Goings.{adds_behind, goes_nowhere, names_same}
use Rattle.psdl_standings.proofs.Parted.{parts_then}

module _ (a : Walk) (spot : Spot) where
  abbrev FieldsTo : Walk → List Field → List Part → List Part → Type 0
  FieldsTo b xs front parts = AddsParts a b spot (flat_map (in_field spot.limit) xs) (flat_map (field_bounds spot.limit) xs) (flat_map (fields_by (names_in a spot)) xs) front parts

  parts_at : (b : Walk) (us vs : List Use) (bs cs : List Bound) (fs gs : List (Option PlainField)) (front parts : List Part) → us ≡ vs → bs ≡ cs → fs ≡ gs → AddsParts a b spot us bs fs front parts → AddsParts a b spot vs cs gs front parts
  parts_at b us vs bs cs fs gs front parts p q r x =
      record {
        goes = x.goes;
        noted = x.noted ∙ ap (λ (l : List Use). noted_in a spot l bs) p ∙ ap (λ (l : List Bound). noted_in a spot vs l) q;
        below = x.below;
        are = x.are ∙ ap (λ (l : List (Option PlainField)). map (part_type a.types) front ++ l) r;
      }

  pub fields_begin : (xs : List FieldNodeTree) (front : List Part) → ArePartsBelow (length a.types) front → FieldsTo a (map field_view (take 0 xs)) front front
  fields_begin xs front below = record { goes = goes_nowhere a; noted = refl; below = below; are = sym (append-nil (map (part_type a.types) front)) }

  pub fields_end : (b : Walk) (xs : List FieldNodeTree) (i : ℕ) (front parts : List Part) → length xs ≤ i → FieldsTo b (map field_view (take i xs)) front parts → FieldsTo b (map field_view xs) front parts
  fields_end b xs i front parts past x =
      let e : map field_view (take i xs) ≡ map field_view xs = ap (λ (l : List FieldNodeTree). map field_view l) (take_all i xs past) in
      parts_at b (flat_map (in_field spot.limit) (map field_view (take i xs))) (flat_map (in_field spot.limit) (map field_view xs)) (flat_map (field_bounds spot.limit) (map field_view (take i xs))) (flat_map (field_bounds spot.limit) (map field_view xs))
      (flat_map (fields_by (names_in a spot)) (map field_view (take i xs))) (flat_map (fields_by (names_in a spot)) (map field_view xs)) front parts (ap (λ (l : List Field). flat_map (in_field spot.limit) l) e)
      (ap (λ (l : List Field). flat_map (field_bounds spot.limit) l) e) (ap (λ (l : List Field). flat_map (fields_by (names_in a spot)) l) e) x

  -- a field behind those in front
  pub field_then : (b d : Walk) (us vs : List Use) (bs cs : List Bound) (fs : List (Option PlainField)) (x : Field) (front mid parts : List Part) → AddsParts a b spot us bs fs front mid → AddsParts b d spot vs cs (fields_by (names_in b spot) x) mid parts
      → AddsParts a d spot (us ++ vs) (bs ++ cs) (fs ++ fields_by (names_in a spot) x) front parts
  field_then b d us vs bs cs fs x front mid parts p q =
      parts_at d (us ++ vs) (us ++ vs) (bs ++ cs) (bs ++ cs) (fs ++ fields_by (names_in b spot) x) (fs ++ fields_by (names_in a spot) x) front parts refl refl (ap (λ (f : Name → Standing). fs ++ fields_by f x) (names_same a b spot p.goes))
      (parts_then a b d spot us vs bs cs fs (fields_by (names_in b spot) x) front mid parts p q)

  pub fields_more : (b d : Walk) (xs : List FieldNodeTree) (i : ℕ) (x : FieldNodeTree) (front mid parts : List Part) → i < length xs → x ≡ get_or xs i x → FieldsTo b (map field_view (take i xs)) front mid
      → AddsParts b d spot (in_field spot.limit (field_view x)) (field_bounds spot.limit (field_view x)) (fields_by (names_in b spot) (field_view x)) mid parts → FieldsTo d (map field_view (take (i + 1) xs)) front parts
  fields_more b d xs i x front mid parts lt at p q =
      parts_at d (flat_map (in_field spot.limit) (map field_view (take i xs)) ++ in_field spot.limit (field_view x)) (flat_map (in_field spot.limit) (map field_view (take (i + 1) xs)))
      (flat_map (field_bounds spot.limit) (map field_view (take i xs)) ++ field_bounds spot.limit (field_view x)) (flat_map (field_bounds spot.limit) (map field_view (take (i + 1) xs)))
      (flat_map (fields_by (names_in a spot)) (map field_view (take i xs)) ++ fields_by (names_in a spot) (field_view x)) (flat_map (fields_by (names_in a spot)) (map field_view (take (i + 1) xs))) front parts (list_more (in_field spot.limit) field_view xs i x lt at)
      (list_more (field_bounds spot.limit) field_view xs i x lt at) (list_more (fields_by (names_in a spot)) field_view xs i x lt at)
      (field_then b d (flat_map (in_field spot.limit) (map field_view (take i xs))) (in_field spot.limit (field_view x)) (flat_map (field_bounds spot.limit) (map field_view (take i xs))) (field_bounds spot.limit (field_view x))
      (flat_map (fields_by (names_in a spot)) (map field_view (take i xs))) (field_view x) front mid parts p q)

  -- ---- the first field and the others

  pub fields_then : (b d : Walk) (x : Field) (xs : List Field) (front mid parts : List Part) → AddsParts a b spot (in_field spot.limit x) (field_bounds spot.limit x) (fields_by (names_in a spot) x) front mid
      → AddsParts b d spot (flat_map (in_field spot.limit) xs) (flat_map (field_bounds spot.limit) xs) (flat_map (fields_by (names_in b spot)) xs) mid parts → FieldsTo d (x ∷ xs) front parts
  fields_then b d x xs front mid parts p q =
      parts_at d (in_field spot.limit x ++ flat_map (in_field spot.limit) xs) (in_field spot.limit x ++ flat_map (in_field spot.limit) xs) (field_bounds spot.limit x ++ flat_map (field_bounds spot.limit) xs) (field_bounds spot.limit x ++ flat_map (field_bounds spot.limit) xs)
      (fields_by (names_in a spot) x ++ flat_map (fields_by (names_in b spot)) xs) (fields_by (names_in a spot) x ++ flat_map (fields_by (names_in a spot)) xs) front parts refl refl
      (ap (λ (f : Name → Standing). fields_by (names_in a spot) x ++ flat_map (fields_by f) xs) (names_same a b spot p.goes))
      (parts_then a b d spot (in_field spot.limit x) (flat_map (in_field spot.limit) xs) (field_bounds spot.limit x) (flat_map (field_bounds spot.limit) xs) (fields_by (names_in a spot) x) (flat_map (fields_by (names_in b spot)) xs) front mid parts p q)

  -- the struct behind its fields
  pub struct_then : (b d : Walk) (us : List Use) (bs : List Bound) (fs : List (Option PlainField)) (parts : List Part) (front : List Part) (number : Option ℕ) → front ≡ [] → AddsParts a b spot us bs fs front parts → AddsType b d (struct_of_parts b.types parts) number
      → Adds a d spot us bs (option_map (λ fields. Struct (fields_of fields)) (all_there fs)) number
  struct_then b d us bs fs parts front number none p q =
      adds_behind a b d spot us bs (option_map (λ fields. Struct (fields_of fields)) (all_there fs)) number p.goes p.noted
      (record { goes = q.goes; same = q.same; there = q.there; is = q.is ∙ ap (λ (l : List (Option PlainField)). option_map (λ fields. Struct (fields_of fields)) (all_there l)) (p.are ∙ ap (λ (ps : List Part). map (part_type a.types) ps ++ fs) none) })

-- ---- all parts are there, or one is missing

both_true : (a b : Bool) → a && b ≡ true → (a ≡ true) × (b ≡ true)
both_true true true e = (refl, refl)
both_true true false e = cc
both_true false b e = cc

types_there : (types : List PlainType) (xs : List (Option FieldNode)) → all_there (map (option_map (field_type types)) xs) ≡ option_map (map (field_type types)) (all_there xs)
types_there types [] = refl
types_there types (None ∷ xs) = refl
types_there types (Some x ∷ xs) = rw (types_there types xs) (by (all_there xs))
  where
    by : (o : Option (List FieldNode)) → option_map (λ others. field_type types x ∷ others) (option_map (map (field_type types)) o) ≡ option_map (map (field_type types)) (option_map (λ others. x ∷ others) o)
    by None = refl
    by (Some fs) = refl

nodes_typed : (types : List PlainType) (parts : List Part) → map (part_type types) parts ≡ map (option_map (field_type types)) (map part_node parts)
nodes_typed types [] = refl
nodes_typed types (p ∷ ps) = ap (λ (l : List (Option PlainField)). part_type types p ∷ l) (nodes_typed types ps)

pub struct_made : (types : List PlainType) (parts : List Part) (o : Option (List FieldNode)) → o ≡ all_parts parts → option_map (λ (fs : List FieldNode). Struct (fields_of (map (field_type types) fs))) o ≡ struct_of_parts types parts
struct_made types parts o e =
    sym (ap (λ (l : List (Option PlainField)). option_map (λ fields. Struct (fields_of fields)) (all_there l)) (nodes_typed types parts)
    ∙ ap (λ (r : Option (List PlainField)). option_map (λ fields. Struct (fields_of fields)) r) (types_there types (map part_node parts) ∙ ap (option_map (map (field_type types))) (sym e))
    ∙ by o)
  where
    by : (r : Option (List FieldNode)) → option_map (λ fields. Struct (fields_of fields)) (option_map (map (field_type types)) r) ≡ option_map (λ (fs : List FieldNode). Struct (fields_of (map (field_type types) fs))) r
    by None = refl
    by (Some fs) = refl

-- the fields are made of types with lower numbers
pub fields_below : (count : ℕ) (parts : List Part) (fs : List FieldNode) → ArePartsBelow count parts → Some fs ≡ all_parts parts → IsTrue (list_all (λ f. nat_lt f.item count) fs)
fields_below count [] fs below e = let none : fs ≡ [] = cc in rw none refl
fields_below count (p ∷ ps) fs below e =
    let both = both_true (is_below count p) (list_all (is_below count) ps) below in
    by p.item both.0 e (fields_below count ps)
  where
    by : (o : Option ℕ) → given o true (λ n. nat_lt n count) ≡ true → Some fs ≡ given (option_map (node_of p) o) None (λ x. option_map (λ others. x ∷ others) (all_parts ps)) → ((gs : List FieldNode) → ArePartsBelow count ps → Some gs ≡ all_parts ps → IsTrue (list_all (λ f. nat_lt f.item count) gs))
        → IsTrue (list_all (λ f. nat_lt f.item count) fs)
    by None t e h = cc
    by (Some n) t e h = further (all_parts ps) e (λ gs s. h gs (both_true (is_below count p) (list_all (is_below count) ps) below).1 s)
      where
        further : (r : Option (List FieldNode)) → Some fs ≡ option_map (λ others. node_of p n ∷ others) r → ((gs : List FieldNode) → Some gs ≡ r → IsTrue (list_all (λ f. nat_lt f.item count) gs)) → IsTrue (list_all (λ f. nat_lt f.item count) fs)
        further None e h = cc
        further (Some gs) e h = let front : fs ≡ node_of p n ∷ gs = cc in rw (front, t, h gs refl) refl
