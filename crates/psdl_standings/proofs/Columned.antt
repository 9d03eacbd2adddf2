-- The declarators of a field, one by one.
use Rattle.std.proofs.Common.{◌≡◌, ℕ, ◌+◌, ◌<◌, ◌≤◌, List, [], ◌∷◌, ◌++◌, length, get_or, map, take, Option, refl, sym, ap, ◌∙◌}
use Rattle.std.specs.Prelude.{IfSome}
use Rattle.std.specs.List.{flat_map}
use Rattle.std.proofs.lemmas.List.{map-append, take_all, append-nil}
use Rattle.psdl_tree.specs.declared.types.Declarator.{Declarator as DeclaratorNode}
use Rattle.psdl_tree.specs.Trees.{Name, Declarator, TypeSpec}
use Rattle.psdl_tree.specs.Views.{declarator_view}
use Rattle.type_layout.specs.Types.{PlainType, PlainField}
use Rattle.psdl_standings.specs.declared.spot.Spot.{Spot}
use Rattle.psdl_standings.specs.declared.structs.Part.{Part}
use Rattle.psdl_standings.specs.declared.walk.Walk.{Walk}
use Rattle.psdl_standings.specs.Standings.{Standing, spec_by}
use Rattle.psdl_standings.specs.Uses.{Use, Bound, in_declarator, in_spec, declarator_bounds, spec_bounds}
use Rattle.psdl_standings.specs.inner.Fields.{part_type, ArePartsBelow, AddsParts}
use Rattle.psdl_standings.specs.inner.TypeNumbers.{declared_field}
use Rattle.psdl_standings.specs.inner.TypeTables.{entry_type}
use Rattle.psdl_standings.specs.inner.Walked.{names_in, noted_in, Adds}
use Rattle.psdl_standings.proofs.Arrayed.{type_more}
use Rattle.psdl_standings.proofs.Bodied.{list_more}
use Rattle.psdl_standings.proofs.Goings.{goes_nowhere, names_same, take_one}
use Rattle.psdl_standings.proofs.Parted.{parts_then, parts_behind}

module _ (a : Walk) (spot : Spot) (item : Option ℕ) where
  abbrev field_of : Declarator → Option PlainField
  field_of d = declared_field (names_in a spot) (entry_type a.types item) d

  abbrev PartsTo : Walk → List Declarator → List Part → List Part → Type 0
  PartsTo b ds front parts = AddsParts a b spot (flat_map (in_declarator spot.limit) ds) (flat_map (declarator_bounds spot.limit) ds) (map field_of ds) front parts

  parts_at : (b : Walk) (us vs : List Use) (bs cs : List Bound) (fs gs : List (Option PlainField)) (front parts : List Part) → us ≡ vs → bs ≡ cs → fs ≡ gs → AddsParts a b spot us bs fs front parts → AddsParts a b spot vs cs gs front parts
  parts_at b us vs bs cs fs gs front parts p q r x =
      record {
        goes = x.goes;
        noted = x.noted ∙ ap (λ (l : List Use). noted_in a spot l bs) p ∙ ap (λ (l : List Bound). noted_in a spot vs l) q;
        below = x.below;
        are = x.are ∙ ap (λ (l : List (Option PlainField)). map (part_type a.types) front ++ l) r;
      }

  pub parts_begin : (ds : List DeclaratorNode) (front : List Part) → ArePartsBelow (length a.types) front → PartsTo a (map declarator_view (take 0 ds)) front front
  parts_begin ds front below = record { goes = goes_nowhere a; noted = refl; below = below; are = sym (append-nil (map (part_type a.types) front)) }

  pub parts_end : (b : Walk) (ds : List DeclaratorNode) (i : ℕ) (front parts : List Part) → length ds ≤ i → PartsTo b (map declarator_view (take i ds)) front parts → PartsTo b (map declarator_view ds) front parts
  parts_end b ds i front parts past x =
      let e : map declarator_view (take i ds) ≡ map declarator_view ds = ap (λ (l : List DeclaratorNode). map declarator_view l) (take_all i ds past) in
      parts_at b (flat_map (in_declarator spot.limit) (map declarator_view (take i ds))) (flat_map (in_declarator spot.limit) (map declarator_view ds)) (flat_map (declarator_bounds spot.limit) (map declarator_view (take i ds)))
      (flat_map (declarator_bounds spot.limit) (map declarator_view ds)) (map field_of (map declarator_view (take i ds))) (map field_of (map declarator_view ds)) front parts (ap (λ (l : List Declarator). flat_map (in_declarator spot.limit) l) e)
      (ap (λ (l : List Declarator). flat_map (declarator_bounds spot.limit) l) e) (ap (λ (l : List Declarator). map field_of l) e) x

  pub parts_more : (b d : Walk) (ds : List DeclaratorNode) (i : ℕ) (x : DeclaratorNode) (front mid parts : List Part) → IfSome item (λ n. n < length a.types) → i < length ds → x ≡ get_or ds i x → PartsTo b (map declarator_view (take i ds)) front mid
      → AddsParts b d spot (in_declarator spot.limit (declarator_view x)) (declarator_bounds spot.limit (declarator_view x)) (declared_field (names_in b spot) (entry_type b.types item) (declarator_view x) ∷ []) mid parts
      → PartsTo d (map declarator_view (take (i + 1) ds)) front parts
  parts_more b d ds i x front mid parts there lt at p q =
      let view : Declarator = declarator_view x in
      let same : declared_field (names_in b spot) (entry_type b.types item) view ≡ field_of view =
      ap (λ (f : Name → Standing). declared_field f (entry_type b.types item) view) (names_same a b spot p.goes) ∙ ap (λ (t : Option PlainType). declared_field (names_in a spot) t view) (type_more a.types b.types item p.goes.types there) in
      let fields : map field_of (map declarator_view (take i ds)) ++ declared_field (names_in b spot) (entry_type b.types item) view ∷ [] ≡ map field_of (map declarator_view (take (i + 1) ds)) =
      ap (λ (o : Option PlainField). map field_of (map declarator_view (take i ds)) ++ o ∷ []) same
      ∙ sym (ap (λ (l : List DeclaratorNode). map field_of (map declarator_view l)) (take_one ds i x lt at)
      ∙ ap (λ (l : List Declarator). map field_of l) (map-append declarator_view (take i ds) (x ∷ []))
      ∙ map-append field_of (map declarator_view (take i ds)) (view ∷ [])) in
      parts_at d (flat_map (in_declarator spot.limit) (map declarator_view (take i ds)) ++ in_declarator spot.limit view) (flat_map (in_declarator spot.limit) (map declarator_view (take (i + 1) ds)))
      (flat_map (declarator_bounds spot.limit) (map declarator_view (take i ds)) ++ declarator_bounds spot.limit view) (flat_map (declarator_bounds spot.limit) (map declarator_view (take (i + 1) ds)))
      (map field_of (map declarator_view (take i ds)) ++ declared_field (names_in b spot) (entry_type b.types item) view ∷ []) (map field_of (map declarator_view (take (i + 1) ds))) front parts
      (list_more (in_declarator spot.limit) declarator_view ds i x lt at) (list_more (declarator_bounds spot.limit) declarator_view ds i x lt at) fields
      (parts_then a b d spot (flat_map (in_declarator spot.limit) (map declarator_view (take i ds))) (in_declarator spot.limit view) (flat_map (declarator_bounds spot.limit) (map declarator_view (take i ds))) (declarator_bounds spot.limit view)
      (map field_of (map declarator_view (take i ds))) (declared_field (names_in b spot) (entry_type b.types item) view ∷ []) front mid parts p q)

-- ---- a line of a struct

pub field_walked : (a : Walk) (spot : Spot) (item : Option ℕ) (b d e : Walk) (spec : TypeSpec) (first : Declarator) (others : List Declarator) (front mid parts : List Part) → ArePartsBelow (length a.types) front
    → Adds a b spot (in_spec spot.limit spec) (spec_bounds spot.limit spec) (spec_by (names_in a spot) spec) item
    → AddsParts b d spot (in_declarator spot.limit first) (declarator_bounds spot.limit first) (declared_field (names_in b spot) (entry_type b.types item) first ∷ []) front mid
    → AddsParts d e spot (flat_map (in_declarator spot.limit) others) (flat_map (declarator_bounds spot.limit) others) (map (declared_field (names_in d spot) (entry_type d.types item)) others) mid parts
    → AddsParts a e spot (in_spec spot.limit spec ++ (in_declarator spot.limit first ++ flat_map (in_declarator spot.limit) others)) (spec_bounds spot.limit spec ++ (declarator_bounds spot.limit first ++ flat_map (declarator_bounds spot.limit) others))
    (map (declared_field (names_in a spot) (spec_by (names_in a spot) spec)) (first ∷ others)) front parts
field_walked a spot item b d e spec first others front mid parts below x y z =
    let later : map (declared_field (names_in d spot) (entry_type d.types item)) others ≡ map (declared_field (names_in b spot) (entry_type b.types item)) others =
    ap (λ (f : Name → Standing). map (declared_field f (entry_type d.types item)) others) (names_same b d spot y.goes) ∙ ap (λ (t : Option PlainType). map (declared_field (names_in b spot) t) others) (type_more b.types d.types item y.goes.types x.there) in
    let before : map (declared_field (names_in b spot) (entry_type b.types item)) (first ∷ others) ≡ map (declared_field (names_in a spot) (spec_by (names_in a spot) spec)) (first ∷ others) =
    ap (λ (f : Name → Standing). map (declared_field f (entry_type b.types item)) (first ∷ others)) (names_same a b spot x.goes) ∙ ap (λ (t : Option PlainType). map (declared_field (names_in a spot) t) (first ∷ others)) x.is in
    let whole : List (Option PlainField) = map (declared_field (names_in b spot) (entry_type b.types item)) (first ∷ others) in
    let both =
    parts_then b d e spot (in_declarator spot.limit first) (flat_map (in_declarator spot.limit) others) (declarator_bounds spot.limit first) (flat_map (declarator_bounds spot.limit) others) (declared_field (names_in b spot) (entry_type b.types item) first ∷ [])
    (map (declared_field (names_in d spot) (entry_type d.types item)) others) front mid parts y z in
    let all =
    parts_behind a b e spot (in_spec spot.limit spec) (in_declarator spot.limit first ++ flat_map (in_declarator spot.limit) others) (spec_bounds spot.limit spec) (declarator_bounds spot.limit first ++ flat_map (declarator_bounds spot.limit) others)
    (declared_field (names_in b spot) (entry_type b.types item) first ∷ map (declared_field (names_in d spot) (entry_type d.types item)) others) front parts x.goes x.noted below both in
    record {
      goes = all.goes;
      noted = all.noted;
      below = all.below;
      are =
          all.are
          ∙ ap (λ (l : List (Option PlainField)). map (part_type a.types) front ++ declared_field (names_in b spot) (entry_type b.types item) first ∷ l) later
          ∙ ap (λ (l : List (Option PlainField)). map (part_type a.types) front ++ l) before;
    }
