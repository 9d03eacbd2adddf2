-- What the defaults of types take, type by type.
use Rattle.std.proofs.Common.{◌≡◌, ℕ, ◌+◌, ◌<◌, ◌≤◌, List, [], ◌∷◌, ◌++◌, length, get_or, map, take, sym, ap, ◌∙◌, arith, length-append, true, nat_lt, ⊎_elim}
use Rattle.std.specs.List.{list_all}
use Rattle.std.proofs.lemmas.Bool.{cases_lt}
use Rattle.std.proofs.lemmas.List.{map-append, take_all, get_or_append_left, get_or_push}
use Rattle.type_layout.specs.Types.{PlainType, Arr, Struct, PlainField, fields_of}
use Rattle.psdl_standings.specs.declared.extent.Extent.{Extent as ExtentNode}
use Rattle.psdl_standings.specs.declared.types.FieldNode.{FieldNode}
use Rattle.psdl_standings.specs.declared.types.Node.{Node}
use Rattle.psdl_standings.specs.Extents.{Extent, followed, repeated, extent, extent_view}
use Rattle.psdl_standings.specs.inner.Measured.{AreExtents}
use Rattle.psdl_standings.specs.inner.TypeNodes.{type_at, field_type, node_type}
use Rattle.psdl_standings.proofs.Defaulting.{short, chained, octets, fields_octets, followed_short, fields_append, chained_nothing, field_octets, repeated_extent}
use Rattle.psdl_standings.proofs.Leveling.{item_below, take_next}

pub array_measured : (types : List PlainType) (extents : List ExtentNode) (item count : ℕ) (d r : ExtentNode) → AreExtents types extents → item < length extents → extent_view r ≡ repeated (extent_view (get_or extents item d)) count
    → extent_view r ≡ extent (Arr (type_at types item) count)
array_measured types extents item count d r are lt e = e ∙ ap (λ (f : Extent). repeated f count) (are item d lt) ∙ repeated_extent (type_at types item) count

-- ---- fields

abbrev fields_extent : List PlainType → List FieldNode → Extent
fields_extent types fs = short (fields_octets (fields_of (map (field_type types) fs)))

pub one_measured : (types : List PlainType) (extents : List ExtentNode) (fs : List FieldNode) (i : ℕ) (g : FieldNode) (d whole more : ExtentNode) → AreExtents types extents → list_all (λ f. nat_lt f.item (length extents)) fs ≡ true → i < length fs
    → extent_view whole ≡ fields_extent types (take i fs) → extent_view more ≡ followed (extent_view whole) (extent_view (get_or extents (get_or fs i g).item d)) → extent_view more ≡ fields_extent types (take (i + 1) fs)
one_measured types extents fs i g d whole more are below lt so_far e =
    let f : FieldNode = get_or fs i g in
    let front : List PlainField = map (field_type types) (take i fs) in
    let one : List PlainField = field_type types f ∷ [] in
    let alone : fields_octets (fields_of one) ≡ octets (type_at types f.item) = field_octets f.name.now (type_at types f.item) (fields_of []) ∙ chained_nothing (octets (type_at types f.item)) in
    e
    ∙ ap (λ (g : Extent). followed g (extent_view (get_or extents f.item d))) so_far
    ∙ ap (λ (g : Extent). followed (short (fields_octets (fields_of front))) g) (are f.item d (item_below (length extents) fs i g below lt))
    ∙ followed_short (fields_octets (fields_of front)) (octets (type_at types f.item))
    ∙ ap (λ (g : Extent). short (chained (fields_octets (fields_of front)) g)) (sym alone)
    ∙ ap short (sym (fields_append front one))
    ∙ ap (λ (l : List PlainField). short (fields_octets (fields_of l))) (sym (ap (λ (l : List FieldNode). map (field_type types) l) (take_next fs i g lt) ∙ map-append (field_type types) (take i fs) (f ∷ [])))

pub all_measured : (types : List PlainType) (fs : List FieldNode) (i : ℕ) (whole : ExtentNode) → length fs ≤ i → extent_view whole ≡ fields_extent types (take i fs) → extent_view whole ≡ extent (Struct (fields_of (map (field_type types) fs)))
all_measured types fs i whole past e = e ∙ ap (λ (l : List FieldNode). fields_extent types l) (take_all i fs past)

-- ---- one type more

pub extents_more : (types : List PlainType) (extents more : List ExtentNode) (one : ExtentNode) (node : Node) (n : ℕ) → length extents ≡ n → AreExtents types extents → extent_view one ≡ extent (node_type types node) → node_type types node ≡ type_at types n → more ≡ extents ++ one ∷ []
    → AreExtents types more
extents_more types extents more one node n many are e is pushed k d lt =
    ⊎_elim
    (λ less. let there : k < length extents = omega (arith, less, many) in
    ap (λ (l : List ExtentNode). extent_view (get_or l k d)) pushed ∙ ap extent_view (get_or_append_left extents (one ∷ []) d k there) ∙ are k d there)
    (λ past. let here : k ≡ n = omega (arith, past, lt, many, ap (λ (l : List ExtentNode). length l) pushed, length-append extents (one ∷ [])) in
    ap (λ (l : List ExtentNode). extent_view (get_or l k d)) pushed ∙ ap extent_view (get_or_push extents one d k (many ∙ sym here)) ∙ e ∙ ap extent is ∙ ap (λ (j : ℕ). extent (type_at types j)) (sym here))
    (cases_lt k n)
