-- Fields of a struct that is small, each of a type with a lower number.
use Rattle.std.proofs.Common.{◌≡◌, ℕ, zero, suc, ◌+◌, ◌*◌, ◌<◌, ◌≤◌, List, [], ◌∷◌, length, map, slice_index_or, nat_lt, IsTrue, arith}
use Rattle.std.specs.List.{list_all}
use Rattle.type_layout.specs.Types.{PlainType, fields_of}
use Rattle.psdl_standings.specs.declared.types.FieldNode.{FieldNode}
use Rattle.psdl_standings.specs.SmallTypes.{IsSmall, AreSmall}
use Rattle.psdl_standings.specs.inner.TypeNodes.{type_at, field_type}
use Rattle.psdl_standings.proofs.Numbered.{both_true, below}

field_below : (limit : ℕ) (fields : List FieldNode) (i : ℕ) (d : FieldNode) → i < length fields → IsTrue (list_all (λ f. nat_lt f.item limit) fields) → (slice_index_or fields i d).item < limit
field_below limit [] i d lt low = absurd (omega (arith, lt))
field_below limit (f ∷ fields) zero d lt low = below f.item limit (both_true (nat_lt f.item limit) (list_all (λ f. nat_lt f.item limit) fields) low).0
field_below limit (f ∷ fields) (suc i) d lt low = field_below limit fields i d (omega (arith, lt)) (both_true (nat_lt f.item limit) (list_all (λ f. nat_lt f.item limit) fields) low).1

-- the measure of a call for a field falls
pub field_falls : (most limit : ℕ) (fields : List FieldNode) (i : ℕ) (d : FieldNode) → 2 * limit ≡ most → i < length fields → IsTrue (list_all (λ f. nat_lt f.item limit) fields)
    → 2 * (slice_index_or fields i d).item + 1 < most
field_falls most limit fields i d is lt low = omega (arith, is, field_below limit fields i d lt low)

-- the type of each field is there
pub field_there : (count limit : ℕ) (fields : List FieldNode) (i : ℕ) (d : FieldNode) → i < length fields → IsTrue (list_all (λ f. nat_lt f.item limit) fields) → limit ≤ count → (slice_index_or fields i d).item < count
field_there count limit fields i d lt low le = omega (arith, le, field_below limit fields i d lt low)

-- the type of each field is small
pub small_field : (types : List PlainType) (fields : List FieldNode) (i : ℕ) (d : FieldNode) → i < length fields → AreSmall (fields_of (map (field_type types) fields))
    → IsSmall (type_at types (slice_index_or fields i d).item)
small_field types [] i d lt small = absurd (omega (arith, lt))
small_field types (f ∷ fields) zero d lt small = small.0
small_field types (f ∷ fields) (suc i) d lt small = small_field types fields i d (omega (arith, lt)) small.1
