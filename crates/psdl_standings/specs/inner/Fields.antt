-- The fields of a struct as they are walked.
use Rattle.std.specs.Prelude.{◌≡◌, ℕ, List, ◌++◌, length, map, Option, Bool, true, nat_lt, IsTrue, option_map}
use Rattle.std.specs.List.{list_all}
use Rattle.type_layout.specs.Schemas.{given}
use Rattle.type_layout.specs.Types.{PlainType, Struct, PlainField, fields_of}
use Rattle.psdl_standings.specs.declared.spot.Spot.{Spot}
use Rattle.psdl_standings.specs.declared.structs.Part.{Part}
use Rattle.psdl_standings.specs.declared.types.FieldNode.{FieldNode}
use Rattle.psdl_standings.specs.declared.walk.Walk.{Walk}
use Rattle.psdl_standings.specs.Standings.{all_there}
use Rattle.psdl_standings.specs.Uses.{Use, Bound}
use Rattle.psdl_standings.specs.inner.TypeNodes.{field_type}
use Rattle.psdl_standings.specs.inner.Walked.{noted_in, Goes}

abbrev pub node_of : Part → ℕ → FieldNode
node_of p item = record { name = p.name; item = item }

abbrev pub part_node : Part → Option FieldNode
part_node p = option_map (node_of p) p.item

-- the fields, where the types of all are there
abbrev pub all_parts : List Part → Option (List FieldNode)
all_parts parts = all_there (map part_node parts)

abbrev pub part_type : List PlainType → Part → Option PlainField
part_type types p = option_map (field_type types) (part_node p)

abbrev pub struct_of_parts : List PlainType → List Part → Option PlainType
struct_of_parts types parts = option_map (λ fields. Struct (fields_of fields)) (all_there (map (part_type types) parts))

abbrev pub is_below : ℕ → Part → Bool
is_below count p = given p.item true (λ n. nat_lt n count)

-- each type that is there is one of the first so many
abbrev pub ArePartsBelow : ℕ → List Part → Type 0
ArePartsBelow count parts = IsTrue (list_all (is_below count) parts)

-- these names and bounds were walked, and these fields stand behind those in front
pub record AddsParts (old new : Walk) (spot : Spot) (us : List Use) (bs : List Bound) (fields : List (Option PlainField)) (front parts : List Part) : Type 0 where
  pub goes : Goes old new
  pub noted : new.faults ≡ noted_in old spot us bs
  pub below : ArePartsBelow (length new.types) parts
  pub are : map (part_type new.types) parts ≡ map (part_type old.types) front ++ fields
