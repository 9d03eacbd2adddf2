-- Types made of types with lower numbers, as a table keeps them.
use Rattle.std.specs.Prelude.{◌≡◌, ℕ, ◌<◌, List, [], ◌∷◌, ◌++◌, length, map, nat_lt, IsTrue}
use Rattle.std.specs.List.{list_all}
use Rattle.std.proofs.Common.{get_or}
use Rattle.psdl_tree.specs.Views.{identifiers_view}
use Rattle.type_layout.specs.Types.{PlainType, Short, Long, LongLong, UShort, ULong, ULongLong, Char, Boolean, Octet, Str, Seq, Arr, Struct, Enum, PlainField, fields_of}
use Rattle.psdl_standings.specs.declared.types.FieldNode.{FieldNode}
use Rattle.psdl_standings.specs.declared.types.Node.{Node}
use Rattle.psdl_standings.specs.declared.types.Node.TheVariants as nodes
use Rattle.psdl_directory.specs.Declarations.{all_identifiers}

-- a type by its number
abbrev pub type_at : List PlainType → ℕ → PlainType
type_at types n = get_or types n Char

abbrev pub field_type : List PlainType → FieldNode → PlainField
field_type types f = record { name = f.name.now; type = type_at types f.item }

-- the type that a node makes of those with lower numbers
abbrev pub node_type : List PlainType → Node → PlainType
node_type types nodes.Short = Short
node_type types nodes.Long = Long
node_type types nodes.LongLong = LongLong
node_type types nodes.UShort = UShort
node_type types nodes.ULong = ULong
node_type types nodes.ULongLong = ULongLong
node_type types nodes.Char = Char
node_type types nodes.Boolean = Boolean
node_type types nodes.Octet = Octet
node_type types (nodes.Text bound) = Str bound
node_type types (nodes.Sequence item bound) = Seq (type_at types item) bound
node_type types (nodes.Array item count) = Arr (type_at types item) count
node_type types (nodes.Struct fields) = Struct (fields_of (map (field_type types) fields.items))
node_type types (nodes.Enumeration enumerators) = Enum (map (λ i. i.name) (all_identifiers (identifiers_view enumerators.now)))

abbrev pub types_after : List PlainType → List Node → List PlainType
types_after done [] = done
types_after done (x ∷ xs) = types_after (done ++ node_type done x ∷ []) xs

-- the types that nodes make, each of those in front of it
abbrev pub types_of : List Node → List PlainType
types_of nodes = types_after [] nodes

-- a node is made of types with lower numbers
abbrev pub IsMadeOf : ℕ → Node → Type 0
IsMadeOf count (nodes.Sequence item bound) = item < count
IsMadeOf count (nodes.Array item n) = item < count
IsMadeOf count (nodes.Struct fields) = IsTrue (list_all (λ f. nat_lt f.item count) fields.items)
IsMadeOf count _ = Unit {0}

-- what is there stays
abbrev pub Extends : List PlainType → List PlainType → Type 0
Extends old new = (n : ℕ) → n < length old → (n < length new) × (type_at new n ≡ type_at old n)
