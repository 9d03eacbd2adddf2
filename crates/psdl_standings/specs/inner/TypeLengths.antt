-- What a table of types keeps.
use Rattle.std.specs.Prelude.{◌≡◌, ℕ, ◌<◌, List, [], ◌∷◌, length, map}
use Rattle.std.proofs.Common.{get_or}
use Rattle.type_layout.specs.Types.{PlainType}
use Rattle.psdl_standings.specs.declared.text_length.TextLength.{TextLength}
use Rattle.psdl_standings.specs.declared.types.FieldNode.{FieldNode}
use Rattle.psdl_standings.specs.declared.types.Node.{Node}
use Rattle.psdl_standings.specs.TextLengths.{text_length, with_field, octets_of}
use Rattle.psdl_standings.specs.inner.TypeNodes.{type_at, types_of, IsMadeOf}

-- each is made of types with lower numbers
abbrev pub AreMade : List Node → Type 0
AreMade nodes = (n : ℕ) (d : Node) → n < length nodes → IsMadeOf n (get_or nodes n d)

-- with the lengths of the texts of the types
pub record AreTypes (nodes : List Node) (lengths : List TextLength) : Type 0 where
  pub made : AreMade nodes
  pub measured : map octets_of lengths ≡ map text_length (types_of nodes)

-- with fields behind what stands in front
abbrev pub fields_behind : List PlainType → ℕ → List FieldNode → ℕ
fields_behind types front [] = front
fields_behind types front (f ∷ fs) = fields_behind types (with_field front f.name.now (text_length (type_at types f.item))) fs
