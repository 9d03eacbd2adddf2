-- The lengths of the texts of enumerations.
use Rattle.std.specs.Prelude.{ℕ, List, [], ◌∷◌}
use Rattle.psdl_tree.specs.declared.names.Identifier.{Identifier}
use Rattle.psdl_tree.specs.Trees.{Identifiers}
use Rattle.psdl_directory.specs.Declarations.{all_identifiers}
use Rattle.psdl_standings.specs.TextLengths.{with_name}

-- with names behind what stands in front
abbrev pub names_length : ℕ → List Identifier → ℕ
names_length front [] = front
names_length front (i ∷ is) = names_length (with_name front i.name) is

-- the first five octets stand in front of the enumerators
abbrev pub enumeration_length : Identifiers → ℕ
enumeration_length enumerators = names_length 5 (all_identifiers enumerators)
