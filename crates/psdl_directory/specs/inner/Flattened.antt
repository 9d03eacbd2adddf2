-- The declarations that a row of them stands for, and those of definitions of two sorts.
use Rattle.std.specs.Prelude.{List, [], map}
use Rattle.psdl_tree.specs.Trees.{Definition, ModuleDefinition, TypeDefinitionDefinition, EnumerationDefinition}
use Rattle.psdl_directory.specs.declared.flat.Flat.{Flat}
use Rattle.psdl_directory.specs.Declarations.{Path, Declaration, declared_by}
use Rattle.psdl_directory.specs.inner.Nodes.{declaration_view}

abbrev pub all_in : Flat → List Declaration
all_in flat = map (declaration_view flat.scopes) flat.declarations.items

-- that of a definition that has one
abbrev pub single : Path → Definition → List Declaration
single path (ModuleDefinition name definitions) = []
single path (TypeDefinitionDefinition definition) = []
single path (EnumerationDefinition enumeration) = []
single path definition = declared_by path definition

-- those of a definition that is no module
abbrev pub plain : Path → Definition → List Declaration
plain path (ModuleDefinition name definitions) = []
plain path definition = declared_by path definition
