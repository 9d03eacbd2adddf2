-- The declarations and the modules that a directory holds.
use Rattle.std.specs.Prelude.{ℕ, List, map, Option}
use Rattle.psdl_directory.specs.declared.directory.Directory.{Directory}
use Rattle.psdl_directory.specs.Declarations.{Path, Declaration}
use Rattle.psdl_directory.specs.inner.Nodes.{declaration_view}
use Rattle.psdl_directory.specs.inner.Scopes.{path_in}

abbrev pub all_of : Directory → List Declaration
all_of d = map (declaration_view d.scopes) d.declarations.items

-- the path of the text itself, which is empty, and then that of each module
abbrev pub paths_of : Directory → List Path
paths_of d = d.scopes

-- the names of a module and of those round it, the innermost first; none for the text itself
abbrev pub path_of : Directory → Option ℕ → Path
path_of d number = path_in d.scopes number
