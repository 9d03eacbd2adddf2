-- The text whose types are laid out.
use Rattle.std.specs.Prelude.{List}
use Rattle.psdl_directory.specs.Declarations.{Declaration}
use Rattle.psdl_directory.specs.Directories.{all_of}
use Rattle.psdl_check.specs.declared.layouts.Layouts.{Layouts}

abbrev pub laid_text : Layouts → List Declaration
laid_text l = all_of l.directory.now
