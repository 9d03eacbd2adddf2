-- The text whose standings are kept, and its types by number.
use Rattle.std.specs.Prelude.{List}
use Rattle.type_layout.specs.Types.{PlainType}
use Rattle.psdl_directory.specs.Declarations.{Declaration}
use Rattle.psdl_directory.specs.Directories.{all_of}
use Rattle.psdl_standings.specs.declared.standings.Standings.{Standings}

abbrev pub text_of : Standings → List Declaration
text_of s = all_of s.directory.now

abbrev pub types_in : Standings → List PlainType
types_in s = s.types
