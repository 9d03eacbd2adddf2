-- The texts that lines of descent, and questions about them, are of.
use Rattle.std.specs.Prelude.{List}
use Rattle.psdl_directory.specs.Declarations.{Declaration}
use Rattle.psdl_directory.specs.Directories.{all_of}
use Rattle.psdl_lineage.specs.declared.lineage.Lineage.{Lineage}
use Rattle.psdl_lineage.specs.declared.conformity.Conformity.{Conformity}

abbrev pub text_of : Lineage → List Declaration
text_of l = all_of l.directory.now

abbrev pub asked_of : Conformity → List Declaration
asked_of c = text_of c.lineage.now
