-- The text whose members are told.
use Rattle.std.specs.Prelude.{List}
use Rattle.psdl_directory.specs.Declarations.{Declaration}
use Rattle.psdl_lineage.specs.Lineages.{text_of}
use Rattle.psdl_members.specs.declared.inherited.Inherited.{Inherited}

abbrev pub inherited_in : Inherited → List Declaration
inherited_in i = text_of i.lineage.now
