-- The text whose homes have these factories.
use Rattle.std.specs.Prelude.{List}
use Rattle.psdl_directory.specs.Declarations.{Declaration}
use Rattle.psdl_lineage.specs.Lineages.{text_of}
use Rattle.psdl_check.specs.declared.home_factories.HomeFactories.{HomeFactories}

abbrev pub factories_text : HomeFactories → List Declaration
factories_text f = text_of f.lineage.now
