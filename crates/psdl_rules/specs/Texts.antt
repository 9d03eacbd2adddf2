-- The text under judgement.
use Rattle.std.specs.Prelude.{List}
use Rattle.psdl_directory.specs.Declarations.{Declaration}
use Rattle.psdl_lineage.specs.Lineages.{text_of}
use Rattle.psdl_rules.specs.declared.text.Text.{Text}

abbrev pub judged : Text → List Declaration
judged t = text_of t.lineage.now
