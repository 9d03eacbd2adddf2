-- The text that a schema is made of.
use Rattle.std.specs.Prelude.{◌≡◌, List}
use Rattle.psdl_directory.specs.Declarations.{Declaration}
use Rattle.psdl_lineage.specs.Lineages.{text_of}
use Rattle.psdl_standings.specs.Texts as told
use Rattle.psdl_check.specs.declared.text.Text.{Text}

-- by what it descends from
abbrev pub text_in : Text → List Declaration
text_in t = text_of t.lineage.now

-- by what its declarations stand for
abbrev pub told_in : Text → List Declaration
told_in t = told.text_of t.standings.now

-- it is one text
abbrev pub IsOne : Text → Type 0
IsOne t = told_in t ≡ text_in t
