-- What is spoken for a text that has a fault.
use Rattle.std.specs.Prelude.{ℕ, List, [], ◌∷◌, ◌++◌, codes, decimal}
use Rattle.pss_base.specs.declared.place.Place.{Place}
use Rattle.psdl_syntax.specs.declared.syntax_fault.SyntaxKind.{SyntaxKind}
use Rattle.psdl_syntax.specs.declared.syntax_fault.SyntaxKind.TheVariants as kinds
use Rattle.psdl_rules.specs.Faults.{text}
use Rattle.pss_serving.specs.declared.schema_fault.SchemaFault.{SchemaFault}
use Rattle.pss_serving.specs.declared.schema_fault.SchemaFault.TheVariants.{Syntax, Check}

-- the number and the name of a kind of fault of the language
abbrev pub kind_text : SyntaxKind → List ℕ
kind_text kinds.BadByte = codes "S1 BadByte"
kind_text kinds.OpenComment = codes "S2 OpenComment"
kind_text kinds.BadLiteral = codes "S3 BadLiteral"
kind_text kinds.LiteralTooWide = codes "S4 LiteralTooWide"
kind_text kinds.Unexpected = codes "S5 Unexpected"
kind_text kinds.LeftOut = codes "S6 LeftOut"
kind_text kinds.TooDeep = codes "S7 TooDeep"
kind_text kinds.TooLong = codes "S8 TooLong"
kind_text kinds.NoMemory = codes "NoMemory"

-- the line and the column of the fault, and its kind, as `schema 1:23 S6 LeftOut`
abbrev pub placed_line : Place → List ℕ → List ℕ
placed_line place kind = codes "schema " ++ decimal place.line ++ codes ":" ++ decimal place.column ++ codes " " ++ kind ++ 10 ∷ []

abbrev pub refusal_line : SchemaFault → List ℕ
refusal_line (Syntax fault) = placed_line fault.place (kind_text fault.kind)
refusal_line (Check fault) = placed_line fault.place (text fault.kind)
