-- What a printer does with tokens, one at a time.
use Rattle.std.specs.Prelude.{ℕ, List, [], ◌∷◌, ◌++◌}
use Rattle.std.specs.Fmt.{decimal}
use Rattle.psdl_tokens.specs.declared.token.Mark.{Mark}
use Rattle.psdl_syntax.specs.declared.printing.printer.Edge.{Edge}
use Rattle.psdl_syntax.specs.declared.printing.printer.Edge.TheVariants as edges
use Rattle.psdl_syntax.specs.declared.printing.printer.Printer.{Printer}
use Rattle.psdl_tokens.specs.Spellings.{keyword_spelling, mark_spelling}
use Rattle.psdl_syntax.specs.Canonical.{name_text, string_text, gap, mark_gap, line_end, mark_edge, mark_depth}
use Rattle.psdl_syntax.specs.Seen.{Seen, Word, Sign, Placed, Named, Number, Quoted, Stray}

-- the printer behind a mark
unfoldable pub put_mark : Printer → Mark → Printer
put_mark printer mark = record {
  text = printer.text ++ (mark_gap printer.edge printer.depth mark ++ (mark_spelling mark ++ line_end mark));
  edge = mark_edge printer.edge mark;
  depth = mark_depth printer.depth mark;
}

-- the printer behind another token, of this text, which leaves this
unfoldable pub put_text : Printer → List ℕ → Edge → Printer
put_text printer text edge = record {
  text = printer.text ++ (gap printer.edge printer.depth ++ text);
  edge = edge;
  depth = printer.depth;
}

-- the printer behind a token
abbrev pub put : Printer → Seen → Printer
put printer (Word keyword) = put_text printer (keyword_spelling keyword) edges.Spaced
put printer (Sign mark) = put_mark printer mark
put printer (Placed mark place) = put_mark printer mark
put printer (Named identifier) = put_text printer (name_text identifier.name) edges.Identifier
put printer (Number literal) = put_text printer (decimal literal.value) edges.Operand
put printer (Quoted literal) = put_text printer (string_text literal.bytes) edges.Operand
put printer Stray = put_text printer [] edges.Spaced

-- the printer behind tokens
abbrev pub printed : Printer → List Seen → Printer
printed printer [] = printer
printed printer (token ∷ tokens) = printed (put printer token) tokens
