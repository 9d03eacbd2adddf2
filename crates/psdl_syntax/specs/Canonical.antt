-- The canonical text of tokens: what stands between two neighbours, and what each token is written as.
use Rattle.std.specs.Prelude.{ℕ, ◌+◌, ◌-◌, ◌/◌, ◌%◌, zero, suc, List, [], ◌∷◌, ◌++◌, Bool, true, false, if◌then◌else◌, ◌&&◌, ◌||◌, ◌==◌, not, nat_lt}
use Rattle.std.specs.Char.{is_digit, digit_char}
use Rattle.std.specs.Fmt.{decimal}
use Rattle.psdl_tokens.specs.declared.token.Mark.{Mark}
use Rattle.psdl_tokens.specs.declared.token.Mark.TheVariants.{Scope, LeftBrace, RightBrace, LeftParen, RightParen, LeftBracket, RightBracket, Less, Greater, Semicolon, Comma, Plus, Minus, Not}
use Rattle.psdl_syntax.specs.declared.printing.printer.Edge.{Edge}
use Rattle.psdl_syntax.specs.declared.printing.printer.Edge.TheVariants as edges
use Rattle.psdl_tokens.specs.Spellings.{keyword_spelling, mark_spelling}
use Rattle.psdl_tokens.specs.Lexis.{is_keyword_like, is_left_out}
use Rattle.psdl_syntax.specs.Seen.{Seen, Word, Sign, Placed, Named, Number, Quoted, Stray}
use Rattle.psdl_tree.specs.Trees.{Definitions}
use Rattle.psdl_syntax.specs.Grammar.{definitions}

-- two spaces for each brace that is open
abbrev pub indent : ℕ → List ℕ
indent zero = []
indent (suc depth) = 32 ∷ 32 ∷ indent depth

-- an identifier has `_` in front where its name is a keyword in any case, or a left-out word exactly
unfoldable pub name_text : List ℕ → List ℕ
name_text name = if is_keyword_like name || is_left_out name then 95 ∷ name else name

-- from a space to `~`
abbrev pub is_printed : ℕ → Bool
is_printed byte = nat_lt 31 byte && nat_lt byte 127

-- A byte of a string is written by its digits where it is not printed, and where it is a hexadecimal digit
-- directly behind one that is written so.
abbrev pub is_numbered : Bool → ℕ → Bool
is_numbered behind byte = not (is_printed byte) || (behind && is_digit byte 16)

-- a byte of a string, by its digits or as it is
abbrev pub character_text : Bool → ℕ → List ℕ
character_text true byte = 92 ∷ 120 ∷ digit_char (byte / 16) ∷ digit_char (byte % 16) ∷ []
character_text false byte = if byte == 34 || byte == 92 then 92 ∷ byte ∷ [] else byte ∷ []

-- the bytes of a string, of which the one in front is written by its digits or not
abbrev pub characters_text : Bool → List ℕ → List ℕ
characters_text behind [] = []
characters_text behind (byte ∷ bytes) = character_text (is_numbered behind byte) byte ++ characters_text (is_numbered behind byte) bytes

-- a string between its `"`
unfoldable pub string_text : List ℕ → List ℕ
string_text bytes = 34 ∷ (characters_text false bytes ++ 34 ∷ [])

-- a line ends behind `{` and `;`
abbrev pub line_end : Mark → List ℕ
line_end LeftBrace = 10 ∷ []
line_end Semicolon = 10 ∷ []
line_end _ = []

-- a token as it is written
abbrev pub token_text : Seen → List ℕ
token_text (Word keyword) = keyword_spelling keyword
token_text (Sign mark) = mark_spelling mark ++ line_end mark
token_text (Placed mark place) = mark_spelling mark ++ line_end mark
token_text (Named identifier) = name_text identifier.name
token_text (Number literal) = decimal literal.value
token_text (Quoted literal) = string_text literal.bytes
token_text Stray = []

-- A sign is an operator in front of its operand exactly where no operand ends in front of it. An operand ends
-- with an identifier, a literal or `)`.
abbrev pub sign_edge : Edge → Edge
sign_edge edges.Identifier = edges.Spaced
sign_edge edges.Operand = edges.Spaced
sign_edge _ = edges.Tight

-- what a mark leaves to the token behind it, by what the mark stands behind
abbrev pub mark_edge : Edge → Mark → Edge
mark_edge edge LeftBrace = edges.Line
mark_edge edge Semicolon = edges.Line
mark_edge edge LeftParen = edges.Tight
mark_edge edge LeftBracket = edges.Tight
mark_edge edge Less = edges.Tight
mark_edge edge Scope = edges.Tight
mark_edge edge Greater = edges.Greater
mark_edge edge RightParen = edges.Operand
mark_edge edge Minus = sign_edge edge
mark_edge edge Plus = sign_edge edge
mark_edge edge Not = sign_edge edge
mark_edge edge _ = edges.Spaced

-- what a token leaves to the one behind it
abbrev pub edge_behind : Edge → Seen → Edge
edge_behind edge (Word keyword) = edges.Spaced
edge_behind edge (Sign mark) = mark_edge edge mark
edge_behind edge (Placed mark place) = mark_edge edge mark
edge_behind edge (Named identifier) = edges.Identifier
edge_behind edge (Number literal) = edges.Operand
edge_behind edge (Quoted literal) = edges.Operand
edge_behind edge Stray = edges.Spaced

abbrev pub is_identifier : Edge → Bool
is_identifier edges.Identifier = true
is_identifier _ = false

abbrev pub is_greater : Edge → Bool
is_greater edges.Greater = true
is_greater _ = false

-- A mark that has no space in front. A `(` behind an identifier opens the list of a key, a factory or an
-- operation, and a `::` behind one goes on with the same name.
abbrev pub clings : Edge → Mark → Bool
clings edge Semicolon = true
clings edge Comma = true
clings edge RightParen = true
clings edge RightBracket = true
clings edge LeftBracket = true
clings edge Less = true
clings edge Greater = not (is_greater edge)
clings edge LeftParen = is_identifier edge
clings edge Scope = is_identifier edge
clings edge _ = false

-- in front of a token that is no mark: its line's indentation, nothing, or a space
abbrev pub gap : Edge → ℕ → List ℕ
gap edges.Line depth = indent depth
gap edges.Tight depth = []
gap edges.Identifier depth = 32 ∷ []
gap edges.Operand depth = 32 ∷ []
gap edges.Greater depth = 32 ∷ []
gap edges.Spaced depth = 32 ∷ []

-- in front of a `}`, which begins a line and closes before it
abbrev pub closing_gap : Edge → ℕ → List ℕ
closing_gap edges.Line depth = indent (depth - 1)
closing_gap _ depth = 10 ∷ indent (depth - 1)

-- in front of a mark
abbrev pub mark_gap : Edge → ℕ → Mark → List ℕ
mark_gap edge depth RightBrace = closing_gap edge depth
mark_gap edge depth mark = if clings edge mark then [] else gap edge depth

-- in front of a token, by what the token in front left and how many braces are open
abbrev pub gap_before : Edge → ℕ → Seen → List ℕ
gap_before edge depth (Sign mark) = mark_gap edge depth mark
gap_before edge depth (Placed mark place) = mark_gap edge depth mark
gap_before edge depth _ = gap edge depth

-- how many braces are open behind a mark
abbrev pub mark_depth : ℕ → Mark → ℕ
mark_depth depth LeftBrace = depth + 1
mark_depth depth RightBrace = depth - 1
mark_depth depth _ = depth

-- how many braces are open behind a token
abbrev pub depth_behind : ℕ → Seen → ℕ
depth_behind depth (Sign mark) = mark_depth depth mark
depth_behind depth (Placed mark place) = mark_depth depth mark
depth_behind depth _ = depth

-- the text of tokens, by what the token in front of them left and how many braces are open there
abbrev pub text_behind : Edge → ℕ → List Seen → List ℕ
text_behind edge depth [] = []
text_behind edge depth (token ∷ tokens) =
    gap_before edge depth token ++ (token_text token ++ text_behind (edge_behind edge token) (depth_behind depth token) tokens)

-- the text of tokens
abbrev pub text_of : List Seen → List ℕ
text_of tokens = text_behind edges.Line 0 tokens

-- the canonical text of definitions
unfoldable pub canonical : Definitions → List ℕ
canonical tree = text_of (definitions tree)
