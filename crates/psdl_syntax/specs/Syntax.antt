-- The tree of a text, or else the fault of the text.
use Rattle.std.specs.Prelude.{ℕ, ◌-◌, ◌≡◌, ◌<◌, ◌≤◌, List, [], map, length, take, Some, None, IsSome, Result, Ok, Err, slice_get, ◌⊎◌}
use Rattle.std.specs.Option.{option_map_or}
use Rattle.pss_base.specs.declared.place.Place.{Place}
use Rattle.part_readers.specs.Sentences.{Begins, IsFirstFault}
use Rattle.psdl_tokens.specs.declared.token.Token.{Token}
use Rattle.psdl_tokens.specs.declared.lexeme.LexicalKind.{LexicalKind}
use Rattle.psdl_tokens.specs.declared.lexeme.LexicalKind.TheVariants as lexical
use Rattle.psdl_tree.specs.declared.definitions.Tree.{Tree}
use Rattle.psdl_syntax.specs.declared.syntax_fault.SyntaxFault.{SyntaxFault}
use Rattle.psdl_syntax.specs.declared.syntax_fault.SyntaxKind.{SyntaxKind}
use Rattle.psdl_syntax.specs.declared.syntax_fault.SyntaxKind.TheVariants as kinds
use Rattle.psdl_tokens.specs.Places.{place_of}
use Rattle.psdl_tokens.specs.Lexis.{lexed}
use Rattle.psdl_syntax.specs.Seen.{Seen, seen}
use Rattle.psdl_tree.specs.Trees.{Definitions}
use Rattle.psdl_syntax.specs.Grammar.{definitions}
use Rattle.psdl_tree.specs.Views.{tree_view}
use Rattle.psdl_syntax.specs.Depth.{room, FitsBefore, IsFirstDeep}

-- a text has at most so many bytes
abbrev pub most_bytes : ℕ
most_bytes = 1048576

-- so many brackets may be open at once
abbrev pub most_open : ℕ
most_open = 32

-- the tokens in front of the first lexical fault, or all, as the grammar sees them
abbrev pub words_of : List ℕ → List Seen
words_of text = map seen (lexed text).tokens

-- where a text begins
abbrev pub start : Place
start = place_of []

-- the place of the token that is so many tokens from the end; at 0 the place of the text's end
abbrev pub place_at : List ℕ → List Token → ℕ → Place
place_at text tokens left = option_map_or (λ (token : Token). token.place) (slice_get tokens (length tokens - left)) (place_of text)

-- the tokens of the text spell the tree
pub record IsTextOf (tree : Definitions) (text : List ℕ) : Type 0 where
  pub within : length text ≤ most_bytes
  pub clean : (lexed text).fault ≡ None
  pub spelled : words_of text ≡ definitions tree
  pub fits : IsSome (room most_open (words_of text))

-- the text has a byte past the limit, and here is the first one
pub record IsTooLong (text : List ℕ) (place : Place) : Type 0 where
  pub over : most_bytes < length text
  pub here : place ≡ place_of (take most_bytes text)

-- Left tokens from the end, here, stands the first token with which no text begins, or at 0 the end, where a token is
-- lacking. No bracket in front opens too deep.
pub record IsStop (text : List ℕ) (place : Place) (left : ℕ) : Type 0 where
  pub within : length text ≤ most_bytes
  pub first : IsFirstFault definitions (words_of text) left
  pub fits : FitsBefore most_open (words_of text) left
  pub here : place ≡ place_at text (lexed text).tokens left

-- here stands the first token with which no text begins; or here the text ends, where all tokens begin one and no
-- lexical fault is behind them
pub record IsUnexpected (text : List ℕ) (place : Place) : Type 0 where
  pub left : ℕ
  pub stop : IsStop text place left
  pub clean : left ≡ 0 → (lexed text).fault ≡ None

-- here stands the first bracket that opens too deep, and a text begins with the tokens up to it
pub record OpensTooDeep (text : List ℕ) (place : Place) : Type 0 where
  pub within : length text ≤ most_bytes
  pub left : ℕ
  pub first : IsFirstDeep most_open definitions (words_of text) left
  pub here : place ≡ place_at text (lexed text).tokens left

-- here stands no token, and a text begins with those in front, among which no bracket opens too deep
pub record IsNoToken (text : List ℕ) (place : Place) (kind : LexicalKind) : Type 0 where
  pub within : length text ≤ most_bytes
  pub fault : (lexed text).fault ≡ Some (record { place = place; kind = kind })
  pub begun : Begins definitions (words_of text)
  pub fits : IsSome (room most_open (words_of text))

-- the fault of a text, and where it has it
abbrev pub IsFault : List ℕ → Place → SyntaxKind → Type 0
IsFault text place kinds.BadByte = IsNoToken text place lexical.BadByte
IsFault text place kinds.OpenComment = IsNoToken text place lexical.OpenComment
IsFault text place kinds.BadLiteral = IsNoToken text place lexical.BadLiteral
IsFault text place kinds.LiteralTooWide = IsNoToken text place lexical.LiteralTooWide
IsFault text place kinds.Unexpected = IsUnexpected text place
IsFault text place kinds.LeftOut = IsNoToken text place lexical.LeftOut
IsFault text place kinds.TooDeep = OpensTooDeep text place
IsFault text place kinds.TooLong = IsTooLong text place
IsFault text place kinds.NoMemory = ⊥

-- the fault of the text, or memory ran out, which is told at the text's begin
abbrev pub IsTold : List ℕ → Place → SyntaxKind → Type 0
IsTold text place kinds.BadByte = IsFault text place kinds.BadByte
IsTold text place kinds.OpenComment = IsFault text place kinds.OpenComment
IsTold text place kinds.BadLiteral = IsFault text place kinds.BadLiteral
IsTold text place kinds.LiteralTooWide = IsFault text place kinds.LiteralTooWide
IsTold text place kinds.Unexpected = IsFault text place kinds.Unexpected
IsTold text place kinds.LeftOut = IsFault text place kinds.LeftOut
IsTold text place kinds.TooDeep = IsFault text place kinds.TooDeep
IsTold text place kinds.TooLong = IsFault text place kinds.TooLong
IsTold text place kinds.NoMemory = place ≡ start

-- this tree is given, or memory ran out
abbrev pub IsParsed : Result Tree SyntaxFault → Definitions → Type 0
IsParsed (Ok tree) other = tree_view tree ≡ other
IsParsed (Err fault) other = fault.kind ≡ kinds.NoMemory

-- a text has at most one fault
abbrev pub HasOneFault : Type 0
HasOneFault = (text : List ℕ) (place other : Place) (kind another : SyntaxKind) → IsFault text place kind → IsFault text other another → (place ≡ other) × (kind ≡ another)

-- a text that has a fault is no text of a tree
abbrev pub HasNoTree : Type 0
HasNoTree = (text : List ℕ) (place : Place) (kind : SyntaxKind) (tree : Definitions) → IsFault text place kind → IsTextOf tree text → ⊥

-- each text is that of a tree, or has a fault
abbrev pub HasTreeOrFault : Type 0
HasTreeOrFault = (text : List ℕ) → ((tree : Definitions) × IsTextOf tree text) ⊎ ((place : Place) × (kind : SyntaxKind) × IsFault text place kind)
