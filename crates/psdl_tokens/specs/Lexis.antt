-- The tokens of a text, up to its first lexical fault.
use Rattle.std.specs.Prelude.{ℕ, ◌+◌, ◌-◌, zero, suc, ◌^◌, List, [], ◌∷◌, ◌++◌, Bool, ◌==◌, ◌&&◌, nat_lt, length, drop, Some, None, if◌then◌else◌}
use Rattle.std.specs.declared.option.Option.{Option}
use Rattle.std.specs.Option.{option_map_or}
use Rattle.std.specs.List.{list_any}
use Rattle.std.specs.Char.{is_ascii_alphabetic, is_ascii_digit}
use Rattle.std.specs.Str.{byte, bytes_eq, str_eq_ignore_ascii_case}
use Rattle.pss_base.specs.declared.place.Place.{Place}
use Rattle.psdl_tokens.specs.declared.token.Token.{Token}
use Rattle.psdl_tokens.specs.declared.token.TokenKind.TheVariants.{Keyword, Mark, Identifier, Miscased, Integer, Text}
use Rattle.psdl_tokens.specs.declared.lexeme.Lexeme.{Lexeme}
use Rattle.psdl_tokens.specs.declared.lexeme.Lexeme.TheVariants.{Gap, Found, Wrong}
use Rattle.psdl_tokens.specs.declared.lexeme.LexicalKind.TheVariants.{BadByte, OpenComment, BadLiteral, LiteralTooWide, LeftOut}
use Rattle.psdl_tokens.specs.declared.lexis.LexicalFault.{LexicalFault}
use Rattle.psdl_tokens.specs.Names.{keywords, left_out_words}
use Rattle.psdl_tokens.specs.Spellings.{keyword_of, mark_at, mark_spelling}
use Rattle.psdl_tokens.specs.Alphabet.{is_blank, run_at, first, second}
use Rattle.psdl_tokens.specs.Places.{place_of, begins_line}
use Rattle.psdl_tokens.specs.Numerals.{integer_of}
use Rattle.psdl_tokens.specs.Characters.{string_in}
use Rattle.psdl_tokens.specs.Comments.{closing, line_len}

-- a keyword but for case
unfoldable pub is_keyword_like : List ℕ → Bool
is_keyword_like word = list_any (str_eq_ignore_ascii_case word) keywords

-- a left-out word in exact case
unfoldable pub is_left_out : List ℕ → Bool
is_left_out word = list_any (bytes_eq word) left_out_words

-- A word: a keyword spelled exactly, a keyword but for case, a left-out word in exact case, else an identifier.
unfoldable pub word_lexeme : List ℕ → Lexeme
word_lexeme word =
    option_map_or (λ keyword. Found (Keyword keyword) (length word)) (keyword_of word)
    (if is_keyword_like word then Found Miscased (length word)
    else if is_left_out word then Wrong LeftOut
    else Found (Identifier word) (length word))

-- An identifier behind `_`, whatever its word. `_` alone is no token.
unfoldable pub identifier_lexeme : List ℕ → Lexeme
identifier_lexeme rest =
    if is_ascii_alphabetic (first rest) then Found (Identifier (run_at rest)) (length (run_at rest) + 1) else Wrong BadByte

-- an integer is below 2^127
abbrev pub integer_found : ℕ → Option ℕ → Lexeme
integer_found size None = Wrong BadLiteral
integer_found size (Some value) = if nat_lt value (2 ^ 127) then Found (Integer value) size else Wrong LiteralTooWide

-- An integer, by all letters, digits and `_` that follow one another.
unfoldable pub integer_lexeme : List ℕ → Lexeme
integer_lexeme run = integer_found (length run) (integer_of run)

-- A string, by what stands behind its first `"`.
unfoldable pub string_lexeme : List ℕ → Lexeme
string_lexeme rest =
    option_map_or (λ string. Found (Text string.bytes) (string.size + 1)) (string_in 0 rest) (Wrong BadLiteral)

-- A comment to its `*/`, by what stands behind its `/*`.
unfoldable pub comment_lexeme : List ℕ → Lexeme
comment_lexeme rest = option_map_or (λ size. Gap (size + 2)) (closing rest) (Wrong OpenComment)

-- A mark by longest match.
unfoldable pub mark_lexeme : List ℕ → Lexeme
mark_lexeme rest = option_map_or (λ mark. Found (Mark mark) (length (mark_spelling mark))) (mark_at rest) (Wrong BadByte)

-- A comment, a line that begins with `#`, a mark, or a byte that begins nothing.
unfoldable pub comment_or_mark : List ℕ → List ℕ → Lexeme
comment_or_mark front rest =
    if first rest == byte "/" && second rest == byte "*" then comment_lexeme (drop 2 rest)
    else if first rest == byte "/" && second rest == byte "/" then Gap (line_len rest)
    else if first rest == byte "#" && begins_line front then Wrong LeftOut
    else mark_lexeme rest

-- What stands behind the bytes in front: a blank, a word, an identifier behind `_`, an integer, a string, or one of these.
unfoldable pub lexeme : List ℕ → List ℕ → Lexeme
lexeme front rest =
    if is_blank (first rest) then Gap 1
    else if is_ascii_alphabetic (first rest) then word_lexeme (run_at rest)
    else if first rest == byte "_" then identifier_lexeme (drop 1 rest)
    else if is_ascii_digit (first rest) then integer_lexeme (run_at rest)
    else if first rest == byte "\"" then string_lexeme (drop 1 rest)
    else comment_or_mark front rest

-- how many bytes it takes
abbrev pub size_of : Lexeme → ℕ
size_of (Gap size) = size
size_of (Found kind size) = size
size_of (Wrong kind) = 1

-- the tokens up to the first fault, and that fault
pub record Lexed : Type 0 where
  pub tokens : List Token
  pub fault : Option LexicalFault

-- a lexeme at a place, in front of what follows; what follows a fault does not count
abbrev pub before : Lexeme → Place → Lexed → Lexed
before (Gap size) place later = later
before (Found kind size) place later = record { tokens = record { place = place; kind = kind } ∷ later.tokens; fault = later.fault }
before (Wrong kind) place later = record { tokens = []; fault = Some (record { place = place; kind = kind }) }

-- A text is lexemes one after another, each as long as it is at its place. The first `inside` bytes of the rest
-- belong to a lexeme that began in front of them.
abbrev pub lexed_behind : ℕ → List ℕ → List ℕ → Lexed
lexed_behind inside front [] = record { tokens = []; fault = None }
lexed_behind (suc inside) front (b ∷ bs) = lexed_behind inside (front ++ b ∷ []) bs
lexed_behind zero front (b ∷ bs) =
    before (lexeme front (b ∷ bs)) (place_of front)
    (lexed_behind (size_of (lexeme front (b ∷ bs)) - 1) (front ++ b ∷ []) bs)

-- the tokens and the fault of a text
unfoldable pub lexed : List ℕ → Lexed
lexed text = lexed_behind 0 [] text
