-- How keywords and marks are spelled.
use Rattle.std.specs.Prelude.{ℕ, List, [], ◌∷◌, find, codes, ◌==◌}
use Rattle.std.specs.declared.option.Option.{Option}
use Rattle.std.specs.List.{starts_with}
use Rattle.std.specs.Str.{bytes_eq}
use Rattle.psdl_tokens.specs.declared.token.Keyword.{Keyword}
use Rattle.psdl_tokens.specs.declared.token.Keyword.TheVariants.{Abstract, Boolean, Catalog, Char, Const, Enum, Factory, Implements, In, InOut, Key, Long, Module, Octet, Of, Out, Primary, Provides, ReadOnly, Ref, Sequence, Short, State, StorageHome, StorageType, String, Struct, Typedef, Unsigned, Void}
use Rattle.psdl_tokens.specs.declared.token.Mark.{Mark}
use Rattle.psdl_tokens.specs.declared.token.Mark.TheVariants.{ShiftLeft, ShiftRight, Scope, LeftBrace, RightBrace, LeftParen, RightParen, LeftBracket, RightBracket, Less, Greater, Colon, Semicolon, Comma, Equals, Or, Xor, And, Plus, Minus, Times, Divide, Remainder, Not}

-- the word that a keyword is written as
abbrev pub keyword_spelling : Keyword → List ℕ
keyword_spelling Abstract = codes "abstract"
keyword_spelling Boolean = codes "boolean"
keyword_spelling Catalog = codes "catalog"
keyword_spelling Char = codes "char"
keyword_spelling Const = codes "const"
keyword_spelling Enum = codes "enum"
keyword_spelling Factory = codes "factory"
keyword_spelling Implements = codes "implements"
keyword_spelling In = codes "in"
keyword_spelling InOut = codes "inout"
keyword_spelling Key = codes "key"
keyword_spelling Long = codes "long"
keyword_spelling Module = codes "module"
keyword_spelling Octet = codes "octet"
keyword_spelling Of = codes "of"
keyword_spelling Out = codes "out"
keyword_spelling Primary = codes "primary"
keyword_spelling Provides = codes "provides"
keyword_spelling ReadOnly = codes "readonly"
keyword_spelling Ref = codes "ref"
keyword_spelling Sequence = codes "sequence"
keyword_spelling Short = codes "short"
keyword_spelling State = codes "state"
keyword_spelling StorageHome = codes "storagehome"
keyword_spelling StorageType = codes "storagetype"
keyword_spelling String = codes "string"
keyword_spelling Struct = codes "struct"
keyword_spelling Typedef = codes "typedef"
keyword_spelling Unsigned = codes "unsigned"
keyword_spelling Void = codes "void"

-- all keywords
abbrev pub all_keywords : List Keyword
all_keywords =
    Abstract ∷ Boolean ∷ Catalog ∷ Char ∷ Const ∷ Enum ∷ Factory ∷ Implements ∷ In ∷ InOut ∷ Key ∷
    Long ∷ Module ∷ Octet ∷ Of ∷ Out ∷ Primary ∷ Provides ∷ ReadOnly ∷ Ref ∷ Sequence ∷ Short ∷
    State ∷ StorageHome ∷ StorageType ∷ String ∷ Struct ∷ Typedef ∷ Unsigned ∷ Void ∷ []

-- the keyword that is written as this word
unfoldable pub keyword_of : List ℕ → Option Keyword
keyword_of word = find (λ keyword. bytes_eq word (keyword_spelling keyword)) all_keywords

-- the bytes that a mark is written as
abbrev pub mark_spelling : Mark → List ℕ
mark_spelling ShiftLeft = codes "<<"
mark_spelling ShiftRight = codes ">>"
mark_spelling Scope = codes "::"
mark_spelling LeftBrace = codes "{"
mark_spelling RightBrace = codes "}"
mark_spelling LeftParen = codes "("
mark_spelling RightParen = codes ")"
mark_spelling LeftBracket = codes "["
mark_spelling RightBracket = codes "]"
mark_spelling Less = codes "<"
mark_spelling Greater = codes ">"
mark_spelling Colon = codes ":"
mark_spelling Semicolon = codes ";"
mark_spelling Comma = codes ","
mark_spelling Equals = codes "="
mark_spelling Or = codes "|"
mark_spelling Xor = codes "^"
mark_spelling And = codes "&"
mark_spelling Plus = codes "+"
mark_spelling Minus = codes "-"
mark_spelling Times = codes "*"
mark_spelling Divide = codes "/"
mark_spelling Remainder = codes "%"
mark_spelling Not = codes "~"

-- all marks, the longer ones first
abbrev pub all_marks : List Mark
all_marks =
    ShiftLeft ∷ ShiftRight ∷ Scope ∷ LeftBrace ∷ RightBrace ∷ LeftParen ∷ RightParen ∷
    LeftBracket ∷ RightBracket ∷ Less ∷ Greater ∷ Colon ∷ Semicolon ∷ Comma ∷ Equals ∷ Or ∷ Xor ∷
    And ∷ Plus ∷ Minus ∷ Times ∷ Divide ∷ Remainder ∷ Not ∷ []

-- the longest mark that a text begins with
abbrev pub mark_at : List ℕ → Option Mark
mark_at rest = find (λ mark. starts_with ◌==◌ rest (mark_spelling mark)) all_marks
