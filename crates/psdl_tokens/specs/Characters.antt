-- Strings in the texts of schemas.
use Rattle.std.specs.Prelude.{ℕ, ◌+◌, ◌-◌, zero, suc, List, [], ◌∷◌, ◌||◌, ◌&&◌, ◌==◌, nat_lt, take, drop, Some, None, if◌then◌else◌, option_map}
use Rattle.std.specs.declared.option.Option.{Option}
use Rattle.std.specs.List.{prefix_len}
use Rattle.std.specs.Char.{is_digit}
use Rattle.std.specs.Str.{byte}
use Rattle.std.specs.Str.Parse.{digits_value}
use Rattle.psdl_tokens.specs.declared.character.Character.{Character}
use Rattle.psdl_tokens.specs.declared.quoted.Quoted.{Quoted}
use Rattle.psdl_tokens.specs.Alphabet.{first}

-- what a letter or sign behind `\` stands for
abbrev pub named_escape : ℕ → Option ℕ
named_escape name =
    if name == byte "n" then Some 10
    else if name == byte "t" then Some 9
    else if name == byte "v" then Some 11
    else if name == byte "b" then Some 8
    else if name == byte "r" then Some 13
    else if name == byte "f" then Some 12
    else if name == byte "a" then Some 7
    else if name == byte "\\" || name == byte "?" || name == byte "'" || name == byte "\"" then Some name
    else None

-- how many digits stand at the front, at most so many
abbrev pub digit_count : ℕ → ℕ → List ℕ → ℕ
digit_count radix most rest = prefix_len (λ digit. is_digit digit radix) (take most rest)

-- the byte that digits stand for, which is not NUL; no digits stand for none
abbrev pub byte_of : ℕ → List ℕ → Option ℕ
byte_of radix digits =
    if nat_lt 0 (digits_value radix digits) && nat_lt (digits_value radix digits) 256 then Some (digits_value radix digits) else None

-- a byte by its digits, as many as may be, behind so many bytes of its escape
abbrev pub numbered_escape : ℕ → ℕ → ℕ → List ℕ → Option Character
numbered_escape radix most before rest =
    option_map (λ value. record { byte = value; size = before + digit_count radix most rest })
    (byte_of radix (take (digit_count radix most rest) rest))

-- an escape, by what stands behind its `\`
abbrev pub escape : List ℕ → Option Character
escape rest =
    if is_digit (first rest) 8 then numbered_escape 8 3 1 rest
    else if first rest == byte "x" then numbered_escape 16 2 2 (drop 1 rest)
    else option_map (λ value. record { byte = value; size = 2 }) (named_escape (first rest))

-- the byte that the front stands for in a string, and how many bytes of the text it takes
unfoldable pub character : List ℕ → Option Character
character rest =
    if first rest == byte "\\" then escape (drop 1 rest)
    else if first rest == byte "\n" || first rest == 0 then None
    else Some (record { byte = first rest; size = 1 })

-- the same string with so many bytes more of the text
abbrev pub longer : ℕ → Option Quoted → Option Quoted
longer more string = option_map (λ s. record { bytes = s.bytes; size = s.size + more }) string

-- a character in front of a string
abbrev pub onto_string : Option Character → Option Quoted → Option Quoted
onto_string None string = None
onto_string (Some character) string = option_map (λ s. record { bytes = character.byte ∷ s.bytes; size = s.size }) string

-- how many bytes a character takes
abbrev pub taken : Option Character → ℕ
taken None = 1
taken (Some character) = character.size

-- What stands up to the closing `"`: characters, of which each takes its bytes of the text. The first `inside`
-- bytes belong to a character that began in front of these.
abbrev pub string_in : ℕ → List ℕ → Option Quoted
string_in inside [] = None
string_in (suc inside) (b ∷ bs) = longer 1 (string_in inside bs)
string_in zero (b ∷ bs) =
    if b == byte "\"" then Some (record { bytes = []; size = 1 })
    else onto_string (character (b ∷ bs)) (longer 1 (string_in (taken (character (b ∷ bs)) - 1) bs))
