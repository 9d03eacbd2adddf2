-- Strings that are written are read again.
use Rattle.std.proofs.Common.{◌≡◌, ℕ, ◌+◌, ◌-◌, ◌/◌, ◌%◌, ◌<◌, List, [], ◌∷◌, ◌++◌, Bool, true, false, not, ◌||◌, ◌&&◌, ◌==◌, length, take, Option, Some, refl, ap, ◌∙◌, inl, inr, arith, append_assoc, length-append}
use Rattle.std.specs.Prelude.{nat_lt, option_map}
use Rattle.std.specs.List.{list_all}
use Rattle.std.specs.Char.{is_digit, digit_value, digit_char}
use Rattle.std.specs.Str.Parse.{digits_value}
use Rattle.std.proofs.lemmas.Bool.{cases_Bool, cases_lt, lt-ltb, ltb-true, ne_eqb, eqb-true, and_parts, or_parts, or_cases, not-false}
use Rattle.psdl_tokens.specs.declared.character.Character.{Character}
use Rattle.psdl_tokens.specs.declared.quoted.Quoted.{Quoted}
use Rattle.psdl_tokens.specs.declared.token.TokenKind.TheVariants as kinds
use Rattle.psdl_tokens.specs.declared.lexeme.Lexeme.TheVariants.{Found}
use Rattle.psdl_tokens.specs.Characters.{character, digit_count, byte_of, onto_string, longer, string_in}
use Rattle.psdl_tokens.specs.Lexis.{lexeme, string_lexeme}
use Rattle.psdl_syntax.specs.Canonical.{is_printed, is_numbered, character_text, characters_text, string_text}

-- a byte that is not NUL
abbrev pub is_text_byte : ℕ → Bool
is_text_byte byte = nat_lt 0 byte && nat_lt byte 256

-- a digit as it is written
digit_again : (d : ℕ) → d < 16 → digit_value (digit_char d) ≡ d
digit_again d h =
    elim (cases_lt d 10) [
      | inl small ↦ grind arith
      | inr large ↦ grind arith
    ]

-- a byte by two digits
numbered_character : (h l byte : ℕ) (tail : List ℕ) → is_digit h 16 ≡ true → is_digit l 16 ≡ true → digits_value 16 (h ∷ l ∷ []) ≡ byte → is_text_byte byte ≡ true → character (92 ∷ 120 ∷ h ∷ l ∷ tail) ≡ Some (record { byte = byte; size = 4 })
unfolding character
numbered_character h l byte tail high low value text =
    let counted : digit_count 16 2 (h ∷ l ∷ tail) ≡ 2 = rw (high, low) refl in
    let found : byte_of 16 (h ∷ l ∷ []) ≡ Some byte = rw (value, text) refl in
    ap (λ n. option_map (λ value. record { byte = value; size = 2 + n }) (byte_of 16 (take n (h ∷ l ∷ tail)))) counted
    ∙ ap (option_map (λ value. record { byte = value; size = 4 })) found

-- a character as it is written, by its digits
digits_again : (byte : ℕ) (tail : List ℕ) → is_text_byte byte ≡ true → character (character_text true byte ++ tail) ≡ Some (record { byte = byte; size = 4 })
digits_again byte tail text =
    let both = and_parts (nat_lt 0 byte) (nat_lt byte 256) text in
    let below : byte < 256 = ltb-true byte 256 both.1 in
    let high : byte / 16 < 16 = omega arith in
    let low : byte % 16 < 16 = omega arith in
    let h = digit_again (byte / 16) high in
    let l = digit_again (byte % 16) low in
    numbered_character (digit_char (byte / 16)) (digit_char (byte % 16)) byte tail
    (ap (λ d. nat_lt d 16) h ∙ lt-ltb (byte / 16) 16 high)
    (ap (λ d. nat_lt d 16) l ∙ lt-ltb (byte % 16) 16 low)
    (omega (arith, h, l))
    text

-- a character as it is written, for itself or behind a `\`
marked_again : (byte : ℕ) (tail : List ℕ) → (byte == 34 || byte == 92) ≡ true → character (92 ∷ byte ∷ tail) ≡ Some (record { byte = byte; size = 2 })
unfolding character
marked_again byte tail h =
    elim (or_cases (byte == 34) (byte == 92) h) [
      | inl quote ↦ rw (eqb-true byte 34 quote) refl
      | inr slash ↦ rw (eqb-true byte 92 slash) refl
    ]

plain_again : (byte : ℕ) (tail : List ℕ) → is_printed byte ≡ true → (byte == 34 || byte == 92) ≡ false → character (byte ∷ tail) ≡ Some (record { byte = byte; size = 1 })
unfolding character
plain_again byte tail printed plain =
    let slash = (or_parts (byte == 34) (byte == 92) plain).1 in
    let above : 31 < byte = ltb-true 31 byte (and_parts (nat_lt 31 byte) (nat_lt byte 127) printed).0 in
    let feed : (byte == 10) ≡ false = ne_eqb byte 10 (λ e. omega arith) in
    let nul : (byte == 0) ≡ false = ne_eqb byte 0 (λ e. omega arith) in
    rw (slash, feed, nul) refl

-- what a string of these bytes and of this length is
abbrev of_size : List ℕ → ℕ → Option Quoted
of_size bytes size = Some (record { bytes = bytes; size = size })

same_size : (bytes : List ℕ) (m n : ℕ) → m ≡ n → of_size bytes m ≡ of_size bytes n
same_size bytes m n e = ap (of_size bytes) e

-- a character in front of a string
string_more : (b : ℕ) (bs : List ℕ) (c : Character) → (b == 34) ≡ false → character (b ∷ bs) ≡ Some c → string_in 0 (b ∷ bs) ≡ onto_string (Some c) (longer 1 (string_in (c.size - 1) bs))
string_more b bs c other e = rw (other, e) refl

numbered_more : (byte : ℕ) (bytes tail : List ℕ) (size : ℕ) → is_text_byte byte ≡ true → string_in 0 tail ≡ of_size bytes size → string_in 0 (character_text true byte ++ tail) ≡ of_size (byte ∷ bytes) (4 + size)
numbered_more byte bytes tail size text e =
    string_more 92 (120 ∷ digit_char (byte / 16) ∷ digit_char (byte % 16) ∷ tail) (record { byte = byte; size = 4 }) refl (digits_again byte tail text)
    ∙ ap (λ s. onto_string (Some (record { byte = byte; size = 4 })) (longer 1 (longer 1 (longer 1 (longer 1 s))))) e
    ∙ same_size (byte ∷ bytes) ((((size + 1) + 1) + 1) + 1) (4 + size) (omega arith)

marked_more : (byte : ℕ) (bytes tail : List ℕ) (size : ℕ) → (byte == 34 || byte == 92) ≡ true → string_in 0 tail ≡ of_size bytes size → string_in 0 (92 ∷ byte ∷ tail) ≡ of_size (byte ∷ bytes) (2 + size)
marked_more byte bytes tail size marked e =
    string_more 92 (byte ∷ tail) (record { byte = byte; size = 2 }) refl (marked_again byte tail marked)
    ∙ ap (λ s. onto_string (Some (record { byte = byte; size = 2 })) (longer 1 (longer 1 s))) e
    ∙ same_size (byte ∷ bytes) ((size + 1) + 1) (2 + size) (omega arith)

plain_more : (byte : ℕ) (bytes tail : List ℕ) (size : ℕ) → is_printed byte ≡ true → (byte == 34 || byte == 92) ≡ false → string_in 0 tail ≡ of_size bytes size → string_in 0 (byte ∷ tail) ≡ of_size (byte ∷ bytes) (1 + size)
plain_more byte bytes tail size printed plain e =
    string_more byte tail (record { byte = byte; size = 1 }) (or_parts (byte == 34) (byte == 92) plain).0 (plain_again byte tail printed plain)
    ∙ ap (λ s. onto_string (Some (record { byte = byte; size = 1 })) (longer 1 s)) e
    ∙ same_size (byte ∷ bytes) (size + 1) (1 + size) (omega arith)

-- a character as it is written, in front of a string
character_more : (numbered : Bool) (byte : ℕ) (bytes tail : List ℕ) (size : ℕ) → is_text_byte byte ≡ true → (numbered ≡ false → is_printed byte ≡ true) → string_in 0 tail ≡ of_size bytes size → string_in 0 (character_text numbered byte ++ tail) ≡ of_size (byte ∷ bytes) (length (character_text numbered byte) + size)
character_more true byte bytes tail size text printed e = numbered_more byte bytes tail size text e
character_more false byte bytes tail size text printed e =
    elim (cases_Bool (byte == 34 || byte == 92)) [
      | inl marked ↦ rw marked (marked_more byte bytes tail size marked e)
      | inr plain ↦ rw plain (plain_more byte bytes tail size (printed refl) plain e)
    ]

printed_if : (behind : Bool) (byte : ℕ) → is_numbered behind byte ≡ false → is_printed byte ≡ true
printed_if behind byte none = not-false (is_printed byte) (or_parts (not (is_printed byte)) (behind && is_digit byte 16) none).0

-- the characters of a string, in front of its end
characters_again : (behind : Bool) (bytes rest : List ℕ) → list_all is_text_byte bytes ≡ true → string_in 0 (characters_text behind bytes ++ 34 ∷ rest) ≡ of_size bytes (length (characters_text behind bytes) + 1)
characters_again behind [] rest all = same_size [] 1 (0 + 1) refl
characters_again behind (byte ∷ bytes) rest all =
    let both = and_parts (is_text_byte byte) (list_all is_text_byte bytes) all in
    let numbered : Bool = is_numbered behind byte in
    let here : List ℕ = character_text numbered byte in
    let others : List ℕ = characters_text numbered bytes in
    ap (string_in 0) (append_assoc here others (34 ∷ rest))
    ∙ character_more numbered byte bytes (others ++ 34 ∷ rest) (length others + 1) both.0 (printed_if behind byte) (characters_again numbered bytes rest both.1)
    ∙ same_size (byte ∷ bytes) (length here + (length others + 1)) (length (here ++ others) + 1) (omega (arith, length-append here others))

string_found : (front rest : List ℕ) → lexeme front (34 ∷ rest) ≡ string_lexeme rest
unfolding lexeme
string_found front rest = refl

size_found : (rest bytes : List ℕ) (size : ℕ) → string_in 0 rest ≡ of_size bytes size → string_lexeme rest ≡ Found (kinds.Text bytes) (size + 1)
unfolding string_lexeme
size_found rest bytes size e = rw e refl

-- a string as it is written
pub string_again : (front bytes rest : List ℕ) → list_all is_text_byte bytes ≡ true → lexeme front (string_text bytes ++ rest) ≡ Found (kinds.Text bytes) (length (string_text bytes))
unfolding string_text
string_again front bytes rest all =
    let inner : List ℕ = characters_text false bytes in
    string_found front ((inner ++ 34 ∷ []) ++ rest)
    ∙ ap string_lexeme (append_assoc inner (34 ∷ []) rest)
    ∙ size_found (inner ++ 34 ∷ rest) bytes (length inner + 1) (characters_again false bytes rest all)
    ∙ ap (Found (kinds.Text bytes)) (omega (arith, length-append inner (34 ∷ [])))
