-- What the tokens of a text may hold: names that are words, integers below 2^127, strings without NUL.
use Rattle.std.proofs.Common.{◌≡◌, ℕ, zero, suc, ◌+◌, ◌-◌, ◌^◌, ◌<◌, List, [], ◌∷◌, ◌++◌, true, false, cond, ◌||◌, ◌&&◌, ◌==◌, length, take, drop, All, Option, Some, None, refl, inl, inr, arith}
use Rattle.std.specs.Prelude.{nat_lt, option_map}
use Rattle.std.specs.Option.{option_map_or}
use Rattle.std.specs.List.{list_all, prefix_len}
use Rattle.std.specs.Char.{is_ascii_alphabetic, is_ascii_digit, is_digit}
use Rattle.std.specs.Str.Parse.{digits_value}
use Rattle.std.proofs.Math.Numerals.{one-add}
use Rattle.std.proofs.lemmas.Bool.{cases_Bool, cond_both, ltb-true, lt-ltb, and_from, or_parts, eqb-false}
use Rattle.pss_base.specs.declared.place.Place.{Place}
use Rattle.psdl_tokens.specs.declared.character.Character.{Character}
use Rattle.psdl_tokens.specs.declared.quoted.Quoted.{Quoted}
use Rattle.psdl_tokens.specs.declared.token.Token.{Token}
use Rattle.psdl_tokens.specs.declared.token.TokenKind.{TokenKind}
use Rattle.psdl_tokens.specs.declared.token.TokenKind.TheVariants as kinds
use Rattle.psdl_tokens.specs.declared.lexeme.Lexeme.{Lexeme}
use Rattle.psdl_tokens.specs.declared.lexeme.Lexeme.TheVariants.{Gap, Found, Wrong}
use Rattle.psdl_tokens.specs.declared.lexeme.LexicalKind.TheVariants.{BadByte, OpenComment, BadLiteral, LiteralTooWide, LeftOut}
use Rattle.psdl_tokens.specs.Alphabet.{first, second, is_word_byte, is_blank, run_at}
use Rattle.psdl_tokens.specs.Places.{place_of, begins_line}
use Rattle.psdl_tokens.specs.Spellings.{keyword_of, mark_at, mark_spelling}
use Rattle.psdl_tokens.specs.Numerals.{integer_of}
use Rattle.psdl_tokens.specs.Comments.{closing, line_len}
use Rattle.psdl_tokens.specs.Characters.{character, escape, named_escape, numbered_escape, digit_count, byte_of, onto_string, longer, taken, string_in}
use Rattle.psdl_syntax.specs.Seen.{Seen, Word, Sign, Placed, Named, Number, Stray, Quoted as QuotedSeen}
use Rattle.psdl_tokens.specs.Lexis.{lexeme, word_lexeme, identifier_lexeme, integer_lexeme, integer_found, string_lexeme, comment_or_mark, comment_lexeme, mark_lexeme, is_keyword_like, is_left_out, before, size_of, lexed_behind, lexed, Lexed}
use Rattle.psdl_syntax.proofs.StringsAgain.{is_text_byte}

-- a token that a text may have
abbrev pub SoundKind : TokenKind → Type 0
SoundKind (kinds.Keyword keyword) = Unit {0}
SoundKind (kinds.Mark mark) = Unit {0}
SoundKind (kinds.Identifier name) = (is_ascii_alphabetic (first name) ≡ true) × (list_all is_word_byte name ≡ true)
SoundKind kinds.Miscased = Unit {0}
SoundKind (kinds.Integer value) = value < 2 ^ 127
SoundKind (kinds.Text bytes) = list_all is_text_byte bytes ≡ true

abbrev pub SoundKinds : List Token → Type 0
SoundKinds [] = Unit {0}
SoundKinds (token ∷ tokens) = SoundKind token.kind × SoundKinds tokens

-- a token without its place
abbrev pub kind_of : Seen → TokenKind
kind_of (Word keyword) = kinds.Keyword keyword
kind_of (Sign mark) = kinds.Mark mark
kind_of (Placed mark place) = kinds.Mark mark
kind_of (Named identifier) = kinds.Identifier identifier.name
kind_of (Number literal) = kinds.Integer literal.value
kind_of (QuotedSeen literal) = kinds.Text literal.bytes
kind_of Stray = kinds.Miscased

-- tokens that a text may have
abbrev pub Sound : List Seen → Type 0
Sound [] = Unit {0}
Sound (token ∷ tokens) = SoundKind (kind_of token) × Sound tokens

abbrev SoundLexeme : Lexeme → Type 0
SoundLexeme (Gap size) = Unit {0}
SoundLexeme (Found kind size) = SoundKind kind
SoundLexeme (Wrong kind) = Unit {0}

-- bytes, one after another
abbrev Bytes : List ℕ → Type 0
Bytes [] = Unit {0}
Bytes (b ∷ bs) = (b < 256) × Bytes bs

bytes_of : (bs : List ℕ) → All (λ b. b < 256) bs → Bytes bs
bytes_of [] h = tt
bytes_of (b ∷ bs) h = (h zero 0 (omega arith), bytes_of bs (λ k d lt. h (suc k) d (omega arith)))

bytes_drop : (n : ℕ) (bs : List ℕ) → Bytes bs → Bytes (drop n bs)
bytes_drop zero bs h = h
bytes_drop (suc n) [] h = tt
bytes_drop (suc n) (b ∷ bs) h = bytes_drop n bs h.1

-- a fact of what an option is mapped to
option_both : {A B : Type 0} (P : B → Type 0) (f : A → B) (o : Option A) (d : B) → ((a : A) → P (f a)) → P d → P (option_map_or f o d)
option_both P f None d some none = none
option_both P f (Some a) d some none = some a

-- words
run_word : (rest : List ℕ) → list_all is_word_byte (run_at rest) ≡ true
run_word [] = refl
run_word (c ∷ cs) =
    elim (cases_Bool (is_word_byte c)) [
      | inl within ↦ rw (within, one-add (prefix_len is_word_byte cs), within) (run_word cs)
      | inr outside ↦ rw outside refl
    ]

letter_word : (c : ℕ) → is_ascii_alphabetic c ≡ true → is_word_byte c ≡ true
letter_word c h = grind arith

run_first : (rest : List ℕ) → is_ascii_alphabetic (first rest) ≡ true → is_ascii_alphabetic (first (run_at rest)) ≡ true
run_first [] h = h
run_first (c ∷ cs) h = rw (letter_word c h, one-add (prefix_len is_word_byte cs)) h

sound_word : (word : List ℕ) → is_ascii_alphabetic (first word) ≡ true → list_all is_word_byte word ≡ true → SoundLexeme (word_lexeme word)
unfolding word_lexeme
sound_word word letter all =
    option_both SoundLexeme (λ keyword. Found (kinds.Keyword keyword) (length word)) (keyword_of word)
    (cond (is_keyword_like word) (Found kinds.Miscased (length word)) (cond (is_left_out word) (Wrong LeftOut) (Found (kinds.Identifier word) (length word))))
    (λ keyword. tt)
    (cond_both (is_keyword_like word) (Found kinds.Miscased (length word)) (cond (is_left_out word) (Wrong LeftOut) (Found (kinds.Identifier word) (length word))) SoundLexeme
    (λ like. tt)
    (λ unlike. cond_both (is_left_out word) (Wrong LeftOut) (Found (kinds.Identifier word) (length word)) SoundLexeme (λ out. tt) (λ not_out. (letter, all))))

sound_identifier : (rest : List ℕ) → SoundLexeme (identifier_lexeme rest)
unfolding identifier_lexeme
sound_identifier rest =
    cond_both (is_ascii_alphabetic (first rest)) (Found (kinds.Identifier (run_at rest)) (length (run_at rest) + 1)) (Wrong BadByte) SoundLexeme
    (λ letter. (run_first rest letter, run_word rest))
    (λ none. tt)

-- integers
sound_found : (size : ℕ) (value : Option ℕ) → SoundLexeme (integer_found size value)
sound_found size None = tt
sound_found size (Some value) =
    cond_both (nat_lt value (2 ^ 127)) (Found (kinds.Integer value) size) (Wrong LiteralTooWide) SoundLexeme
    (λ below. ltb-true value (2 ^ 127) below)
    (λ above. tt)

sound_integer : (run : List ℕ) → SoundLexeme (integer_lexeme run)
unfolding integer_lexeme
sound_integer run = sound_found (length run) (integer_of run)

-- strings
abbrev SoundCharacter : Option Character → Type 0
SoundCharacter None = Unit {0}
SoundCharacter (Some character) = is_text_byte character.byte ≡ true

abbrev SoundByte : Option ℕ → Type 0
SoundByte None = Unit {0}
SoundByte (Some byte) = is_text_byte byte ≡ true

abbrev SoundString : Option Quoted → Type 0
SoundString None = Unit {0}
SoundString (Some string) = list_all is_text_byte string.bytes ≡ true

sound_sized : (f : ℕ → ℕ) (o : Option ℕ) → SoundByte o → SoundCharacter (option_map (λ value. record { byte = value; size = f value }) o)
sound_sized f None h = tt
sound_sized f (Some byte) h = h

sound_numbered : (radix most front : ℕ) (rest : List ℕ) → SoundCharacter (numbered_escape radix most front rest)
sound_numbered radix most front rest =
    let value : ℕ = digits_value radix (take (digit_count radix most rest) rest) in
    sound_sized (λ _. front + digit_count radix most rest) (byte_of radix (take (digit_count radix most rest) rest))
    (cond_both (nat_lt 0 value && nat_lt value 256) (Some value) None SoundByte (λ h. h) (λ _. tt))

sound_named : (name : ℕ) → SoundByte (named_escape name)
sound_named name =
    let itself : Option ℕ = cond (name == 92 || name == 63 || name == 39 || name == 34) (Some name) None in
    let last : SoundByte itself = cond_both (name == 92 || name == 63 || name == 39 || name == 34) (Some name) None SoundByte (λ h. grind arith) (λ _. tt) in
    cond_both (name == 110) (Some 10) _ SoundByte (λ _. refl) (λ _.
    cond_both (name == 116) (Some 9) _ SoundByte (λ _. refl) (λ _.
    cond_both (name == 118) (Some 11) _ SoundByte (λ _. refl) (λ _.
    cond_both (name == 98) (Some 8) _ SoundByte (λ _. refl) (λ _.
    cond_both (name == 114) (Some 13) _ SoundByte (λ _. refl) (λ _.
    cond_both (name == 102) (Some 12) _ SoundByte (λ _. refl) (λ _.
    cond_both (name == 97) (Some 7) itself SoundByte (λ _. refl) (λ _. last)))))))

sound_escape : (rest : List ℕ) → SoundCharacter (escape rest)
sound_escape rest =
    cond_both (is_digit (first rest) 8) (numbered_escape 8 3 1 rest) _ SoundCharacter (λ _. sound_numbered 8 3 1 rest) (λ _.
    cond_both (first rest == 120) (numbered_escape 16 2 2 (drop 1 rest)) _ SoundCharacter (λ _. sound_numbered 16 2 2 (drop 1 rest)) (λ _.
    sound_sized (λ _. 2) (named_escape (first rest)) (sound_named (first rest))))

text_byte : (b : ℕ) → b < 256 → (b == 0) ≡ false → is_text_byte b ≡ true
text_byte b below some =
    let more : (b ≡ 0) → ⊥ = eqb-false b 0 some in
    and_from (nat_lt 0 b) (nat_lt b 256) (lt-ltb 0 b (omega arith)) (lt-ltb b 256 below)

sound_character : (b : ℕ) (bs : List ℕ) → b < 256 → SoundCharacter (character (b ∷ bs))
unfolding character
sound_character b bs below =
    cond_both (b == 92) (escape bs) _ SoundCharacter (λ _. sound_escape bs) (λ _.
    cond_both (b == 10 || b == 0) None (Some (record { byte = b; size = 1 })) SoundCharacter (λ _. tt)
    (λ other. text_byte b below (or_parts (b == 10) (b == 0) other).1))

sound_longer : (more : ℕ) (o : Option Quoted) → SoundString o → SoundString (longer more o)
sound_longer more None h = tt
sound_longer more (Some s) h = h

sound_onto : (c : Option Character) (o : Option Quoted) → SoundCharacter c → SoundString o → SoundString (onto_string c o)
sound_onto None o hc ho = tt
sound_onto (Some c) None hc ho = tt
sound_onto (Some c) (Some s) hc ho = and_from (is_text_byte c.byte) (list_all is_text_byte s.bytes) hc ho

sound_string_in : (inside : ℕ) (rest : List ℕ) → Bytes rest → SoundString (string_in inside rest)
sound_string_in inside [] h = tt
sound_string_in (suc inside) (b ∷ bs) h = sound_longer 1 (string_in inside bs) (sound_string_in inside bs h.1)
sound_string_in zero (b ∷ bs) h =
    cond_both (b == 34) (Some (record { bytes = []; size = 1 })) (onto_string (character (b ∷ bs)) (longer 1 (string_in (taken (character (b ∷ bs)) - 1) bs))) SoundString
    (λ _. refl)
    (λ _. sound_onto (character (b ∷ bs)) (longer 1 (string_in (taken (character (b ∷ bs)) - 1) bs)) (sound_character b bs h.0)
    (sound_longer 1 (string_in (taken (character (b ∷ bs)) - 1) bs) (sound_string_in (taken (character (b ∷ bs)) - 1) bs h.1)))

sound_text : (o : Option Quoted) → SoundString o → SoundLexeme (option_map_or (λ string. Found (kinds.Text string.bytes) (string.size + 1)) o (Wrong BadLiteral))
sound_text None h = tt
sound_text (Some string) h = h

sound_string : (rest : List ℕ) → Bytes rest → SoundLexeme (string_lexeme rest)
unfolding string_lexeme
sound_string rest h = sound_text (string_in 0 rest) (sound_string_in 0 rest h)

-- comments and marks
sound_other : (front rest : List ℕ) → SoundLexeme (comment_or_mark front rest)
unfolding comment_or_mark comment_lexeme mark_lexeme
sound_other front rest =
    cond_both (first rest == 47 && second rest == 42) _ _ SoundLexeme
    (λ _. option_both SoundLexeme (λ size. Gap (size + 2)) (closing (drop 2 rest)) (Wrong OpenComment) (λ size. tt) tt) (λ _.
    cond_both (first rest == 47 && second rest == 47) (Gap (line_len rest)) _ SoundLexeme (λ _. tt) (λ _.
    cond_both (first rest == 35 && begins_line front) (Wrong LeftOut) _ SoundLexeme (λ _. tt) (λ _.
    option_both SoundLexeme (λ mark. Found (kinds.Mark mark) (length (mark_spelling mark))) (mark_at rest) (Wrong BadByte) (λ mark. tt) tt)))

sound_lexeme : (front rest : List ℕ) → Bytes rest → SoundLexeme (lexeme front rest)
unfolding lexeme
sound_lexeme front rest h =
    cond_both (is_blank (first rest)) (Gap 1) _ SoundLexeme (λ _. tt) (λ _.
    cond_both (is_ascii_alphabetic (first rest)) (word_lexeme (run_at rest)) _ SoundLexeme (λ letter. sound_word (run_at rest) (run_first rest letter) (run_word rest)) (λ _.
    cond_both (first rest == 95) (identifier_lexeme (drop 1 rest)) _ SoundLexeme (λ _. sound_identifier (drop 1 rest)) (λ _.
    cond_both (is_ascii_digit (first rest)) (integer_lexeme (run_at rest)) _ SoundLexeme (λ _. sound_integer (run_at rest)) (λ _.
    cond_both (first rest == 34) (string_lexeme (drop 1 rest)) (comment_or_mark front rest) SoundLexeme (λ _. sound_string (drop 1 rest) (bytes_drop 1 rest h)) (λ _. sound_other front rest)))))

sound_before : (l : Lexeme) (place : Place) (later : Lexed) → SoundLexeme l → SoundKinds later.tokens → SoundKinds (before l place later).tokens
sound_before (Gap size) place later h hs = hs
sound_before (Found kind size) place later h hs = (h, hs)
sound_before (Wrong kind) place later h hs = tt

sound_behind : (inside : ℕ) (front rest : List ℕ) → Bytes rest → SoundKinds (lexed_behind inside front rest).tokens
sound_behind inside front [] h = tt
sound_behind (suc inside) front (b ∷ bs) h = sound_behind inside (front ++ b ∷ []) bs h.1
sound_behind zero front (b ∷ bs) h =
    sound_before (lexeme front (b ∷ bs)) (place_of front) (lexed_behind (size_of (lexeme front (b ∷ bs)) - 1) (front ++ b ∷ []) bs) (sound_lexeme front (b ∷ bs) h)
    (sound_behind (size_of (lexeme front (b ∷ bs)) - 1) (front ++ b ∷ []) bs h.1)

-- the tokens of a text
pub sound_tokens : (text : List ℕ) → All (λ b. b < 256) text → SoundKinds (lexed text).tokens
unfolding lexed
sound_tokens text h = sound_behind 0 [] text (bytes_of text h)
