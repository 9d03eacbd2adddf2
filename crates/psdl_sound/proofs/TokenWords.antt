-- The identifiers among the tokens of a text are names, and its integers are below 2^127.
use Rattle.std.proofs.Common.{◌≡◌, ℕ, zero, suc, ◌+◌, ◌-◌, List, [], ◌∷◌, ◌++◌, length, map, drop, Bool, true, false, ◌||◌, ◌==◌, if◌then◌else◌, Option, Some, None, refl, ap, ◌∙◌}
use Rattle.std.specs.Prelude.{cond, nat_lt, ◌^◌, ◌&&◌}
use Rattle.std.specs.Char.{is_ascii_alphabetic, is_ascii_digit}
use Rattle.std.specs.Int.{is_in_range}
use Rattle.std.specs.List.{list_all}
use Rattle.std.specs.Option.{option_map_or}
use Rattle.std.specs.Str.{byte}
use Rattle.std.proofs.lemmas.Bool.{and_from}
use Rattle.std.proofs.lemmas.List.Sums.{take_while-cons}
use Rattle.pss_base.specs.declared.place.Place.{Place}
use Rattle.psdl_tokens.specs.declared.lexeme.Lexeme.{Lexeme}
use Rattle.psdl_tokens.specs.declared.lexeme.Lexeme.TheVariants.{Gap, Found, Wrong}
use Rattle.psdl_tokens.specs.declared.lexeme.LexicalKind.TheVariants.{BadByte, OpenComment, BadLiteral, LiteralTooWide, LeftOut}
use Rattle.psdl_tokens.specs.declared.quoted.Quoted.{Quoted}
use Rattle.psdl_tokens.specs.declared.token.Keyword.{Keyword}
use Rattle.psdl_tokens.specs.declared.token.Mark.{Mark}
use Rattle.psdl_tokens.specs.declared.token.TokenKind.{TokenKind}
use Rattle.psdl_tokens.specs.declared.token.TokenKind.TheVariants as kinds
use Rattle.psdl_tokens.specs.Alphabet.{is_blank, is_word_byte, run_at, first, second}
use Rattle.psdl_tokens.specs.Characters.{string_in}
use Rattle.psdl_tokens.specs.Comments.{closing, line_len}
use Rattle.psdl_tokens.specs.Lexis.{is_keyword_like, is_left_out, word_lexeme, identifier_lexeme, integer_found, integer_lexeme, string_lexeme, comment_lexeme, mark_lexeme, comment_or_mark, lexeme, size_of, Lexed, before, lexed_behind, lexed}
use Rattle.psdl_tokens.specs.Numerals.{integer_of}
use Rattle.psdl_tokens.specs.Places.{place_of, begins_line}
use Rattle.psdl_tokens.specs.Spellings.{keyword_of, mark_at, mark_spelling}
use Rattle.psdl_syntax.specs.Seen.{Seen, Sign, Placed, Named, Number, keeps_place, seen_kind, seen}
use Rattle.psdl_syntax.specs.Syntax.{words_of}
use Rattle.type_layout.specs.Sound.{is_letter, is_name, is_word_byte as is_name_byte}

-- ---- words

-- the tests for a byte, in another order
in_order : (digit great small low : Bool) → (((digit || great) || small) || low) ≡ true → (((great || small) || digit) || low) ≡ true
in_order true true small low e = refl
in_order true false true low e = refl
in_order true false false low e = refl
in_order false true small low e = refl
in_order false false true low e = refl
in_order false false false low e = e

-- a letter, a digit or `_` is a byte of a name
name_byte : (b : ℕ) → is_word_byte b ≡ true → is_name_byte b ≡ true
name_byte b e = in_order (is_in_range 48 57 b) (is_in_range 65 90 b) (is_in_range 97 122 b) (b == 95) e

-- the run at the front, byte by byte
run_cons : (b : ℕ) (bs : List ℕ) → run_at (b ∷ bs) ≡ cond (is_word_byte b) (b ∷ run_at bs) []
run_cons b bs = take_while-cons is_word_byte b bs

-- the bytes of the run at the front
run_bytes : (rest : List ℕ) → list_all is_name_byte (run_at rest) ≡ true
run_bytes [] = refl
run_bytes (b ∷ bs) = ap (list_all is_name_byte) (run_cons b bs) ∙ by (is_word_byte b) refl (run_bytes bs)
  where
    by : (r : Bool) → is_word_byte b ≡ r → list_all is_name_byte (run_at bs) ≡ true → list_all is_name_byte (cond r (b ∷ run_at bs) []) ≡ true
    by true e others = and_from (is_name_byte b) (list_all is_name_byte (run_at bs)) (name_byte b e) others
    by false e others = refl

-- a letter is a byte of a word
letter_in_word : (digit great small low : Bool) → (great || small) ≡ true → (((digit || great) || small) || low) ≡ true
letter_in_word true true small low e = refl
letter_in_word true false true low e = refl
letter_in_word true false false low e = refl
letter_in_word false true small low e = refl
letter_in_word false false true low e = refl
letter_in_word false false false low e = absurd (cc)

-- a run that begins with a letter is a name
run_named : (rest : List ℕ) → is_ascii_alphabetic (first rest) ≡ true → is_name (run_at rest) ≡ true
run_named [] e = absurd (cc)
run_named (b ∷ bs) e =
    let in_word : is_word_byte b ≡ true = letter_in_word (is_in_range 48 57 b) (is_in_range 65 90 b) (is_in_range 97 122 b) (b == 95) e in
    ap is_name (run_cons b bs ∙ ap (λ (r : Bool). cond r (b ∷ run_at bs) []) in_word) ∙ and_from (is_letter b) (list_all is_name_byte (run_at bs)) e (run_bytes bs)

-- ---- lexemes

-- an identifier's name is one, and an integer is below 2^127
abbrev is_fit : TokenKind → Bool
is_fit (kinds.Identifier name) = is_name name
is_fit (kinds.Integer value) = nat_lt value (2 ^ 127)
is_fit _ = true

abbrev is_fit_lexeme : Lexeme → Bool
is_fit_lexeme (Gap size) = true
is_fit_lexeme (Found kind size) = is_fit kind
is_fit_lexeme (Wrong kind) = true

abbrev Fits : Lexeme → Type 0
Fits l = is_fit_lexeme l ≡ true

-- one or the other
chosen : (b : Bool) (x y : Lexeme) → (b ≡ true → Fits x) → (b ≡ false → Fits y) → Fits (if b then x else y)
chosen true x y first_fits second_fits = first_fits refl
chosen false x y first_fits second_fits = second_fits refl

-- each kind of lexeme
word_fits : (word : List ℕ) → is_name word ≡ true → Fits (word_lexeme word)
unfolding word_lexeme
word_fits word named = by (keyword_of word)
  where
    by : (o : Option Keyword) → Fits (option_map_or (λ k. Found (kinds.Keyword k) (length word)) o (if is_keyword_like word then Found kinds.Miscased (length word) else if is_left_out word then Wrong LeftOut else Found (kinds.Identifier word) (length word)))
    by (Some k) = refl
    by None =
        chosen (is_keyword_like word) (Found kinds.Miscased (length word)) (if is_left_out word then Wrong LeftOut else Found (kinds.Identifier word) (length word)) (λ e. refl)
        (λ e. chosen (is_left_out word) (Wrong LeftOut) (Found (kinds.Identifier word) (length word)) (λ f. refl) (λ f. named))

identifier_fits : (rest : List ℕ) → Fits (identifier_lexeme rest)
unfolding identifier_lexeme
identifier_fits rest = chosen (is_ascii_alphabetic (first rest)) (Found (kinds.Identifier (run_at rest)) (length (run_at rest) + 1)) (Wrong BadByte) (run_named rest) (λ e. refl)

integer_fits : (run : List ℕ) → Fits (integer_lexeme run)
unfolding integer_lexeme
integer_fits run = by (integer_of run)
  where
    by : (o : Option ℕ) → Fits (integer_found (length run) o)
    by None = refl
    by (Some value) = chosen (nat_lt value (2 ^ 127)) (Found (kinds.Integer value) (length run)) (Wrong LiteralTooWide) (λ e. e) (λ e. refl)

string_fits : (rest : List ℕ) → Fits (string_lexeme rest)
unfolding string_lexeme
string_fits rest = by (string_in 0 rest)
  where
    by : (o : Option Quoted) → Fits (option_map_or (λ s. Found (kinds.Text s.bytes) (s.size + 1)) o (Wrong BadLiteral))
    by None = refl
    by (Some s) = refl

comment_fits : (rest : List ℕ) → Fits (comment_lexeme rest)
unfolding comment_lexeme
comment_fits rest = by (closing rest)
  where
    by : (o : Option ℕ) → Fits (option_map_or (λ size. Gap (size + 2)) o (Wrong OpenComment))
    by None = refl
    by (Some size) = refl

mark_fits : (rest : List ℕ) → Fits (mark_lexeme rest)
unfolding mark_lexeme
mark_fits rest = by (mark_at rest)
  where
    by : (o : Option Mark) → Fits (option_map_or (λ m. Found (kinds.Mark m) (length (mark_spelling m))) o (Wrong BadByte))
    by None = refl
    by (Some m) = refl

comment_or_mark_fits : (front rest : List ℕ) → Fits (comment_or_mark front rest)
unfolding comment_or_mark
comment_or_mark_fits front rest =
    chosen (first rest == byte "/" && second rest == byte "*") (comment_lexeme (drop 2 rest)) _ (λ e. comment_fits (drop 2 rest))
    (λ e. chosen (first rest == byte "/" && second rest == byte "/") (Gap (line_len rest)) _ (λ f. refl)
    (λ f. chosen (first rest == byte "#" && begins_line front) (Wrong LeftOut) (mark_lexeme rest) (λ g. refl) (λ g. mark_fits rest)))

lexeme_fits : (front rest : List ℕ) → Fits (lexeme front rest)
unfolding lexeme
lexeme_fits front rest =
    chosen (is_blank (first rest)) (Gap 1) _ (λ e. refl)
    (λ e. chosen (is_ascii_alphabetic (first rest)) (word_lexeme (run_at rest)) _ (λ letter. word_fits (run_at rest) (run_named rest letter))
    (λ e. chosen (first rest == byte "_") (identifier_lexeme (drop 1 rest)) _ (λ f. identifier_fits (drop 1 rest))
    (λ e. chosen (is_ascii_digit (first rest)) (integer_lexeme (run_at rest)) _ (λ f. integer_fits (run_at rest))
    (λ e. chosen (first rest == byte "\"") (string_lexeme (drop 1 rest)) (comment_or_mark front rest) (λ f. string_fits (drop 1 rest)) (λ f. comment_or_mark_fits front rest)))))

-- ---- tokens

-- the same of a token as the grammar sees it
abbrev pub is_fit_seen : Seen → Bool
is_fit_seen (Named i) = is_name i.name
is_fit_seen (Number literal) = nat_lt literal.value (2 ^ 127)
is_fit_seen _ = true

abbrev pub AreFit : List Seen → Type 0
AreFit tokens = list_all is_fit_seen tokens ≡ true

-- the tokens one by one
seen_fit : (place : Place) (kind : TokenKind) → is_fit kind ≡ true → is_fit_seen (seen_kind place kind) ≡ true
seen_fit place (kinds.Keyword k) fit = refl
seen_fit place (kinds.Mark m) fit = by (keeps_place m)
  where
    by : (b : Bool) → is_fit_seen (if b then Placed m place else Sign m) ≡ true
    by true = refl
    by false = refl
seen_fit place (kinds.Identifier name) fit = fit
seen_fit place kinds.Miscased fit = refl
seen_fit place (kinds.Integer value) fit = fit
seen_fit place (kinds.Text bytes) fit = refl

before_fit : (l : Lexeme) (place : Place) (later : Lexed) → Fits l → AreFit (map seen later.tokens) → AreFit (map seen (before l place later).tokens)
before_fit (Gap size) place later fit others = others
before_fit (Found kind size) place later fit others = and_from (is_fit_seen (seen_kind place kind)) (list_all is_fit_seen (map seen later.tokens)) (seen_fit place kind fit) others
before_fit (Wrong kind) place later fit others = refl

behind_fit : (inside : ℕ) (front text : List ℕ) → AreFit (map seen (lexed_behind inside front text).tokens)
behind_fit inside front [] = refl
behind_fit (suc inside) front (b ∷ bs) = behind_fit inside (front ++ b ∷ []) bs
behind_fit zero front (b ∷ bs) =
    before_fit (lexeme front (b ∷ bs)) (place_of front) (lexed_behind (size_of (lexeme front (b ∷ bs)) - 1) (front ++ b ∷ []) bs) (lexeme_fits front (b ∷ bs))
    (behind_fit (size_of (lexeme front (b ∷ bs)) - 1) (front ++ b ∷ []) bs)

-- all tokens of a text
pub words_fit : (text : List ℕ) → AreFit (words_of text)
unfolding lexed
words_fit text = behind_fit 0 [] text
