-- What stands directly behind a token in a canonical text: the token ends there.
use Rattle.std.proofs.Common.{◌≡◌, ℕ, List, [], ◌∷◌, ◌++◌, Bool, true, not, ◌&&◌, ◌||◌, ◌==◌, refl, arith}
use Rattle.std.specs.Char.{is_ascii_alphabetic, is_ascii_digit}
use Rattle.std.proofs.lemmas.Bool.{false≢true, cond_both, and_parts}
use Rattle.psdl_tokens.specs.declared.token.Keyword.{Keyword}
use Rattle.psdl_tokens.specs.declared.token.Keyword.TheVariants as keywords
use Rattle.psdl_tokens.specs.declared.token.Mark.{Mark}
use Rattle.psdl_tokens.specs.declared.token.Mark.TheVariants as marks
use Rattle.psdl_syntax.specs.declared.printing.printer.Edge.{Edge}
use Rattle.psdl_syntax.specs.declared.printing.printer.Edge.TheVariants as edges
use Rattle.psdl_tokens.specs.Alphabet.{first, is_word_byte}
use Rattle.psdl_tokens.specs.Spellings.{keyword_spelling, mark_spelling}
use Rattle.psdl_syntax.specs.Seen.{Seen, Word, Sign, Placed, Named, Number, Quoted, Stray}
use Rattle.psdl_tokens.specs.Lexis.{is_keyword_like, is_left_out}
use Rattle.psdl_syntax.specs.Canonical.{line_end, mark_edge, mark_gap, name_text, string_text, text_behind}
use Rattle.psdl_syntax.proofs.IntegersAgain.{first_digit}
use Rattle.psdl_syntax.proofs.Standing.{begins_less, is_less_mark, stand}
use Rattle.psdl_syntax.proofs.Sounding.{Sound}

-- a mark does not go on with this byte, nor does a comment begin with both
abbrev pub mark_ends : Mark → ℕ → Bool
mark_ends marks.Less byte = not (60 == byte)
mark_ends marks.Greater byte = not (62 == byte)
mark_ends marks.Colon byte = not (58 == byte)
mark_ends marks.Divide byte = not (byte == 47 || byte == 42)
mark_ends _ byte = true

-- Behind a keyword, an identifier and a literal stands a space or a line, or a mark.

spaced_mark : (m : Mark) (depth : ℕ) (rest : List ℕ) → not (is_word_byte (first (mark_gap edges.Spaced depth m ++ ((mark_spelling m ++ line_end m) ++ rest)))) ≡ true
spaced_mark marks.RightBrace depth rest = refl
spaced_mark _ depth rest = refl

identifier_mark : (m : Mark) (depth : ℕ) (rest : List ℕ) → not (is_word_byte (first (mark_gap edges.Identifier depth m ++ ((mark_spelling m ++ line_end m) ++ rest)))) ≡ true
identifier_mark marks.RightBrace depth rest = refl
identifier_mark _ depth rest = refl

operand_mark : (m : Mark) (depth : ℕ) (rest : List ℕ) → not (is_word_byte (first (mark_gap edges.Operand depth m ++ ((mark_spelling m ++ line_end m) ++ rest)))) ≡ true
operand_mark marks.RightBrace depth rest = refl
operand_mark _ depth rest = refl

pub behind_keyword : (depth : ℕ) (tokens : List Seen) → not (is_word_byte (first (text_behind edges.Spaced depth tokens))) ≡ true
behind_keyword depth [] = refl
behind_keyword depth (Word k ∷ ts) = refl
behind_keyword depth (Sign m ∷ ts) = spaced_mark m depth _
behind_keyword depth (Placed m p ∷ ts) = spaced_mark m depth _
behind_keyword depth (Named i ∷ ts) = refl
behind_keyword depth (Number l ∷ ts) = refl
behind_keyword depth (Quoted l ∷ ts) = refl
behind_keyword depth (Stray ∷ ts) = refl

pub behind_identifier : (depth : ℕ) (tokens : List Seen) → not (is_word_byte (first (text_behind edges.Identifier depth tokens))) ≡ true
behind_identifier depth [] = refl
behind_identifier depth (Word k ∷ ts) = refl
behind_identifier depth (Sign m ∷ ts) = identifier_mark m depth _
behind_identifier depth (Placed m p ∷ ts) = identifier_mark m depth _
behind_identifier depth (Named i ∷ ts) = refl
behind_identifier depth (Number l ∷ ts) = refl
behind_identifier depth (Quoted l ∷ ts) = refl
behind_identifier depth (Stray ∷ ts) = refl

pub behind_operand : (depth : ℕ) (tokens : List Seen) → not (is_word_byte (first (text_behind edges.Operand depth tokens))) ≡ true
behind_operand depth [] = refl
behind_operand depth (Word k ∷ ts) = refl
behind_operand depth (Sign m ∷ ts) = operand_mark m depth _
behind_operand depth (Placed m p ∷ ts) = operand_mark m depth _
behind_operand depth (Named i ∷ ts) = refl
behind_operand depth (Number l ∷ ts) = refl
behind_operand depth (Quoted l ∷ ts) = refl
behind_operand depth (Stray ∷ ts) = refl

-- What stands behind a mark with which it does not go on. Behind `<` nothing stands in front of the next token.

keyword_no_less : (k : Keyword) (rest : List ℕ) → not (60 == first (keyword_spelling k ++ rest)) ≡ true
keyword_no_less keywords.Abstract rest = refl
keyword_no_less _ rest = refl

letter_no_less : (c : ℕ) → is_ascii_alphabetic c ≡ true → not (60 == c) ≡ true
letter_no_less c h = grind arith

digit_no_less : (c : ℕ) → is_ascii_digit c ≡ true → not (60 == c) ≡ true
digit_no_less c h = grind arith

name_first : (name rest : List ℕ) → is_ascii_alphabetic (first name) ≡ true → not (60 == first (name ++ rest)) ≡ true
name_first [] rest h = absurd (false≢true h)
name_first (c ∷ cs) rest h = letter_no_less c h

name_no_less : (name rest : List ℕ) → is_ascii_alphabetic (first name) ≡ true → not (60 == first (name_text name ++ rest)) ≡ true
unfolding name_text
name_no_less name rest h =
    cond_both (is_keyword_like name || is_left_out name) (95 ∷ name) name (λ t. not (60 == first (t ++ rest)) ≡ true) (λ _. refl) (λ _. name_first name rest h)

string_no_less : (bytes rest : List ℕ) → not (60 == first (string_text bytes ++ rest)) ≡ true
unfolding string_text
string_no_less bytes rest = refl

tight_mark : (m : Mark) (depth : ℕ) (rest : List ℕ) → not (true && begins_less m) ≡ true → not (60 == first (mark_gap edges.Tight depth m ++ ((mark_spelling m ++ line_end m) ++ rest))) ≡ true
tight_mark marks.Less depth rest h = absurd (false≢true h)
tight_mark marks.ShiftLeft depth rest h = absurd (false≢true h)
tight_mark _ depth rest h = refl

behind_less : (depth : ℕ) (ts : List Seen) → stand true ts ≡ true → Sound ts → not (60 == first (text_behind edges.Tight depth ts)) ≡ true
behind_less depth [] h s = refl
behind_less depth (Word k ∷ ts) h s = keyword_no_less k _
behind_less depth (Sign m ∷ ts) h s = tight_mark m depth _ (and_parts (not (true && begins_less m)) (stand (is_less_mark m) ts) h).0
behind_less depth (Placed m p ∷ ts) h s = tight_mark m depth _ (and_parts (not (true && begins_less m)) (stand (is_less_mark m) ts) h).0
behind_less depth (Named i ∷ ts) h s = name_no_less i.name _ s.0.0
behind_less depth (Number l ∷ ts) h s = digit_no_less _ (first_digit l.value _ s.0)
behind_less depth (Quoted l ∷ ts) h s = string_no_less l.bytes _
behind_less depth (Stray ∷ ts) h s = absurd (false≢true h)

greater_mark : (m : Mark) (depth : ℕ) (rest : List ℕ) → not (62 == first (mark_gap edges.Greater depth m ++ ((mark_spelling m ++ line_end m) ++ rest))) ≡ true
greater_mark marks.LeftBrace depth rest = refl
greater_mark _ depth rest = refl

behind_greater : (depth : ℕ) (ts : List Seen) → not (62 == first (text_behind edges.Greater depth ts)) ≡ true
behind_greater depth [] = refl
behind_greater depth (Sign m ∷ ts) = greater_mark m depth _
behind_greater depth (Placed m p ∷ ts) = greater_mark m depth _
behind_greater depth (_ ∷ ts) = refl

colon_mark : (m : Mark) (depth : ℕ) (rest : List ℕ) → not (58 == first (mark_gap edges.Spaced depth m ++ ((mark_spelling m ++ line_end m) ++ rest))) ≡ true
colon_mark marks.LeftBrace depth rest = refl
colon_mark _ depth rest = refl

behind_colon : (depth : ℕ) (ts : List Seen) → not (58 == first (text_behind edges.Spaced depth ts)) ≡ true
behind_colon depth [] = refl
behind_colon depth (Sign m ∷ ts) = colon_mark m depth _
behind_colon depth (Placed m p ∷ ts) = colon_mark m depth _
behind_colon depth (_ ∷ ts) = refl

divide_mark : (m : Mark) (depth : ℕ) (rest : List ℕ) → mark_ends marks.Divide (first (mark_gap edges.Spaced depth m ++ ((mark_spelling m ++ line_end m) ++ rest))) ≡ true
divide_mark marks.LeftBrace depth rest = refl
divide_mark _ depth rest = refl

behind_divide : (depth : ℕ) (ts : List Seen) → mark_ends marks.Divide (first (text_behind edges.Spaced depth ts)) ≡ true
behind_divide depth [] = refl
behind_divide depth (Sign m ∷ ts) = divide_mark m depth _
behind_divide depth (Placed m p ∷ ts) = divide_mark m depth _
behind_divide depth (_ ∷ ts) = refl

-- each mark ends where the next token, or its gap, begins
pub behind_mark : (m : Mark) (edge : Edge) (depth : ℕ) (ts : List Seen) → stand (is_less_mark m) ts ≡ true → Sound ts → mark_ends m (first (line_end m ++ text_behind (mark_edge edge m) depth ts)) ≡ true
behind_mark marks.Less edge depth ts h s = behind_less depth ts h s
behind_mark marks.Greater edge depth ts h s = behind_greater depth ts
behind_mark marks.Colon edge depth ts h s = behind_colon depth ts
behind_mark marks.Divide edge depth ts h s = behind_divide depth ts
behind_mark _ edge depth ts h s = refl
