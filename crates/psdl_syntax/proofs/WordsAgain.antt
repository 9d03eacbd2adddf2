-- Words that are written are read again.
use Rattle.std.proofs.Common.{◌≡◌, ℕ, List, [], ◌∷◌, ◌++◌, true, false, not, ◌||◌, length, take, map, Some, None, refl, sym, ap, ◌∙◌, inl, inr, arith}
use Rattle.std.specs.List.{list_all, list_any, find, prefix_len}
use Rattle.std.specs.Char.{is_ascii_alphabetic}
use Rattle.std.specs.Str.{bytes_eq, str_eq_ignore_ascii_case, str_to_ascii_lowercase}
use Rattle.std.proofs.lemmas.Bool.{cases_Bool, false≢true, not-true, and_parts, or_parts}
use Rattle.std.proofs.lemmas.List.{take_at}
use Rattle.std.proofs.lemmas.Slice.Eq.{bytes_eq-Decides}
use Rattle.psdl_tokens.specs.declared.token.Keyword.{Keyword}
use Rattle.psdl_tokens.specs.declared.token.Keyword.TheVariants as keywords
use Rattle.psdl_tokens.specs.declared.token.TokenKind.TheVariants as kinds
use Rattle.psdl_tokens.specs.declared.lexeme.Lexeme.TheVariants.{Found}
use Rattle.psdl_tokens.specs.Alphabet.{first, is_word_byte, is_blank, run_at}
use Rattle.psdl_tokens.specs.Spellings.{keyword_spelling, all_keywords, keyword_of}
use Rattle.psdl_tokens.specs.Lexis.{lexeme, word_lexeme, identifier_lexeme, is_keyword_like, is_left_out}
use Rattle.psdl_syntax.specs.Canonical.{name_text}

-- letters, digits and `_` in front of another byte
pub word_len : (word rest : List ℕ) → list_all is_word_byte word ≡ true → not (is_word_byte (first rest)) ≡ true → prefix_len is_word_byte (word ++ rest) ≡ length word
word_len [] [] all ends = refl
word_len [] (b ∷ bs) all ends = rw (not-true (is_word_byte b) ends) refl
word_len (c ∷ cs) rest all ends =
    let both = and_parts (is_word_byte c) (list_all is_word_byte cs) all in
    rw (both.0, word_len cs rest both.1 ends) (omega arith)

pub word_at : (word rest : List ℕ) → list_all is_word_byte word ≡ true → not (is_word_byte (first rest)) ≡ true → run_at (word ++ rest) ≡ word
word_at word rest all ends = ap (λ n. take n (word ++ rest)) (word_len word rest all ends) ∙ take_at word rest (length word) refl

-- a letter is no blank
letter_no_blank : (c : ℕ) → is_ascii_alphabetic c ≡ true → is_blank c ≡ false
letter_no_blank c h = grind arith

-- a text that begins with a letter
letter_lexeme : (front : List ℕ) (c : ℕ) (cs : List ℕ) → is_ascii_alphabetic c ≡ true → lexeme front (c ∷ cs) ≡ word_lexeme (run_at (c ∷ cs))
unfolding lexeme
letter_lexeme front c cs h = rw (letter_no_blank c h, h) refl

-- a word in front of another byte
pub word_again : (front word rest : List ℕ) → is_ascii_alphabetic (first word) ≡ true → list_all is_word_byte word ≡ true → not (is_word_byte (first rest)) ≡ true → lexeme front (word ++ rest) ≡ word_lexeme word
word_again front [] rest letter all ends = absurd (false≢true letter)
word_again front (c ∷ cs) rest letter all ends =
    letter_lexeme front c (cs ++ rest) letter ∙ ap word_lexeme (word_at (c ∷ cs) rest all ends)

-- each keyword is a word, which is that keyword
keyword_letter : (k : Keyword) → is_ascii_alphabetic (first (keyword_spelling k)) ≡ true
keyword_letter keywords.Abstract = refl
keyword_letter _ = refl

keyword_word : (k : Keyword) → list_all is_word_byte (keyword_spelling k) ≡ true
keyword_word keywords.Abstract = refl
keyword_word _ = refl

keyword_found : (k : Keyword) → keyword_of (keyword_spelling k) ≡ Some k
unfolding keyword_of
keyword_found keywords.Abstract = refl
keyword_found _ = refl

keyword_lexeme : (word : List ℕ) (k : Keyword) → keyword_of word ≡ Some k → word_lexeme word ≡ Found (kinds.Keyword k) (length word)
unfolding word_lexeme
keyword_lexeme word k e = rw e refl

pub keyword_again : (k : Keyword) (front rest : List ℕ) → not (is_word_byte (first rest)) ≡ true → lexeme front (keyword_spelling k ++ rest) ≡ Found (kinds.Keyword k) (length (keyword_spelling k))
keyword_again k front rest ends =
    word_again front (keyword_spelling k) rest (keyword_letter k) (keyword_word k) ends ∙ keyword_lexeme (keyword_spelling k) k (keyword_found k)

-- the keywords are the words of the grammar
keyword_words : (word : List ℕ) (ks : List Keyword) → list_any (str_eq_ignore_ascii_case word) (map keyword_spelling ks) ≡ false → find (λ k. bytes_eq word (keyword_spelling k)) ks ≡ None
keyword_words word [] none = refl
keyword_words word (k ∷ ks) none =
    let both = or_parts (str_eq_ignore_ascii_case word (keyword_spelling k)) (list_any (str_eq_ignore_ascii_case word) (map keyword_spelling ks)) none in
    elim (cases_Bool (bytes_eq word (keyword_spelling k))) [
      | inl same ↦
          let is : word ≡ keyword_spelling k = (bytes_eq-Decides word (keyword_spelling k)).0 same in
          let like : str_eq_ignore_ascii_case word (keyword_spelling k) ≡ true =
          (bytes_eq-Decides (str_to_ascii_lowercase word) (str_to_ascii_lowercase (keyword_spelling k))).1 (ap str_to_ascii_lowercase is) in
          absurd (false≢true (sym both.0 ∙ like))
      | inr other ↦ rw other (keyword_words word ks both.1)
    ]

-- a word that is no keyword in any case is none exactly
pub no_keyword : (word : List ℕ) → is_keyword_like word ≡ false → keyword_of word ≡ None
unfolding is_keyword_like keyword_of
no_keyword word none = keyword_words word all_keywords none

identifier_word : (name : List ℕ) → is_keyword_like name ≡ false → is_left_out name ≡ false → word_lexeme name ≡ Found (kinds.Identifier name) (length name)
unfolding word_lexeme
identifier_word name like out = rw (no_keyword name like, like, out) refl

-- an identifier behind `_`
marked_lexeme : (front name rest : List ℕ) → is_ascii_alphabetic (first name) ≡ true → list_all is_word_byte name ≡ true → not (is_word_byte (first rest)) ≡ true → lexeme front (95 ∷ (name ++ rest)) ≡ Found (kinds.Identifier name) (length (95 ∷ name))
unfolding lexeme identifier_lexeme
marked_lexeme front [] rest letter all ends = absurd (false≢true letter)
marked_lexeme front (c ∷ cs) rest letter all ends = rw (letter, word_at (c ∷ cs) rest all ends) (ap (λ n. Found (kinds.Identifier (c ∷ cs)) n) (omega arith))

-- an identifier as it is written
pub name_again : (front name rest : List ℕ) → is_ascii_alphabetic (first name) ≡ true → list_all is_word_byte name ≡ true → not (is_word_byte (first rest)) ≡ true → lexeme front (name_text name ++ rest) ≡ Found (kinds.Identifier name) (length (name_text name))
unfolding name_text
name_again front name rest letter all ends =
    elim (cases_Bool (is_keyword_like name || is_left_out name)) [
      | inl marked ↦ rw marked (marked_lexeme front name rest letter all ends)
      | inr plain ↦
          let both = or_parts (is_keyword_like name) (is_left_out name) plain in
          rw plain (word_again front name rest letter all ends ∙ identifier_word name both.0 both.1)
    ]
