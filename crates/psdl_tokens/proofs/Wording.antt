-- A test over a table of words, and what it tells.
use Rattle.std.proofs.Common.{◌≡◌, ℕ, ◌↔◌, List, Bool, true, false, IsTrue, Any, Contains, get_or, None, length, ap, refl, sym, ◌∙◌, inl, inr}
use Rattle.std.proofs.lemmas.Bool.{cases_Bool, false≢true}
use Rattle.std.proofs.lemmas.List.Folds.{Any-from_list_any, list_any-from_Any}
use Rattle.std.proofs.lemmas.Slice.Eq.{bytes_eq-Decides}
use Rattle.std.specs.List.{list_any}
use Rattle.std.specs.Str.{bytes_eq, str_to_ascii_lowercase, str_eq_ignore_ascii_case}
use Rattle.psdl_tokens.specs.Names.{keywords, left_out_words, SameButForCase}
use Rattle.psdl_tokens.specs.declared.token.TokenKind.TheVariants.{Identifier, Miscased}
use Rattle.psdl_tokens.specs.declared.lexeme.Lexeme.TheVariants.{Found, Wrong}
use Rattle.psdl_tokens.specs.declared.lexeme.LexicalKind.TheVariants.{LeftOut}
use Rattle.psdl_tokens.specs.Spellings.{keyword_of}
use Rattle.psdl_tokens.specs.Lexis.{is_keyword_like, is_left_out, word_lexeme}

any_test : (p : List ℕ → Bool) (P : List ℕ → Type 0) (xs : List (List ℕ)) (r : Bool) → ((x : List ℕ) → P x → p x ≡ true) → ((x : List ℕ) → p x ≡ true → P x) → (IsTrue r ↔ Any P xs) → list_any p xs ≡ r
any_test p P xs true there back h = list_any-from_Any p xs (let (k, x, lt, at, here) = h.0 refl in (k, x, lt, at, there x here))
any_test p P xs false there back h =
    elim (cases_Bool (list_any p xs)) [
      | inl e ↦ absurd (false≢true (h.1 (let (k, x, lt, at, here) = Any-from_list_any p xs e in (k, x, lt, at, back x here))))
      | inr e ↦ e
    ]

-- the test for a keyword
pub keyword_test : (word : List ℕ) (r : Bool) → (IsTrue r ↔ Any (SameButForCase word) keywords) → is_keyword_like word ≡ r
unfolding is_keyword_like
keyword_test word r h =
    any_test (str_eq_ignore_ascii_case word) (SameButForCase word) keywords r
    (λ x e. (bytes_eq-Decides (str_to_ascii_lowercase word) (str_to_ascii_lowercase x)).1 e)
    (λ x e. (bytes_eq-Decides (str_to_ascii_lowercase word) (str_to_ascii_lowercase x)).0 e)
    h

-- the test for a left-out word
pub left_out_test : (word : List ℕ) (r : Bool) → (IsTrue r ↔ Contains left_out_words word) → is_left_out word ≡ r
unfolding is_left_out
left_out_test word r h =
    any_test (bytes_eq word) (λ x. word ≡ x) left_out_words r
    (λ x e. (bytes_eq-Decides word x).1 e)
    (λ x e. (bytes_eq-Decides word x).0 e) (
      (λ yes. let is = h.0 yes in (is.0, word, is.1, is.2, refl)),
      (λ (k, x, lt, at, e). h.1 (k, lt, ap (λ d. get_or left_out_words k d) e ∙ at ∙ sym e)),
    )

-- what a word is that is a keyword but for case alone
pub word-miscased : (word : List ℕ) → keyword_of word ≡ None → is_keyword_like word ≡ true → Found Miscased (length word) ≡ word_lexeme word
unfolding word_lexeme
word-miscased word none like = rw (none, like) refl

-- what a left-out word is
pub word-left_out : (word : List ℕ) → keyword_of word ≡ None → is_keyword_like word ≡ false → is_left_out word ≡ true → Wrong LeftOut ≡ word_lexeme word
unfolding word_lexeme
word-left_out word none like out = rw (none, like, out) refl

-- what any other word is
pub word-identifier : (word name : List ℕ) → keyword_of word ≡ None → is_keyword_like word ≡ false → is_left_out word ≡ false → name ≡ word → Found (Identifier name) (length word) ≡ word_lexeme word
unfolding word_lexeme
word-identifier word name none like out same = rw (none, like, out, same) refl
