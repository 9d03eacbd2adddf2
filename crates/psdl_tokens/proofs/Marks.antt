-- The mark that is taken is the longest that stands there.
use Rattle.std.proofs.Common.{◌≡◌, ℕ, ◌+◌, ◌≤◌, List, [], ◌∷◌, ◌++◌, Bool, cond, true, false, ◌==◌, ◌&&◌, length, drop, Option, Some, None, refl, sym, ap, ◌∙◌, subst, arith, inl, inr}
use Rattle.std.proofs.lemmas.Bool.{cases_Bool, cond_both}
use Rattle.std.proofs.lemmas.Bool.Decides.{Decides-eqb}
use Rattle.std.proofs.lemmas.Slice.Eq.{starts_is}
use Rattle.std.specs.List.{find, starts_with}
use Rattle.std.specs.Option.{option_map_or}
use Rattle.std.specs.Char.{is_ascii_alphabetic, is_ascii_digit}
use Rattle.std.specs.Str.{byte}
use Rattle.std.specs.Prelude.{nat_lt, ◌^◌}
use Rattle.psdl_tokens.specs.declared.token.Mark.{Mark}
use Rattle.psdl_tokens.specs.declared.token.Mark.TheVariants as marks
use Rattle.psdl_tokens.specs.declared.token.TokenKind.TheVariants as kinds
use Rattle.psdl_tokens.specs.declared.lexeme.Lexeme.{Lexeme}
use Rattle.psdl_tokens.specs.declared.lexeme.Lexeme.TheVariants.{Gap, Found, Wrong}
use Rattle.psdl_tokens.specs.declared.lexeme.LexicalKind.TheVariants as lexical
use Rattle.psdl_tokens.specs.Spellings.{keyword_of, mark_spelling, mark_at, all_marks}
use Rattle.psdl_tokens.specs.Alphabet.{is_blank, run_at, first, second}
use Rattle.psdl_tokens.specs.Places.{begins_line}
use Rattle.psdl_tokens.specs.Numerals.{integer_of}
use Rattle.psdl_tokens.specs.Characters.{string_in}
use Rattle.psdl_tokens.specs.Comments.{closing}
use Rattle.psdl_tokens.specs.Lexis.{is_keyword_like, is_left_out, word_lexeme, identifier_lexeme, integer_found, integer_lexeme, string_lexeme, comment_lexeme, mark_lexeme, comment_or_mark, lexeme}
use Rattle.psdl_tokens.specs.Longest.{IsLongest, IsMarkLongest}

found_passes : {X : Type 0} (p : X → Bool) (xs : List X) (x : X) → find p xs ≡ Some x → p x ≡ true
found_passes p [] x h = absurd cc
found_passes p (y ∷ ys) x h =
    elim (cases_Bool (p y)) [
      | inl here ↦ (let found : Some y ≡ Some x = rw here at h in let same : y ≡ x = cc in subst (λ z. p z ≡ true) same here)
      | inr not_here ↦ found_passes p ys x (rw not_here at h)
    ]

-- the first of two bytes alone, or both
one_or_two : (one two m : Mark) (is : Bool) (o : Option Mark) → (is ≡ true → o ≡ Some two) → (is ≡ false → o ≡ Some one) → o ≡ Some m → length (mark_spelling m) ≤ 1 → length (mark_spelling two) ≡ 2 → one ≡ m
one_or_two one two m is o both alone h le size =
    elim (cases_Bool is) [
      | inl e ↦ (let here = both e in let same : two ≡ m = cc in absurd (omega (arith, size, ap (λ k. length (mark_spelling k)) same, le)))
      | inr e ↦ (let here = alone e in cc)
    ]

longest : (other m : Mark) (after : List ℕ) → mark_at (mark_spelling other ++ after) ≡ Some m → length (mark_spelling m) ≤ length (mark_spelling other) → other ≡ m
longest marks.Less m [] h le = cc
longest marks.Less m (b ∷ bs) h le = one_or_two marks.Less marks.ShiftLeft m (60 == b) (mark_at (60 ∷ b ∷ bs)) (λ e. rw e refl) (λ e. rw e refl) h le refl
longest marks.Greater m [] h le = cc
longest marks.Greater m (b ∷ bs) h le = one_or_two marks.Greater marks.ShiftRight m (62 == b) (mark_at (62 ∷ b ∷ bs)) (λ e. rw e refl) (λ e. rw e refl) h le refl
longest marks.Colon m [] h le = cc
longest marks.Colon m (b ∷ bs) h le = one_or_two marks.Colon marks.Scope m (58 == b) (mark_at (58 ∷ b ∷ bs)) (λ e. rw e refl) (λ e. rw e refl) h le refl
longest _ m after h le = cc

mark_longest : (rest : List ℕ) (m : Mark) → mark_at rest ≡ Some m → IsLongest m rest
mark_longest rest m h = record {
  stands = (drop (length (mark_spelling m)) rest, (starts_is Decides-eqb rest (mark_spelling m) true (sym (found_passes (λ mark. starts_with ◌==◌ rest (mark_spelling mark)) all_marks m h))).0 refl);
  longest = λ other (after, is) le. longest other m after (ap mark_at (sym is) ∙ h) le;
}

module _ (m : Mark) (size : ℕ) where
  -- what this says of a lexeme
  abbrev Says : List ℕ → Lexeme → Type 0
  Says rest l = l ≡ Found (kinds.Mark m) size → IsLongest m rest × (size ≡ length (mark_spelling m))

  option_both : {X : Type 0} (rest : List ℕ) (o : Option X) (f : X → Lexeme) (l : Lexeme) → ((x : X) → o ≡ Some x → Says rest (f x)) → Says rest l → Says rest (option_map_or f o l)
  option_both rest None f l some none = none
  option_both rest (Some x) f l some none = some x refl

  if_both : (rest : List ℕ) (is : Bool) (k l : Lexeme) → Says rest k → Says rest l → Says rest (cond is k l)
  if_both rest is k l one other = cond_both is k l (Says rest) (λ _. one) (λ _. other)

  of_word : (rest word : List ℕ) → Says rest (word_lexeme word)
  unfolding word_lexeme
  of_word rest word =
      option_both rest (keyword_of word) (λ keyword. Found (kinds.Keyword keyword) (length word)) _ (λ keyword is h. absurd cc)
      (if_both rest (is_keyword_like word) _ _ (λ h. absurd cc) (if_both rest (is_left_out word) _ _ (λ h. absurd cc) (λ h. absurd cc)))

  of_identifier : (rest behind : List ℕ) → Says rest (identifier_lexeme behind)
  unfolding identifier_lexeme
  of_identifier rest behind = if_both rest (is_ascii_alphabetic (first behind)) _ _ (λ h. absurd cc) (λ h. absurd cc)

  of_found : (rest : List ℕ) (n : ℕ) (o : Option ℕ) → Says rest (integer_found n o)
  of_found rest n None = λ h. absurd cc
  of_found rest n (Some value) = if_both rest (nat_lt value (2 ^ 127)) (Found (kinds.Integer value) n) (Wrong lexical.LiteralTooWide) (λ h. absurd cc) (λ h. absurd cc)

  of_integer : (rest run : List ℕ) → Says rest (integer_lexeme run)
  unfolding integer_lexeme
  of_integer rest run = of_found rest (length run) (integer_of run)

  of_string : (rest behind : List ℕ) → Says rest (string_lexeme behind)
  unfolding string_lexeme
  of_string rest behind = option_both rest (string_in 0 behind) (λ string. Found (kinds.Text string.bytes) (string.size + 1)) (Wrong lexical.BadLiteral) (λ string is h. absurd cc) (λ h. absurd cc)

  of_comment : (rest behind : List ℕ) → Says rest (comment_lexeme behind)
  unfolding comment_lexeme
  of_comment rest behind = option_both rest (closing behind) (λ size. Gap (size + 2)) (Wrong lexical.OpenComment) (λ size is h. absurd cc) (λ h. absurd cc)

  of_mark : (rest : List ℕ) → Says rest (mark_lexeme rest)
  unfolding mark_lexeme
  of_mark rest =
      option_both rest (mark_at rest) (λ mark. Found (kinds.Mark mark) (length (mark_spelling mark))) (Wrong lexical.BadByte)
      (λ mark is h. (let same : mark ≡ m = cc in let sized : length (mark_spelling mark) ≡ size = cc in (mark_longest rest m (is ∙ ap Some same), sym sized ∙ ap (λ k. length (mark_spelling k)) same)))
      (λ h. absurd cc)

  of_rest : (front rest : List ℕ) → Says rest (comment_or_mark front rest)
  unfolding comment_or_mark
  of_rest front rest =
      if_both rest (first rest == byte "/" && second rest == byte "*") _ _ (of_comment rest (drop 2 rest))
      (if_both rest (first rest == byte "/" && second rest == byte "/") _ _ (λ h. absurd cc)
      (if_both rest (first rest == byte "#" && begins_line front) _ _ (λ h. absurd cc) (of_mark rest)))

  of_lexeme : (front rest : List ℕ) → Says rest (lexeme front rest)
  unfolding lexeme
  of_lexeme front rest =
      if_both rest (is_blank (first rest)) _ _ (λ h. absurd cc)
      (if_both rest (is_ascii_alphabetic (first rest)) _ _ (of_word rest (run_at rest))
      (if_both rest (first rest == byte "_") _ _ (of_identifier rest (drop 1 rest))
      (if_both rest (is_ascii_digit (first rest)) _ _ (of_integer rest (run_at rest))
      (if_both rest (first rest == byte "\"") _ _ (of_string rest (drop 1 rest)) (of_rest front rest)))))

pub marks_are_longest : IsMarkLongest
marks_are_longest front rest m size = of_lexeme m size front rest
