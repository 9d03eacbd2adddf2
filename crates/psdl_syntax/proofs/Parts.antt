-- Parts with words and signs around them.
use Rattle.std.proofs.Common.{◌≡◌, ℕ, Bool, true, false, List, [], ◌∷◌, ◌++◌, Some, refl, sym, subst, append_assoc}
use Rattle.part_readers.specs.Reading.{starts, both, many, separated}
use Rattle.part_readers.specs.Sentences.{joined}
use Rattle.part_readers.proofs.Boths.{both_reads, mapped_reads, both_tokens}
use Rattle.part_readers.proofs.Lists.{many_reads}
use Rattle.psdl_tokens.specs.declared.token.Keyword.{Keyword}
use Rattle.psdl_tokens.specs.declared.token.Mark.{Mark}
use Rattle.psdl_tokens.specs.declared.token.Mark.TheVariants as marks
use Rattle.psdl_syntax.specs.Seen.{Seen, Word, Sign}
use Rattle.psdl_syntax.specs.Depth.{room_behind_mark}
use Rattle.psdl_syntax.specs.Grammar.{behind, sign, after_commas}
use Rattle.psdl_syntax.specs.Productions.{Reads, is_mark, is_inside, word_at, sign_at, behind_word, behind_sign, listed, up_to_brace}
use Rattle.psdl_syntax.proofs.Psdl.{psdl, Keeps, word_keeps, sign_keeps}

abbrev pub anything : List Seen → Type 0
anything rest = Unit {0}

module _ {A : Type 0} (d e : ℕ) (part : Reads A) (s : A → List Seen) (E : List Seen → Type 0) (is : Keeps d e part s E) where
  pub behind_word_keeps : (k : Keyword) → Keeps d e (behind_word k part) (λ x. Word k ∷ s x) E
  behind_word_keeps k =
      mapped_reads psdl d e (λ (p : Unit {0} × A). p.1) (λ x. (tt, x)) (both (word_at k) part) (both_tokens (λ x. Word k ∷ []) s) (λ x. Word k ∷ s x) E
      (both_reads psdl d d e (word_at k) part (λ x. Word k ∷ []) s anything E (word_keeps k d anything) is (λ y rest h. tt)) (λ y. refl) (λ x. refl)

  pub behind_sign_keeps : (m : Mark) → room_behind_mark d m ≡ Some d → Keeps d e (behind_sign m part) (λ x. Sign m ∷ s x) E
  behind_sign_keeps m plain =
      mapped_reads psdl d e (λ (p : Unit {0} × A). p.1) (λ x. (tt, x)) (both (sign_at m) part) (both_tokens (λ x. Sign m ∷ []) s) (λ x. Sign m ∷ s x) E
      (both_reads psdl d d e (sign_at m) part (λ x. Sign m ∷ []) s anything E (sign_keeps m d d plain anything) is (λ y rest h. tt)) (λ y. refl) (λ x. refl)

-- one part, and others
module _ {A B : Type 0} (d : ℕ) (is : Seen → Bool) (r1 : Reads A) (r2 : Reads B) (s1 : A → List Seen) (s2 : B → List Seen) (E : List Seen → Type 0) (is1 : Keeps d d r1 s1 E) (is2 : Keeps d d r2 s2 E)
    (there : (y : B) (rest : List Seen) → starts is (s2 y ++ rest) ≡ true) (apart : (y : B) (rest : List Seen) → E (s2 y ++ rest)) where
  others_apart : (ys : List B) (rest : List Seen) → (starts is rest ≡ false) × E rest → E (joined s2 ys ++ rest)
  others_apart [] rest h = h.1
  others_apart (y ∷ ys) rest h = subst E (sym (append_assoc (s2 y) (joined s2 ys) rest)) (apart y (joined s2 ys ++ rest))

  pub separated_keeps : Keeps d d (separated is r1 r2) (λ p. s1 p.0 ++ joined s2 p.1) (λ rest. (starts is rest ≡ false) × E rest)
  separated_keeps = both_reads psdl d d d r1 (many is r2) s1 (joined s2) E (λ rest. (starts is rest ≡ false) × E rest) is1 (many_reads psdl d is r2 s2 E is2 there apart) others_apart

-- one part, and others behind commas
pub listed_keeps : {A : Type 0} (d : ℕ) (part : Reads A) (s : A → List Seen) (E : List Seen → Type 0) → Keeps d d part s E → ((rest : List Seen) → E (Sign marks.Comma ∷ rest)) → Keeps d d (listed part) (λ p. s p.0 ++ after_commas s p.1) (λ rest. (starts (is_mark marks.Comma) rest ≡ false) × E rest)
listed_keeps d part s E is apart = separated_keeps d (is_mark marks.Comma) part (behind_sign marks.Comma part) s (behind (sign marks.Comma) s) E is (behind_sign_keeps d d part s E is marks.Comma refl) (λ y rest. refl) (λ y rest. apart (s y ++ rest))

-- parts up to a brace that closes
pub up_to_brace_keeps : {A : Type 0} (d : ℕ) (part : Reads A) (s : A → List Seen) → Keeps d d part s anything → ((x : A) (rest : List Seen) → starts is_inside (s x ++ rest) ≡ true) → Keeps d d (up_to_brace part) (joined s) (λ rest. (starts is_inside rest ≡ false) × anything rest)
up_to_brace_keeps d part s is there = many_reads psdl d is_inside part s anything is there (λ x rest. tt)
