-- The language of the grammar, and the readers of one token.
use Rattle.std.proofs.Common.{◌≡◌, ℕ, Bool, true, false, cond, List, [], ◌∷◌, ◌++◌, Option, Some, None, refl, ap, ◌∙◌}
use Rattle.std.specs.Prelude.{option_map}
use Rattle.pss_base.specs.declared.place.Place.{Place}
use Rattle.part_readers.specs.Reading.{starts, one}
use Rattle.part_readers.proofs.Law.{Language, IsReader}
use Rattle.part_readers.proofs.Ones.{one_reads}
use Rattle.psdl_syntax.specs.declared.fault.Fault.{Fault}
use Rattle.psdl_syntax.specs.declared.fault.Fault.TheVariants.{Unexpected, TooDeep}
use Rattle.psdl_tokens.specs.declared.token.Keyword.{Keyword}
use Rattle.psdl_tokens.specs.declared.token.Mark.{Mark}
use Rattle.psdl_tree.specs.declared.names.Identifier.{Identifier}
use Rattle.psdl_tree.specs.declared.expressions.IntegerLiteral.{IntegerLiteral}
use Rattle.psdl_tree.specs.declared.expressions.TextLiteral.{TextLiteral}
use Rattle.psdl_syntax.specs.Codes.{same_keyword, same_mark}
use Rattle.psdl_syntax.specs.Seen.{Seen, Word, Sign, Placed, Named, Number, Quoted, Stray}
use Rattle.psdl_syntax.specs.Depth.{room_behind, room_behind_mark}
use Rattle.psdl_syntax.specs.Productions.{Reads, word_part, sign_part, place_part, identifier_part, number_part, quoted_part, operator_part, word_at, sign_at, place_at, identifier_at, number_at, quoted_at, operator_at}
use Rattle.psdl_syntax.proofs.Numbers.{keyword_exact, keyword_self, mark_exact, mark_self}

abbrev pub left_of : Fault → ℕ
left_of (Unexpected left) = left
left_of (TooDeep left) = left

abbrev pub moved : Fault → ℕ → Fault
moved (Unexpected left) n = Unexpected n
moved (TooDeep left) n = TooDeep n

-- a bracket that is one too many is expected where it stands
abbrev pub Meets : Fault → ℕ → List Seen → List Seen → Type 0
Meets (Unexpected left) d rest more = Unit {0}
Meets (TooDeep left) d rest more = (t : Seen) × (after : List Seen) × (later : List Seen) × (rest ≡ t ∷ after) × (more ≡ t ∷ later) × (d ≡ 0) × (room_behind 0 t ≡ None)

pub meets_more : (f : Fault) (d : ℕ) (rest more end : List Seen) → Meets f d rest more → Meets f d rest (more ++ end)
meets_more (Unexpected left) d rest more end h = tt
meets_more (TooDeep left) d rest more end h = (h.0, h.1, h.2 ++ end, h.3, ap (λ (x : List Seen). x ++ end) h.4, h.5, h.6)

abbrev pub IsTooDeep : Fault → Type 0
IsTooDeep (Unexpected left) = ⊥
IsTooDeep (TooDeep left) = Unit {0}

abbrev pub psdl : Language
psdl = record { Element = Seen; Fault = Fault; State = ℕ; step = room_behind; left_of = left_of; moved = moved; Meets = Meets; meets_more = meets_more; Excuses = IsTooDeep }

abbrev pub Keeps : {A : Type 0} → ℕ → ℕ → Reads A → (A → List Seen) → (List Seen → Type 0) → Type 0
Keeps d e read spell Ends = IsReader psdl d e read spell Ends

-- none of these stands next
abbrev pub Ends : List (Seen → Bool) → List Seen → Type 0
Ends [] toks = Unit {0}
Ends (is ∷ ws) toks = (starts is toks ≡ false) × Ends ws toks

-- a token by what it stands for
pub token_keeps : {A : Type 0} (d e : ℕ) (part : Seen → Option A) (back : A → Seen) → ((x : A) → part (back x) ≡ Some x) → ((t : Seen) (x : A) → part t ≡ Some x → t ≡ back x) → ((x : A) → room_behind d (back x) ≡ Some e) → A → (E : List Seen → Type 0) → Keeps d e (one Unexpected part) (λ x. back x ∷ []) E
token_keeps d e part back told only step some E = one_reads psdl d e Unexpected part back (λ n. refl) (λ n m. refl) (λ n rest more. tt) told only step some E

word_told : (k : Keyword) (x : Unit {0}) → word_part k (Word k) ≡ Some x
word_told k x = rw (keyword_self k) refl

word_only : (k : Keyword) (t : Seen) (x : Unit {0}) → word_part k t ≡ Some x → t ≡ Word k
word_only k (Word l) x h = by_test (same_keyword l k) refl h
  where
    by_test : (b : Bool) → same_keyword l k ≡ b → cond b (Some tt) None ≡ Some x → Word l ≡ Word k
    by_test true e h = ap Word (keyword_exact l k e)
    by_test false e h = absurd cc
word_only k (Sign n) x h = absurd cc
word_only k (Placed n p) x h = absurd cc
word_only k (Named i) x h = absurd cc
word_only k (Number n) x h = absurd cc
word_only k (Quoted q) x h = absurd cc
word_only k Stray x h = absurd cc

pub word_keeps : (k : Keyword) (d : ℕ) (E : List Seen → Type 0) → Keeps d d (word_at k) (λ x. Word k ∷ []) E
unfolding word_at
word_keeps k d E = token_keeps d d (word_part k) (λ x. Word k) (word_told k) (word_only k) (λ x. refl) tt E

pub sign_told : (m : Mark) (x : Unit {0}) → sign_part m (Sign m) ≡ Some x
sign_told m x = rw (mark_self m) refl

pub sign_only : (m : Mark) (t : Seen) (x : Unit {0}) → sign_part m t ≡ Some x → t ≡ Sign m
sign_only m (Sign n) x h = by_test (same_mark n m) refl h
  where
    by_test : (b : Bool) → same_mark n m ≡ b → cond b (Some tt) None ≡ Some x → Sign n ≡ Sign m
    by_test true e h = ap Sign (mark_exact n m e)
    by_test false e h = absurd cc
sign_only m (Word l) x h = absurd cc
sign_only m (Placed n p) x h = absurd cc
sign_only m (Named i) x h = absurd cc
sign_only m (Number n) x h = absurd cc
sign_only m (Quoted q) x h = absurd cc
sign_only m Stray x h = absurd cc

pub sign_keeps : (m : Mark) (d e : ℕ) → room_behind_mark d m ≡ Some e → (E : List Seen → Type 0) → Keeps d e (sign_at m) (λ x. Sign m ∷ []) E
unfolding sign_at
sign_keeps m d e step E = token_keeps d e (sign_part m) (λ x. Sign m) (sign_told m) (sign_only m) (λ x. step) tt E

pub place_told : (m : Mark) (x : Place) → place_part m (Placed m x) ≡ Some x
place_told m x = rw (mark_self m) refl

pub place_only : (m : Mark) (t : Seen) (x : Place) → place_part m t ≡ Some x → t ≡ Placed m x
place_only m (Placed n p) x h = by_test (same_mark n m) refl h
  where
    by_test : (b : Bool) → same_mark n m ≡ b → cond b (Some p) None ≡ Some x → Placed n p ≡ Placed m x
    by_test true e h = let same : n ≡ m = mark_exact n m e in cc
    by_test false e h = absurd cc
place_only m (Word l) x h = absurd cc
place_only m (Sign n) x h = absurd cc
place_only m (Named i) x h = absurd cc
place_only m (Number n) x h = absurd cc
place_only m (Quoted q) x h = absurd cc
place_only m Stray x h = absurd cc

abbrev pub some_place : Place
some_place = record { line = 1; column = 1; offset = 0 }

pub place_keeps : (m : Mark) (d : ℕ) → room_behind_mark d m ≡ Some d → (E : List Seen → Type 0) → Keeps d d (place_at m) (λ p. Placed m p ∷ []) E
unfolding place_at
place_keeps m d step E = token_keeps d d (place_part m) (λ p. Placed m p) (place_told m) (place_only m) (λ x. step) some_place E

abbrev pub some_identifier : Identifier
some_identifier = record { place = some_place; name = [] }

identifier_only : (t : Seen) (x : Identifier) → identifier_part t ≡ Some x → t ≡ Named x
identifier_only (Named i) x h = cc
identifier_only (Word l) x h = absurd cc
identifier_only (Sign n) x h = absurd cc
identifier_only (Placed n p) x h = absurd cc
identifier_only (Number n) x h = absurd cc
identifier_only (Quoted q) x h = absurd cc
identifier_only Stray x h = absurd cc

pub identifier_keeps : (d : ℕ) (E : List Seen → Type 0) → Keeps d d identifier_at (λ i. Named i ∷ []) E
unfolding identifier_at
identifier_keeps d E = token_keeps d d identifier_part (λ i. Named i) (λ x. refl) identifier_only (λ x. refl) some_identifier E

number_only : (t : Seen) (x : IntegerLiteral) → number_part t ≡ Some x → t ≡ Number x
number_only (Number n) x h = cc
number_only (Word l) x h = absurd cc
number_only (Sign n) x h = absurd cc
number_only (Placed n p) x h = absurd cc
number_only (Named i) x h = absurd cc
number_only (Quoted q) x h = absurd cc
number_only Stray x h = absurd cc

pub number_keeps : (d : ℕ) (E : List Seen → Type 0) → Keeps d d number_at (λ n. Number n ∷ []) E
unfolding number_at
number_keeps d E = token_keeps d d number_part (λ n. Number n) (λ x. refl) number_only (λ x. refl) (record { place = some_place; value = 0 }) E

quoted_only : (t : Seen) (x : TextLiteral) → quoted_part t ≡ Some x → t ≡ Quoted x
quoted_only (Quoted q) x h = cc
quoted_only (Word l) x h = absurd cc
quoted_only (Sign n) x h = absurd cc
quoted_only (Placed n p) x h = absurd cc
quoted_only (Named i) x h = absurd cc
quoted_only (Number n) x h = absurd cc
quoted_only Stray x h = absurd cc

pub quoted_keeps : (d : ℕ) (E : List Seen → Type 0) → Keeps d d quoted_at (λ q. Quoted q ∷ []) E
unfolding quoted_at
quoted_keeps d E = token_keeps d d quoted_part (λ q. Quoted q) (λ x. refl) quoted_only (λ x. refl) (record { place = some_place; bytes = [] }) E

-- operators, by the signs that stand for them
module _ {O : Type 0} (of_mark : Mark → Option O) (mark_of : O → Mark) (told : (o : O) → of_mark (mark_of o) ≡ Some o) (only : (m : Mark) (o : O) → of_mark m ≡ Some o → m ≡ mark_of o) (some : O) where
  operator_told : (x : Place × O) → operator_part of_mark (Placed (mark_of x.1) x.0) ≡ Some x
  operator_told x = rw (told x.1) refl

  operator_only : (t : Seen) (x : Place × O) → operator_part of_mark t ≡ Some x → t ≡ Placed (mark_of x.1) x.0
  operator_only (Placed n p) x h = by_case (of_mark n) refl h
    where
      by_case : (o : Option O) → of_mark n ≡ o → option_map (λ k. (p, k)) o ≡ Some x → Placed n p ≡ Placed (mark_of x.1) x.0
      by_case None e h = absurd cc
      by_case (Some k) e h =
          let made : Place × O = (p, k) in
          let same : made ≡ x = cc in
          ap (λ (m : Mark). Placed m p) (only n k e) ∙ ap (λ (y : Place × O). Placed (mark_of y.1) y.0) same
  operator_only (Word l) x h = absurd cc
  operator_only (Sign n) x h = absurd cc
  operator_only (Named i) x h = absurd cc
  operator_only (Number n) x h = absurd cc
  operator_only (Quoted q) x h = absurd cc
  operator_only Stray x h = absurd cc

  pub operator_keeps : (d : ℕ) → ((o : O) → room_behind_mark d (mark_of o) ≡ Some d) → (E : List Seen → Type 0) → Keeps d d (operator_at of_mark) (λ x. Placed (mark_of x.1) x.0 ∷ []) E
  unfolding operator_at
  operator_keeps d plain E = token_keeps d d (operator_part of_mark) (λ x. Placed (mark_of x.1) x.0) operator_told operator_only (λ x. plain x.1) (some_place, some) E
