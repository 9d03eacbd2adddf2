-- The first line of some bytes.
use Rattle.std.proofs.Common.{◌≡◌, ◌≢◌, IsTrue, ℕ, zero, suc, ◌+◌, ◌<◌, ◌≤◌, List, [], ◌∷◌, ◌++◌, length, take, drop, get_or, Bool, true, false, None, Some, not, cond, if◌then◌else◌, ◌==◌, ◌||◌, nat_lt, refl, sym, ◌∙◌, ap, subst, arith, append_assoc, append-nil, take-append-drop, length-append}
use Rattle.std.proofs.lemmas.Grind.{common_steps}
use Rattle.std.proofs.lemmas.List.{take_all, drop_more, length-take-le, take-take}
use Rattle.std.proofs.lemmas.List.Quantifiers.{position-Some}
use Rattle.std.specs.Prelude.{position}
use Rattle.std.specs.List.{position_or_len}
use Rattle.std.specs.declared.option.Option.{Option}
use Rattle.pss_base.specs.Lines.{has_lf, bytes_of}
use Rattle.pss_base.specs.Reading.{holds_line}
use Rattle.pss_base.specs.Parts.{IsPiece}
use Rattle.pss_base.specs.declared.part.Piece.{Piece}

abbrev pub is_feed : ℕ → Bool
is_feed b = b == 10

unpicked : (t x y : Bool) → t ≡ false → (if t then x else y) ≡ y
unpicked true x y e = cc
unpicked false x y e = refl

pub none_before : (bytes : List ℕ) → has_lf (take (position_or_len is_feed bytes) bytes) ≡ false
none_before [] = refl
none_before (b ∷ bytes) = by_test (b == 10) b (position_or_len is_feed bytes) bytes refl (none_before bytes)
  where
    by_test : (t : Bool) (b n : ℕ) (bytes : List ℕ) → (b == 10) ≡ t → has_lf (take n bytes) ≡ false → has_lf (take (cond (not t) (1 + n) 0) (b ∷ bytes)) ≡ false
    by_test true b n bytes is none = refl
    by_test false b n bytes is none =
        let next : 1 + n ≡ suc n = omega arith in
        subst (λ k. has_lf (take k (b ∷ bytes)) ≡ false) (sym next) (unpicked (b == 10) true (has_lf (take n bytes)) is ∙ none)

pub has_lf-take : (n : ℕ) (bytes : List ℕ) → has_lf bytes ≡ false → has_lf (take n bytes) ≡ false
has_lf-take zero bytes none = refl
has_lf-take (suc n) [] none = refl
has_lf-take (suc n) (b ∷ bytes) none = by_test (b == 10) bytes none (λ rest. has_lf-take n bytes rest)
  where
    by_test : (t : Bool) (bytes : List ℕ) → (if t then true else has_lf bytes) ≡ false → (has_lf bytes ≡ false → has_lf (take n bytes) ≡ false) → (if t then true else has_lf (take n bytes)) ≡ false
    by_test true bytes none rest = cc
    by_test false bytes none rest = rest none

pub has_lf-append : (xs ys : List ℕ) → has_lf xs ≡ false → has_lf ys ≡ false → has_lf (xs ++ ys) ≡ false
has_lf-append [] ys first second = second
has_lf-append (x ∷ xs) ys first second = by_test (x == 10) first (λ rest. has_lf-append xs ys rest second)
  where
    by_test : (t : Bool) → (if t then true else has_lf xs) ≡ false → (has_lf xs ≡ false → has_lf (xs ++ ys) ≡ false) → (if t then true else has_lf (xs ++ ys)) ≡ false
    by_test true none rest = cc
    by_test false none rest = rest none

chosen_some : (t : Bool) (n i : ℕ) → (let o : Option ℕ = cond t (Some n) None in o) ≡ Some i → n ≡ i
chosen_some true n i e = cc
chosen_some false n i e = cc

chosen_none : (t : Bool) (n : ℕ) → (let o : Option ℕ = cond t (Some n) None in o) ≡ None → t ≡ false
chosen_none true n e = cc
chosen_none false n e = refl

not_less : (a b : ℕ) → nat_lt a b ≡ false → b ≤ a
not_less a b f = grind (arith, common_steps)

is_ten : (n : ℕ) → (n == 10) ≡ true → n ≡ 10
is_ten n e = grind (arith, common_steps)

drop_end : (bytes : List ℕ) → drop (length bytes) bytes ≡ []
drop_end [] = refl
drop_end (b ∷ bytes) = drop_end bytes

pub up_to_feed : (bytes : List ℕ) (i : ℕ) → position is_feed bytes ≡ Some i → let piece : Piece = record { len = i; size = i + 1; ended = true } in IsPiece piece bytes
up_to_feed bytes i e =
    let same : position_or_len is_feed bytes ≡ i = chosen_some _ _ _ e in
    let at = position-Some is_feed bytes i 0 e in
    let feed : get_or bytes i 0 ≡ 10 = is_ten _ at.1 in
    let split : take i bytes ++ 10 ∷ drop (i + 1) bytes ≡ bytes = ap (λ b. take i bytes ++ b ∷ drop (i + 1) bytes) (sym feed) ∙ ap (λ l. take i bytes ++ l) (sym (drop_more bytes i 0 at.0)) ∙ take-append-drop i bytes in
    let len : length (take i bytes) ≡ i = length-take-le i bytes (omega (arith, at.0)) in
    record {
      one = subst (λ n. has_lf (take n bytes) ≡ false) same (none_before bytes);
      front = sym (append_assoc (take i bytes) (10 ∷ []) (drop (i + 1) bytes) ∙ split);
      size = omega (arith, len, length-append (take i bytes) (10 ∷ []));
      len = omega (arith, at.0);
      whole = λ e. cc;
    }

pub up_to_end : (bytes : List ℕ) → position is_feed bytes ≡ None → let piece : Piece = record { len = length bytes; size = length bytes; ended = false } in IsPiece piece bytes
up_to_end bytes e =
    let all : take (length bytes) bytes ≡ bytes = take_all (length bytes) bytes (omega arith) in
    let past : take (position_or_len is_feed bytes) bytes ≡ bytes = take_all _ bytes (not_less _ _ (chosen_none _ _ e)) in
    record {
      one = ap has_lf (all ∙ sym past) ∙ none_before bytes;
      front = sym (ap (λ l. take (length bytes) bytes ++ l) (drop_end bytes) ∙ append-nil (take (length bytes) bytes) ∙ all);
      size = ap length (sym all);
      len = omega arith;
      whole = λ _. drop_end bytes;
    }

pub size_is : (piece : Piece) (bytes : List ℕ) → IsPiece piece bytes → piece.size ≡ piece.len + (if piece.ended then 1 else 0)
size_is piece bytes is = is.size ∙ by_end piece.ended
  where
    len : length (take piece.len bytes) ≡ piece.len
    len = length-take-le piece.len bytes is.len

    by_end : (ended : Bool) → length (bytes_of (take piece.len bytes, ended)) ≡ piece.len + (if ended then 1 else 0)
    by_end true = omega (arith, len, length-append (take piece.len bytes) (10 ∷ []))
    by_end false = omega (arith, len)

pub size_within : (piece : Piece) (bytes : List ℕ) → IsPiece piece bytes → piece.size ≤ length bytes
size_within piece bytes is = omega (arith, is.size, ap length is.front, length-append (bytes_of (take piece.len bytes, piece.ended)) (drop piece.size bytes))

at_most_one : (ended : Bool) (size len : ℕ) → size ≡ len + (if ended then 1 else 0) → size ≤ len + 1
at_most_one true size len e = omega (arith, e)
at_most_one false size len e = omega (arith, e)

-- where there is room for fewer bytes than the piece has, these are more than there is room for
pub over_room : (piece : Piece) (bytes : List ℕ) (room : ℕ) → IsPiece piece bytes → room < piece.size → (room < length bytes) × (has_lf (take room bytes) ≡ false)
over_room piece bytes room is lt =
    let within : room ≤ piece.len = omega (arith, lt, at_most_one piece.ended piece.size piece.len (size_is piece bytes is)) in
    (omega (arith, lt, size_within piece bytes is), ap has_lf (sym (take-take room piece.len bytes within)) ∙ has_lf-take room (take piece.len bytes) is.one)

-- a piece without a line feed is all of the bytes
pub all_of : (piece : Piece) (bytes : List ℕ) → IsPiece piece bytes → piece.ended ≡ false → bytes ≡ take piece.len bytes
all_of piece bytes is e = is.front ∙ ap (λ l. bytes_of (take piece.len bytes, piece.ended) ++ l) (is.whole e) ∙ append-nil (bytes_of (take piece.len bytes, piece.ended)) ∙ ap (λ t. bytes_of (take piece.len bytes, t)) e

-- and it holds no line where it fits
pub no_line : (piece : Piece) (bytes : List ℕ) (count most : ℕ) → IsPiece piece bytes → piece.ended ≡ false → count + piece.size ≤ most → holds_line most bytes ≡ false
no_line piece bytes count most is e fits =
    let none : has_lf bytes ≡ false = ap has_lf (all_of piece bytes is e) ∙ is.one in
    let len : length bytes ≡ piece.len = ap length (all_of piece bytes is e) ∙ length-take-le piece.len bytes is.len in
    ap (λ t. t || nat_lt most (length bytes)) none ∙ not_over most (length bytes) (omega (arith, len, fits, size_is piece bytes is))
  where
    not_over : (most n : ℕ) → n ≤ most → nat_lt most n ≡ false
    not_over most n le = grind (arith, common_steps)

pub not_empty : (most : ℕ) (bytes : List ℕ) → IsTrue (holds_line most bytes) → bytes ≢ []
not_empty most [] holds e = absurd (let no : nat_lt most 0 ≡ false = not_below most in cc)
  where
    not_below : (n : ℕ) → nat_lt n 0 ≡ false
    not_below n = grind (arith, common_steps)
not_empty most (b ∷ bytes) holds e = cc

-- where a line is held, no piece without a line feed fits
pub never_more : (piece : Piece) (first ahead bytes : List ℕ) (count most : ℕ) → IsTrue (holds_line most first) → ahead ≡ first → (ahead ≢ [] → bytes ≡ ahead)
    → IsPiece piece bytes → piece.ended ≡ false → count + piece.size ≤ most → ⊥
never_more piece first ahead bytes count most holds same kept is e fits =
    let not_none : ahead ≢ [] = λ none. not_empty most first holds (sym same ∙ none) in
    let none : holds_line most first ≡ false = ap (holds_line most) (sym (kept not_none ∙ same)) ∙ no_line piece bytes count most is e fits in
    let both : true ≡ false = sym holds ∙ none in
    cc
