-- Words that are known by their bytes: a name and an entry, each with a space behind it.
use Rattle.std.proofs.Common.{◌≡◌, ℕ, zero, suc, ◌+◌, ◌<◌, ◌≤◌, List, [], ◌∷◌, length, take, drop, get_or, Bool, true, false, refl, ap, arith}
use Rattle.std.proofs.lemmas.Bool.{false≢true, and_parts, and_from}
use Rattle.std.proofs.lemmas.Bool.Decides.{nat_tests}
use Rattle.std.specs.Char.{is_ascii_digit}
use Rattle.std.specs.List.{list_all, prefix_len}
use Rattle.pss_base.specs.Blanks.{is_blank}
use Rattle.script_text.specs.Parts.{is_name, is_name_byte}
use Rattle.script_text.specs.declared.parts.Number.{Number}
use Rattle.script_text.specs.inner.Seen.{IsNumberInFront}
use Rattle.script_text.proofs.NumberLaws.{digit_range}
use Rattle.script_text.proofs.WordLaws.{no_blank}

one_add : (n : ℕ) → 1 + n ≡ suc n
one_add n = omega arith

apart : (b : ℕ) → 48 ≤ b → is_blank b ≡ false
apart b low = grind (arith, nat_tests)

name_range : (b : ℕ) → is_name_byte b ≡ true → 48 ≤ b
name_range b e = grind (arith, nat_tests)

-- the bytes of a name in front
pub front_all : (xs : List ℕ) → list_all is_name_byte (take (prefix_len is_name_byte xs) xs) ≡ true
front_all [] = refl
front_all (x ∷ xs) = by x xs (is_name_byte x) refl (front_all xs)
  where
    by : (x : ℕ) (xs : List ℕ) (b : Bool) → is_name_byte x ≡ b → list_all is_name_byte (take (prefix_len is_name_byte xs) xs) ≡ true → list_all is_name_byte (take (prefix_len is_name_byte (x ∷ xs)) (x ∷ xs)) ≡ true
    by x xs true is rest = rw (is, one_add) (and_from (is_name_byte x) (list_all is_name_byte (take (prefix_len is_name_byte xs) xs)) is rest)
    by x xs false is rest = rw is refl

-- they are a word where a space follows
pub names_end : (xs rest : List ℕ) → drop (prefix_len is_name_byte xs) xs ≡ 32 ∷ rest → prefix_len is_name_byte xs ≡ prefix_len no_blank xs
names_end [] rest e = refl
names_end (x ∷ xs) rest e = by x xs rest (is_name_byte x) refl (names_end xs rest) e
  where
    by : (x : ℕ) (xs rest : List ℕ) (b : Bool) → is_name_byte x ≡ b → (drop (prefix_len is_name_byte xs) xs ≡ 32 ∷ rest → prefix_len is_name_byte xs ≡ prefix_len no_blank xs)
        → drop (prefix_len is_name_byte (x ∷ xs)) (x ∷ xs) ≡ 32 ∷ rest → prefix_len is_name_byte (x ∷ xs) ≡ prefix_len no_blank (x ∷ xs)
    by x xs rest true is further e =
        let next : prefix_len is_name_byte xs ≡ prefix_len no_blank xs = further (rw (is, one_add) at e) in
        rw (is, apart x (name_range x is), next) refl
    by x xs rest false is further e =
        let whole : x ∷ xs ≡ 32 ∷ rest = rw is at e in
        let blank : is_blank x ≡ true = ap (λ (l : List ℕ). is_blank (get_or l 0 0)) whole in
        rw (is, blank) refl

pub named_some : (n : ℕ) (xs : List ℕ) → is_name (take n xs) ≡ true → n ≡ 0 → ⊥
named_some zero xs named none = false≢true named
named_some (suc n) xs named none = omega (arith, none)

digits_end : (xs : List ℕ) (n : ℕ) → n < length xs → list_all is_ascii_digit (take n xs) ≡ true → get_or xs n 0 ≡ 32 → prefix_len no_blank xs ≡ n
digits_end [] n inside all space = absurd (omega (arith, inside))
digits_end (x ∷ xs) zero inside all space =
    let blank : is_blank x ≡ true = ap is_blank space in
    rw blank refl
digits_end (x ∷ xs) (suc n) inside all space =
    let parts = and_parts (is_ascii_digit x) (list_all is_ascii_digit (take n xs)) all in
    let next : prefix_len no_blank xs ≡ n = digits_end xs n (omega (arith, inside)) parts.1 space in
    rw (apart x (digit_range x parts.0).0, next) (one_add n)

-- the letter of entries, and the digits behind it
pub entry_end : (behind digits : List ℕ) (n : Number) → behind ≡ 105 ∷ digits → IsNumberInFront digits n → n.len + 1 ≡ prefix_len no_blank behind
entry_end behind digits n is front =
    let next : prefix_len no_blank digits ≡ n.len = digits_end digits n.len front.inside front.digits front.space in
    let whole : prefix_len no_blank behind ≡ 1 + prefix_len no_blank digits = ap (prefix_len no_blank) is in
    omega (arith, next, whole)
