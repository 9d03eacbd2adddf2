-- What the readers of words owe to them.
use Rattle.std.proofs.Common.{◌≡◌, ℕ, zero, suc, ◌+◌, ◌^◌, ◌<◌, ◌≤◌, Bool, true, false, cond, eqb, List, [], ◌∷◌, length, take, drop, Option, Some, None, refl, sym, ap, subst, ◌∙◌, arith, ℤ, pos, neg_ℤ}
use Rattle.std.specs.Prelude.{not, nat_lt, ◌||◌, ◌&&◌, ◌<ℤ◌, codes, position}
use Rattle.std.specs.List.{list_all, list_any, slice_get, position_from}
use Rattle.std.specs.Char.{is_digit}
use Rattle.std.specs.Str.{bytes_eq}
use Rattle.std.specs.Str.Parse.{digits_value, starts_with_minus}
use Rattle.std.proofs.lemmas.Bool.{eqb-true, ne_eqb, lt-ltb}
use Rattle.std.proofs.lemmas.Bool.Decides.{nat_tests}
use Rattle.std.proofs.lemmas.Int.{ints}
use Rattle.std.proofs.lemmas.Iterator.Adapters.{position_from-zero}
use Rattle.std.proofs.lemmas.Slice.Eq.{bytes_eq-Decides}
use Rattle.pss_base.specs.declared.pid.Pid.{Pid}
use Rattle.pss_base.specs.Hexadecimal.{is_hex_digit}
use Rattle.pss_base.specs.PidText.{pid_of, are_hex_digits}
use Rattle.type_layout.specs.declared.home.HomeNo.{HomeNo}
use Rattle.type_layout.specs.Types.{Boolean, Enum, RefTo, PlainValue, Int, Truth, Ordinal, Ref}
use Rattle.type_layout.specs.Sound.{are_distinct, is_letter, is_word_byte, is_name, AreEnumerators}
use Rattle.value_text.specs.Words.{digits_of, is_decimal, number_of, IsNumber, truth_text}
use Rattle.value_text.specs.Texts.{Writes, Spells}
use Rattle.value_text.specs.Reading.{◌>>=◌, is_part, word_at, number_in, truth_in, enumerator_in, reference_in}
use Rattle.value_text.proofs.Owing.{Takes, Reads, some_is, bind_some, let_through, both_true, all_weaker, word_takes, word_reads}

-- a byte that is none of those that end a word
part_is : (b : ℕ) → (b ≡ 32 → ⊥) → (b ≡ 9 → ⊥) → (b ≡ 44 → ⊥) → (b ≡ 93 → ⊥) → (b ≡ 125 → ⊥) → is_part b ≡ true
part_is b n32 n9 n44 n93 n125 = rw (ne_eqb b 32 n32, ne_eqb b 9 n9, ne_eqb b 44 n44, ne_eqb b 93 n93, ne_eqb b 125 n125) refl

-- ---- numbers

digit_is_part : (b : ℕ) → is_digit b 10 ≡ true → is_part b ≡ true
digit_is_part b h =
    let low : (48 ≤ b) × (b ≤ 57) = grind (arith, nat_tests) in
    part_is b (λ e. omega arith) (λ e. omega arith) (λ e. omega arith) (λ e. omega arith) (λ e. omega arith)

decimal_digits : (digits : List ℕ) → is_decimal digits ≡ true → list_all (λ b. is_digit b 10) digits ≡ true
decimal_digits digits h = (both_true (nat_lt 0 (length digits) && nat_lt (length digits) 40) (list_all (λ b. is_digit b 10) digits) h).1

number_parts : (text : List ℕ) → is_decimal (digits_of text) ≡ true → list_all is_part text ≡ true
number_parts [] h = refl
number_parts (b ∷ bs) h = by_test (eqb b 45) refl h
  where
    parts : (digits : List ℕ) → is_decimal digits ≡ true → list_all is_part digits ≡ true
    parts digits d = all_weaker (λ c. is_digit c 10) is_part digit_is_part digits (decimal_digits digits d)

    by_test : (t : Bool) → eqb b 45 ≡ t → is_decimal (cond t bs (b ∷ bs)) ≡ true → list_all is_part (b ∷ bs) ≡ true
    by_test true minus d =
        let is : b ≡ 45 = eqb-true b 45 minus in
        let part : is_part b ≡ true = ap is_part is in
        rw part (parts bs d)
    by_test false minus d = parts (b ∷ bs) d

-- a number of less than 20 digits
abbrev pub IsNarrow : ℤ → Type 0
IsNarrow z = (neg_ℤ (pos (2 ^ 64)) <ℤ z) × (z <ℤ pos (2 ^ 64))

narrow_digits : (minus : Bool) (n : ℕ) (z : ℤ) → z ≡ cond minus (neg_ℤ (pos n)) (pos n) → IsNarrow z → n < 2 ^ 64
narrow_digits true n z e narrow = (let low = rw e at narrow.0 in omega (arith, ints))
narrow_digits false n z e narrow = (let high = rw e at narrow.1 in omega (arith, ints))

pub number_takes : (W : PlainValue → List ℕ → Type 0) → ((z : ℤ) (text : List ℕ) → IsNumber z text → W (Int z) text) → Takes (word_at number_in) W
number_takes W to = word_takes number_in W means
  where
    means : (word : List ℕ) (x : PlainValue) → number_in word ≡ Some x → W x word
    means word x e =
        let t = let_through (is_decimal (digits_of word) && nat_lt (digits_value 10 (digits_of word)) (2 ^ 64)) (Int (number_of word)) x e in
        let d = both_true (is_decimal (digits_of word)) (nat_lt (digits_value 10 (digits_of word)) (2 ^ 64)) t.0 in
        subst (λ (v : PlainValue). W v word) t.1 (to (number_of word) word (d.0, refl))

pub number_reads : (W : PlainValue → List ℕ → Type 0) → ((v : PlainValue) (text : List ℕ) → W v text → (z : ℤ) × (v ≡ Int z) × IsNumber z text × IsNarrow z) → Reads (word_at number_in) W
number_reads W from = word_reads number_in W means
  where
    means : (x : PlainValue) (word : List ℕ) → W x word → (list_all is_part word ≡ true) × (number_in word ≡ Some x)
    means x word w =
        let f = from x word w in
        let small = narrow_digits (starts_with_minus word) (digits_value 10 (digits_of word)) f.0 f.2.1 f.3 in
        (number_parts word f.2.0, rw (f.2.0, lt-ltb (digits_value 10 (digits_of word)) (2 ^ 64) small) (ap (λ (z : ℤ). Some (Int z)) (sym f.2.1) ∙ ap Some (sym f.1)))

-- ---- booleans

eq_bytes : (xs ys : List ℕ) → bytes_eq xs ys ≡ true → xs ≡ ys
eq_bytes xs ys = (bytes_eq-Decides xs ys).0

bytes_same : (xs ys : List ℕ) → xs ≡ ys → bytes_eq xs ys ≡ true
bytes_same xs ys = (bytes_eq-Decides xs ys).1

pub truth_takes : Takes (word_at truth_in) (Writes Boolean)
truth_takes = word_takes truth_in (Writes Boolean) means
  where
    means : (word : List ℕ) (x : PlainValue) → truth_in word ≡ Some x → Writes Boolean x word
    means word x e = by_first (bytes_eq word (truth_text true)) refl (bytes_eq word (truth_text false)) refl e
      where
        by_first : (s : Bool) → bytes_eq word (truth_text true) ≡ s → (t : Bool) → bytes_eq word (truth_text false) ≡ t → cond s (Some (Truth true)) (cond t (Some (Truth false)) None) ≡ Some x → Writes Boolean x word
        by_first true first t second e = subst (λ (v : PlainValue). Writes Boolean v word) (some_is (Truth true) x e) (eq_bytes word (truth_text true) first)
        by_first false first true second e = subst (λ (v : PlainValue). Writes Boolean v word) (some_is (Truth false) x e) (eq_bytes word (truth_text false) second)
        by_first false first false second e = absurd cc

pub truth_reads : Reads (word_at truth_in) (Spells Boolean)
truth_reads = word_reads truth_in (Spells Boolean) means
  where
    means : (x : PlainValue) (word : List ℕ) → Spells Boolean x word → (list_all is_part word ≡ true) × (truth_in word ≡ Some x)
    means (Truth true) word w = (ap (list_all is_part) w.1, ap truth_in w.1)
    means (Truth false) word w = (ap (list_all is_part) w.1, ap truth_in w.1)
    means _ word w = absurd w.0

-- ---- enumerators

abbrev pub named : List ℕ → List ℕ → Bool
named word name = bytes_eq name word

found_name : (word : List ℕ) (names : List (List ℕ)) (i n : ℕ) → position_from (named word) i names ≡ Some n → (k : ℕ) × (n ≡ i + k) × (slice_get names k ≡ Some word)
found_name word [] i n e = absurd cc
found_name word (name ∷ names) i n e = by_test (bytes_eq name word) refl e (found_name word names (i + 1) n)
  where
    by_test : (t : Bool) → bytes_eq name word ≡ t → cond t (Some i) (position_from (named word) (i + 1) names) ≡ Some n → (position_from (named word) (i + 1) names ≡ Some n → (k : ℕ) × (n ≡ i + 1 + k) × (slice_get names k ≡ Some word)) → (k : ℕ) × (n ≡ i + k) × (slice_get (name ∷ names) k ≡ Some word)
    by_test true same e others = (let first : i ≡ n = some_is i n e in (0, omega arith, ap Some (eq_bytes name word same)))
    by_test false other e others = (let later = others e in let sum : n ≡ i + suc later.0 = omega (arith, later.1) in (suc later.0, sum, later.2))

-- a name that is further on is among the names
among : (x word : List ℕ) (names : List (List ℕ)) (k : ℕ) → bytes_eq x word ≡ true → slice_get names k ≡ Some word → list_any (bytes_eq x) names ≡ true
among x word [] k same e = absurd cc
among x word (name ∷ names) zero same e = (let is : word ≡ name = sym (some_is name word e) in let there : bytes_eq x name ≡ true = ap (bytes_eq x) (sym is) ∙ same in rw there refl)
among x word (name ∷ names) (suc k) same e = or_true (bytes_eq x name) (list_any (bytes_eq x) names) (among x word names k same e)
  where
    or_true : (a b : Bool) → b ≡ true → (a || b) ≡ true
    or_true true b h = refl
    or_true false b h = h

name_found : (word : List ℕ) (names : List (List ℕ)) (i k : ℕ) → are_distinct bytes_eq names ≡ true → slice_get names k ≡ Some word → position_from (named word) i names ≡ Some (i + k)
name_found word [] i k distinct e = absurd cc
name_found word (name ∷ names) i zero distinct e =
    let here : i ≡ i + 0 = omega arith in
    rw (bytes_same name word (some_is name word e)) (ap Some here)
name_found word (name ∷ names) i (suc k) distinct e =
    let alone = both_true (not (list_any (bytes_eq name) names)) (are_distinct bytes_eq names) distinct in
    by_test (bytes_eq name word) refl alone.0 (name_found word names (i + 1) k alone.1 e)
  where
    by_test : (t : Bool) → bytes_eq name word ≡ t → not (list_any (bytes_eq name) names) ≡ true → position_from (named word) (i + 1) names ≡ Some (i + 1 + k) → cond t (Some i) (position_from (named word) (i + 1) names) ≡ Some (i + suc k)
    by_test true same alone others = (let two = among name word names k same e in absurd (let no : not true ≡ true = ap not (sym two) ∙ alone in cc))
    by_test false other alone others = (let sum : i + 1 + k ≡ i + suc k = omega arith in others ∙ ap Some sum)

pub enumerator_takes : (names : List (List ℕ)) → Takes (word_at (enumerator_in names)) (Writes (Enum names))
enumerator_takes names = word_takes (enumerator_in names) (Writes (Enum names)) means
  where
    means : (word : List ℕ) (x : PlainValue) → enumerator_in names word ≡ Some x → Writes (Enum names) x word
    means word x e =
        let b = bind_some (position (named word) names) (λ n. cond (nat_lt n (2 ^ 32)) (Some (Ordinal n)) None) x e in
        let t = let_through (nat_lt b.0 (2 ^ 32)) (Ordinal b.0) x b.2 in
        let f = found_name word names 0 b.0 (sym (position_from-zero (named word) names) ∙ b.1) in
        let here : f.0 ≡ b.0 = omega (arith, f.1) in
        subst (λ (v : PlainValue). Writes (Enum names) v word) t.1 (subst (λ (k : ℕ). slice_get names k ≡ Some word) here f.2)

word_byte_is_part : (b : ℕ) → is_word_byte b ≡ true → is_part b ≡ true
word_byte_is_part b h = part_is b (λ e. absurd (let no : is_word_byte 32 ≡ true = ap is_word_byte (sym e) ∙ h in cc)) (λ e. absurd (let no : is_word_byte 9 ≡ true = ap is_word_byte (sym e) ∙ h in cc)) (λ e. absurd (let no : is_word_byte 44 ≡ true = ap is_word_byte (sym e) ∙ h in cc)) (λ e. absurd (let no : is_word_byte 93 ≡ true = ap is_word_byte (sym e) ∙ h in cc)) (λ e. absurd (let no : is_word_byte 125 ≡ true = ap is_word_byte (sym e) ∙ h in cc))

letter_is_word_byte : (b : ℕ) → is_letter b ≡ true → is_word_byte b ≡ true
letter_is_word_byte b h = rw h refl

name_parts : (names : List (List ℕ)) (n : ℕ) (text : List ℕ) → list_all is_name names ≡ true → slice_get names n ≡ Some text → list_all is_part text ≡ true
name_parts [] n text all e = absurd cc
name_parts (name ∷ names) zero text all e = subst (λ (t : List ℕ). list_all is_part t ≡ true) (some_is name text e) (of_name name (both_true (is_name name) (list_all is_name names) all).0)
  where
    of_name : (name : List ℕ) → is_name name ≡ true → list_all is_part name ≡ true
    of_name [] h = refl
    of_name (b ∷ bs) h =
        let t = both_true (is_letter b) (list_all is_word_byte bs) h in
        rw (word_byte_is_part b (letter_is_word_byte b t.0)) (all_weaker is_word_byte is_part word_byte_is_part bs t.1)
name_parts (name ∷ names) (suc n) text all e = name_parts names n text (both_true (is_name name) (list_all is_name names) all).1 e

pub enumerator_reads : (names : List (List ℕ)) → AreEnumerators names → Reads (word_at (enumerator_in names)) (Spells (Enum names))
enumerator_reads names sound = word_reads (enumerator_in names) (Spells (Enum names)) means
  where
    means : (x : PlainValue) (word : List ℕ) → Spells (Enum names) x word → (list_all is_part word ≡ true) × (enumerator_in names word ≡ Some x)
    means (Ordinal n) word w =
        let at : position (named word) names ≡ Some n = position_from-zero (named word) names ∙ name_found word names 0 n sound.3 w.1 ∙ (let same : 0 + n ≡ n = omega arith in ap Some same) in
        (name_parts names n word sound.2 w.1, rw (at, lt-ltb n (2 ^ 32) w.0.1) refl)
    means _ word w = absurd w.0

-- no name is the empty word
none_empty : (names : List (List ℕ)) (i : ℕ) → list_all is_name names ≡ true → position_from (named []) i names ≡ None
none_empty [] i h = refl
none_empty ([] ∷ names) i h = absurd (let no : false ≡ true = (both_true false (list_all is_name names) h).0 in cc)
none_empty ((b ∷ bs) ∷ names) i h = none_empty names (i + 1) (both_true (is_name (b ∷ bs)) (list_all is_name names) h).1

pub no_name_is_empty : (names : List (List ℕ)) → list_all is_name names ≡ true → position (named []) names ≡ None
no_name_is_empty names h = position_from-zero (named []) names ∙ none_empty names 0 h

-- ---- references

pub reference_takes : (homes : List HomeNo) → Takes (word_at reference_in) (Writes (RefTo homes))
reference_takes homes = word_takes reference_in (Writes (RefTo homes)) means
  where
    means : (word : List ℕ) (x : PlainValue) → reference_in word ≡ Some x → Writes (RefTo homes) x word
    means word x e = by_first (bytes_eq word (codes "nil")) refl e
      where
        by_first : (s : Bool) → bytes_eq word (codes "nil") ≡ s → cond s (Some (Ref None)) (pid_of word >>= λ pid. Some (Ref (Some pid))) ≡ Some x → Writes (RefTo homes) x word
        by_first true first e = subst (λ (v : PlainValue). Writes (RefTo homes) v word) (some_is (Ref None) x e) (eq_bytes word (codes "nil") first)
        by_first false first e =
            let b = bind_some (pid_of word) (λ pid. Some (Ref (Some pid))) x e in
            subst (λ (v : PlainValue). Writes (RefTo homes) v word) (some_is (Ref (Some b.0)) x b.2) b.1

hex_digit_is_part : (b : ℕ) → is_hex_digit b ≡ true → is_part b ≡ true
hex_digit_is_part b h = part_is b (λ e. absurd (let no : is_hex_digit 32 ≡ true = ap is_hex_digit (sym e) ∙ h in cc)) (λ e. absurd (let no : is_hex_digit 9 ≡ true = ap is_hex_digit (sym e) ∙ h in cc)) (λ e. absurd (let no : is_hex_digit 44 ≡ true = ap is_hex_digit (sym e) ∙ h in cc)) (λ e. absurd (let no : is_hex_digit 93 ≡ true = ap is_hex_digit (sym e) ∙ h in cc)) (λ e. absurd (let no : is_hex_digit 125 ≡ true = ap is_hex_digit (sym e) ∙ h in cc))

-- 24 digits are not `nil`
pid_is_not_nil : (word : List ℕ) → are_hex_digits 24 word ≡ true → bytes_eq word (codes "nil") ≡ false
pid_is_not_nil word h = by_test (bytes_eq word (codes "nil")) refl
  where
    by_test : (t : Bool) → bytes_eq word (codes "nil") ≡ t → t ≡ false
    by_test true same = (let no : are_hex_digits 24 (codes "nil") ≡ true = ap (are_hex_digits 24) (sym (eq_bytes word (codes "nil") same)) ∙ h in absurd cc)
    by_test false other = refl

-- the text of a pid has its digits
pid_has_digits : (word : List ℕ) (pid : Pid) → pid_of word ≡ Some pid → are_hex_digits 24 word ≡ true
pid_has_digits word pid e =
    (let_through (are_hex_digits 24 word) (record { home = digits_value 16 (take 8 word); serial = digits_value 16 (drop 8 word) }) pid e).0

pub reference_reads : (homes : List HomeNo) → Reads (word_at reference_in) (Spells (RefTo homes))
reference_reads homes = word_reads reference_in (Spells (RefTo homes)) means
  where
    means : (x : PlainValue) (word : List ℕ) → Spells (RefTo homes) x word → (list_all is_part word ≡ true) × (reference_in word ≡ Some x)
    means (Ref None) word w = (ap (list_all is_part) w.1, ap reference_in w.1)
    means (Ref (Some pid)) word w =
        let digits = pid_has_digits word pid w.1 in
        let other : reference_in word ≡ (pid_of word >>= λ (p : Pid). Some (Ref (Some p))) = ap (λ (t : Bool). cond t (Some (Ref None)) (pid_of word >>= λ (p : Pid). Some (Ref (Some p)))) (pid_is_not_nil word digits) in (
          all_weaker is_hex_digit is_part hex_digit_is_part word (both_true (eqb (length word) 24) (list_all is_hex_digit word) digits).1,
          other ∙ ap (λ (r : Option Pid). r >>= λ (p : Pid). Some (Ref (Some p))) w.1,
        )
    means _ word w = absurd w.0
