-- What is told of a word, and the part that it writes.
use Rattle.std.proofs.Common.{length-take, length-drop, ◌≡◌, ◌≤◌, ℕ, zero, suc, ◌<◌, ◌^◌, List, [], ◌∷◌, length, get_or, Bool, true, false, not, ◌&&◌, cond, refl, sym, ◌∙◌, ap, subst, arith, take, drop, ◌++◌, inl, inr, Some, None, if◌then◌else◌}
use Rattle.std.proofs.Math.Nat.{pow-le-pow_right}
use Rattle.std.proofs.lemmas.Bool.{eqb-true, eq-eqb, ne_eqb, lt-ltb, le-leb, cases_lt}
use Rattle.std.proofs.lemmas.Bool.Decides.{nat_tests}
use Rattle.std.proofs.lemmas.Fmt.{decimal_is_IsNumeral, decimal-digits_value, decimal_digit, first_decimal, length-decimal-le}
use Rattle.std.proofs.lemmas.Int.Digits.{digits_value-lt}
use Rattle.std.proofs.lemmas.List.{take-append-drop}
use Rattle.std.proofs.lemmas.List.Folds.{list_all-append}
use Rattle.std.proofs.lemmas.Slice.Eq.{bytes_eq-Decides}
use Rattle.std.proofs.lemmas.Str.Parse.{IsNumeralModel}
use Rattle.std.specs.Prelude.{decimal, ◌==◌, nat_lt, nat_le}
use Rattle.std.specs.List.{list_all}
use Rattle.std.specs.Char.{is_ascii_digit, digit_value}
use Rattle.std.specs.Str.{bytes_eq}
use Rattle.std.specs.Str.Parse.{AllDigits, digits_value}
use Rattle.pss_base.specs.declared.pid.Pid.{Pid}
use Rattle.pss_base.specs.Hexadecimal.{is_hex_digit, hex_digits}
use Rattle.pss_base.specs.PidText.{pid_text, pid_of, short_pid_text, short_pid_of, are_hex_digits}
use Rattle.pss_base.proofs.Digits.{digits_again, digit_counts}
use Rattle.pss_base.proofs.PidTexts.{pid_again, short_pid_again}
use Rattle.script_text.specs.Parts.{Part, Fixed, Name, Free, Entry, Object, Serial, is_name, IsPid, IsWritten}
use Rattle.script_text.specs.Meaning.{Kind, OfName, OfWord, OfEntry, OfPid, OfSerial, OneOf, Value, has_leading_zero, is_entry_number, entry_of, value_of}
use Rattle.script_text.proofs.NumberLaws.{digit_range, digit_is}

-- the part that a value of the kind is
abbrev pub part : (k : Kind) → Value k → Part
part OfName name = Name name
part OfWord word = Free word
part OfEntry number = Entry number
part OfPid pid = Object pid
part OfSerial serial = Serial serial
part (OneOf one other) b = Fixed (if b then one else other)

-- two words to choose from are two
abbrev pub IsApart : Kind → Type 0
IsApart (OneOf one other) = bytes_eq other one ≡ false
IsApart _ = Unit {0}

pub both : (a b : Bool) → (a && b) ≡ true → (a ≡ true) × (b ≡ true)
both true b e = (refl, e)
both false b e = absurd cc

same_bytes : (a b : List ℕ) → bytes_eq a b ≡ true → a ≡ b
same_bytes a b e = (bytes_eq-Decides a b).0 e

bytes_same : (a : List ℕ) → bytes_eq a a ≡ true
bytes_same a = (bytes_eq-Decides a a).1 refl

not_true : (t : Bool) → not t ≡ true → t ≡ false
not_true true e = absurd cc
not_true false e = refl

-- ---- entries

digits_model : IsNumeralModel (AllDigits 10) (digits_value 10)
digits_model = record { to = λ ds p. p; from = λ ds p. p; same = λ ds p. refl }

all_digits : (ds : List ℕ) → list_all is_ascii_digit ds ≡ true → AllDigits 10 ds
all_digits [] e = tt
all_digits (d ∷ ds) e =
    let h = both (is_ascii_digit d) (list_all is_ascii_digit ds) e in
    let range = digit_range d h.0 in
    let is = digit_is d range.0 range.1 in
    (omega (arith, is, range.0, range.1), all_digits ds h.1)

digit_again : (d : ℕ) → digit_value d < 10 → is_ascii_digit d ≡ true
digit_again d h = grind (arith, nat_tests)

digits_again_all : (ds : List ℕ) → AllDigits 10 ds → list_all is_ascii_digit ds ≡ true
digits_again_all [] all = refl
digits_again_all (d ∷ ds) all = rw (digit_again d all.0, digits_again_all ds all.1) refl

-- no zero stands in front of more digits
leads_alone : (ds : List ℕ) → 0 < length ds → has_leading_zero ds ≡ false → get_or ds 0 0 ≡ 48 → length ds ≡ 1
leads_alone ds some e zero_first = elim (cases_lt 1 (length ds)) [
  | inl more ↦ absurd (let is : has_leading_zero ds ≡ true = rw (eq-eqb (get_or ds 0 0) 48 zero_first, lt-ltb 1 (length ds) more) refl in cc)
  | inr few ↦ omega arith
]

entry_sound : (text : List ℕ) (n : ℕ) → entry_of text ≡ Some n → (n < 10 ^ 10) × (text ≡ 105 ∷ decimal n)
entry_sound [] n e = absurd (cc)
entry_sound (b ∷ ds) n e = by (b == 105 && is_entry_number ds) refl e
  where
    by : (t : Bool) → (b == 105 && is_entry_number ds) ≡ t → cond t (Some (digits_value 10 ds)) None ≡ Some n → (n < 10 ^ 10) × (b ∷ ds ≡ 105 ∷ decimal n)
    by false is e = absurd (cc)
    by true is e =
        let first = both (b == 105) (is_entry_number ds) is in
        let h = both (nat_lt 0 (length ds)) (list_all is_ascii_digit ds && (nat_le (length ds) 10 && not (has_leading_zero ds))) first.1 in
        let g = both (list_all is_ascii_digit ds) (nat_le (length ds) 10 && not (has_leading_zero ds)) h.1 in
        let f = both (nat_le (length ds) 10) (not (has_leading_zero ds)) g.1 in
        let some : 0 < length ds = grind (arith, nat_tests) in
        let few : length ds ≤ 10 = grind (arith, nat_tests) in
        let lead : has_leading_zero ds ≡ false = not_true (has_leading_zero ds) f.1 in
        let all = all_digits ds g.0 in
        let value : digits_value 10 ds ≡ n = cc in
        let below = digits_value-lt 10 ds all in
        let most : 10 ^ length ds ≤ 10 ^ 10 = pow-le-pow_right {n = 10} (omega arith) {i = length ds} {j = 10} few in
        let text : decimal (digits_value 10 ds) ≡ ds = decimal-digits_value digits_model ds all some (leads_alone ds some lead) (omega (arith, below, most)) in
        let letter : b ≡ 105 = eqb-true b 105 first.0 in
        (omega (arith, below, most, value), ap (λ x. x ∷ ds) letter ∙ ap (λ xs. 105 ∷ xs) (sym text ∙ ap decimal value))

no_lead : (n : ℕ) → n < 10 ^ 10 → has_leading_zero (decimal n) ≡ false
no_lead zero h = rw (decimal_digit 0 (omega arith)) refl
no_lead (suc n) h =
    let more : 48 < get_or (decimal (suc n)) 0 0 = first_decimal (suc n) (omega arith) (omega arith) in
    let other : (get_or (decimal (suc n)) 0 0 == 48) ≡ false = ne_eqb (get_or (decimal (suc n)) 0 0) 48 (λ e. omega arith) in
    rw other refl

entry_complete : (n : ℕ) → n < 10 ^ 10 → entry_of (105 ∷ decimal n) ≡ Some n
entry_complete n h =
    let numeral = decimal_is_IsNumeral n (omega arith) in
    let some : nat_lt 0 (length (decimal n)) ≡ true = lt-ltb 0 (length (decimal n)) numeral.0.0 in
    let all : list_all is_ascii_digit (decimal n) ≡ true = digits_again_all (decimal n) numeral.0.1 in
    let few : nat_le (length (decimal n)) 10 ≡ true = le-leb (length (decimal n)) 10 (length-decimal-le 10 n (omega arith) h (omega arith)) in
    rw (some, all, few, no_lead n h) (ap (λ n. Some n) numeral.1)

-- ---- objects

hex_all : (ds : List ℕ) → list_all is_hex_digit ds ≡ true → AllDigits 16 ds
hex_all [] e = tt
hex_all (d ∷ ds) e = let h = both (is_hex_digit d) (list_all is_hex_digit ds) e in (digit_counts d h.0, hex_all ds h.1)

all_parts : (n : ℕ) (text : List ℕ) → list_all is_hex_digit text ≡ true → (list_all is_hex_digit (take n text) ≡ true) × (list_all is_hex_digit (drop n text) ≡ true)
all_parts n text e =
    both (list_all is_hex_digit (take n text)) (list_all is_hex_digit (drop n text))
    (sym (list_all-append is_hex_digit (take n text) (drop n text)) ∙ ap (list_all is_hex_digit) (take-append-drop n text) ∙ e)

-- so many digits, and their number
hex_fits : (ds : List ℕ) (k : ℕ) → length ds ≡ k → list_all is_hex_digit ds ≡ true → digits_value 16 ds < 16 ^ k
hex_fits ds k size all = subst (λ n. digits_value 16 ds < 16 ^ n) size (digits_value-lt 16 ds (hex_all ds all))

-- what was read of so many digits
hex_parts : (k : ℕ) (text : List ℕ) → are_hex_digits k text ≡ true → (length text ≡ k) × (list_all is_hex_digit text ≡ true)
hex_parts k text e = let h = both (length text == k) (list_all is_hex_digit text) e in (eqb-true (length text) k h.0, h.1)

pid_sound : (text : List ℕ) (pid : Pid) → pid_of text ≡ Some pid → IsPid pid × (text ≡ pid_text pid)
pid_sound text pid e = by (are_hex_digits 24 text) refl e
  where
    by : (t : Bool) → are_hex_digits 24 text ≡ t → cond t (Some (record { home = digits_value 16 (take 8 text); serial = digits_value 16 (drop 8 text) })) None ≡ Some pid → IsPid pid × (text ≡ pid_text pid)
    by false is e = absurd (cc)
    by true is e =
        let h = hex_parts 24 text is in
        let parts = all_parts 8 text h.1 in
        let front : length (take 8 text) ≡ 8 = omega (arith, length-take 8 text, h.0) in
        let back : length (drop 8 text) ≡ 16 = omega (arith, length-drop 8 text, h.0) in
        let home_fits : digits_value 16 (take 8 text) < 2 ^ 32 = hex_fits (take 8 text) 8 front parts.0 in
        let serial_fits : digits_value 16 (drop 8 text) < 2 ^ 64 = hex_fits (drop 8 text) 16 back parts.1 in
        let one : Pid = record { home = digits_value 16 (take 8 text); serial = digits_value 16 (drop 8 text) } in
        let same : one ≡ pid = cc in
        let spelled : pid_text one ≡ text =
        ap (λ xs. xs ++ hex_digits 16 (digits_value 16 (drop 8 text))) (digits_again (take 8 text) 8 front parts.0)
        ∙ ap (λ xs. take 8 text ++ xs) (digits_again (drop 8 text) 16 back parts.1) ∙ take-append-drop 8 text in
        subst (λ p. IsPid p × (text ≡ pid_text p)) same ((home_fits, serial_fits), sym spelled)

serial_sound : (text : List ℕ) (n : ℕ) → short_pid_of text ≡ Some n → (n < 2 ^ 64) × (text ≡ short_pid_text n)
serial_sound text n e = by (are_hex_digits 16 text) refl e
  where
    by : (t : Bool) → are_hex_digits 16 text ≡ t → cond t (Some (digits_value 16 text)) None ≡ Some n → (n < 2 ^ 64) × (text ≡ short_pid_text n)
    by false is e = absurd (cc)
    by true is e =
        let h = hex_parts 16 text is in
        let fits : digits_value 16 text < 2 ^ 64 = hex_fits text 16 h.0 h.1 in
        let same : digits_value 16 text ≡ n = cc in
        subst (λ m. (m < 2 ^ 64) × (text ≡ short_pid_text m)) same (fits, sym (digits_again text 16 h.0 h.1))

-- ---- all kinds

name_sound : (text name : List ℕ) → (if is_name text then Some text else None) ≡ Some name → (is_name name ≡ true) × (text ≡ name)
name_sound text name e = by (is_name text) refl e
  where
    by : (t : Bool) → is_name text ≡ t → cond t (Some text) None ≡ Some name → (is_name name ≡ true) × (text ≡ name)
    by false is e = absurd (cc)
    by true is e = let same : text ≡ name = cc in (subst (λ n. is_name n ≡ true) same is, same)

choice_sound : (one other text : List ℕ) (x : Bool) → value_of (OneOf one other) text ≡ Some x → text ≡ (if x then one else other)
choice_sound one other text x e = by (bytes_eq text one) (bytes_eq text other) refl refl e
  where
    by : (t u : Bool) → bytes_eq text one ≡ t → bytes_eq text other ≡ u → cond t (Some true) (cond u (Some false) None) ≡ Some x → text ≡ (if x then one else other)
    by true u is is' e = let same : true ≡ x = cc in subst (λ b. text ≡ (if b then one else other)) same (same_bytes text one is)
    by false true is is' e = let same : false ≡ x = cc in subst (λ b. text ≡ (if b then one else other)) same (same_bytes text other is')
    by false false is is' e = absurd (cc)

pub value_sound : (k : Kind) (text : List ℕ) (x : Value k) → value_of k text ≡ Some x → IsWritten (part k x) text
value_sound OfName text x e = name_sound text x e
value_sound OfWord text x e = cc
value_sound OfEntry text x e = entry_sound text x e
value_sound OfPid text x e = pid_sound text x e
value_sound OfSerial text x e = serial_sound text x e
value_sound (OneOf one other) text x e = choice_sound one other text x e

choice_complete : (one other text : List ℕ) (x : Bool) → bytes_eq other one ≡ false → text ≡ (if x then one else other) → value_of (OneOf one other) text ≡ Some x
choice_complete one other text true apart e = subst (λ t. value_of (OneOf one other) t ≡ Some true) (sym e) (rw (bytes_same one) refl)
choice_complete one other text false apart e = subst (λ t. value_of (OneOf one other) t ≡ Some false) (sym e) (rw (apart, bytes_same other) refl)

name_complete : (name : List ℕ) → is_name name ≡ true → (if is_name name then Some name else None) ≡ Some name
name_complete name is = rw is refl

pub value_complete : (k : Kind) (x : Value k) (text : List ℕ) → IsApart k → IsWritten (part k x) text → value_of k text ≡ Some x
value_complete OfName x text apart h = subst (λ t. value_of OfName t ≡ Some x) (sym h.1) (name_complete x h.0)
value_complete OfWord x text apart h = ap (λ t. Some t) h
value_complete OfEntry x text apart h = subst (λ t. entry_of t ≡ Some x) (sym h.1) (entry_complete x h.0)
value_complete OfPid x text apart h = subst (λ t. pid_of t ≡ Some x) (sym h.1) (pid_again x h.0.0 h.0.1)
value_complete OfSerial x text apart h = subst (λ t. short_pid_of t ≡ Some x) (sym h.1) (short_pid_again x h.0)
value_complete (OneOf one other) x text apart h = choice_complete one other text x apart h
