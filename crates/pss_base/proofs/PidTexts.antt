-- The texts of pids are read as these pids, and what is read has no other text.
use Rattle.std.proofs.Common.{◌≡◌, ◌<◌, ℕ, ◌^◌, Bool, true, false, cond, Some, None, List, ◌++◌, length, take, drop, refl, sym, ◌∙◌, ap, arith, length-append, length-take, length-drop}
use Rattle.std.proofs.lemmas.Bool.{eq-eqb}
use Rattle.std.proofs.lemmas.List.{take_at, drop_at, take-append-drop}
use Rattle.std.proofs.lemmas.List.Folds.{list_all-append}
use Rattle.std.specs.Prelude.{IfSome, Option}
use Rattle.std.specs.List.{list_all}
use Rattle.std.specs.Str.Parse.{digits_value}
use Rattle.pss_base.specs.declared.pid.Pid.{Pid}
use Rattle.pss_base.specs.Hexadecimal.{is_hex_digit, hex_digits, hex_number}
use Rattle.pss_base.specs.PidText.{pid_text, pid_of, short_pid_text, short_pid_of}
use Rattle.pss_base.proofs.Digits.{are_digits_of, digits_again}

-- what was read of digits
pub number_read : (ds : List ℕ) (n : ℕ) → Some n ≡ hex_number ds → (list_all is_hex_digit ds ≡ true) × (n ≡ digits_value 16 ds)
number_read ds n read = by_test (list_all is_hex_digit ds) refl read
  where
    by_test : (t : Bool) → list_all is_hex_digit ds ≡ t → Some n ≡ cond t (Some (digits_value 16 ds)) None → (t ≡ true) × (n ≡ digits_value 16 ds)
    by_test true is e = (refl, cc)
    by_test false is e = absurd cc

pub short_pid_again : (serial : ℕ) → serial < 2 ^ 64 → short_pid_of (short_pid_text serial) ≡ Some serial
short_pid_again serial fits =
    let s = are_digits_of 16 serial in
    rw (eq-eqb (length (hex_digits 16 serial)) 16 s.size, s.all) (ap (λ n. Some n) (s.value fits))

pub pid_again : (pid : Pid) → pid.home < 2 ^ 32 → pid.serial < 2 ^ 64 → pid_of (pid_text pid) ≡ Some pid
pid_again pid home serial =
    let h = are_digits_of 8 pid.home in
    let s = are_digits_of 16 pid.serial in
    let size : length (pid_text pid) ≡ 24 = omega (arith, length-append (hex_digits 8 pid.home) (hex_digits 16 pid.serial), h.size, s.size) in
    let all : list_all is_hex_digit (pid_text pid) ≡ true = list_all-append is_hex_digit (hex_digits 8 pid.home) (hex_digits 16 pid.serial) ∙ (rw (h.all, s.all) refl) in
    let first : digits_value 16 (take 8 (pid_text pid)) ≡ pid.home = ap (digits_value 16) (take_at (hex_digits 8 pid.home) (hex_digits 16 pid.serial) 8 h.size) ∙ h.value home in
    let second : digits_value 16 (drop 8 (pid_text pid)) ≡ pid.serial = ap (digits_value 16) (drop_at (hex_digits 8 pid.home) (hex_digits 16 pid.serial) 8 h.size) ∙ s.value serial in
    rw (eq-eqb (length (pid_text pid)) 24 size, all, first, second) refl

-- the text of a short pid that was read
pub short_pid_read : (text : List ℕ) (read : Option ℕ) → length text ≡ 16 → read ≡ hex_number text → IfSome read (λ serial. text ≡ short_pid_text serial)
short_pid_read text None size e = tt
short_pid_read text (Some serial) size e =
    let s = number_read text serial e in
    sym (ap (hex_digits 16) s.1 ∙ digits_again text 16 size s.0)

-- the text of a pid whose parts were read
pub pid_text_of : (text front back : List ℕ) (home serial : ℕ) → front ≡ take 8 text → back ≡ drop 8 text → length text ≡ 24 → Some home ≡ hex_number front → Some serial ≡ hex_number back
    → text ≡ pid_text (record { home = home; serial = serial })
pid_text_of text front back home serial is_front is_back size first second =
    let h = number_read front home first in
    let s = number_read back serial second in
    let front_size : length front ≡ 8 = ap length is_front ∙ omega (arith, length-take 8 text) in
    let back_size : length back ≡ 16 = ap length is_back ∙ omega (arith, length-drop 8 text) in
    sym (take-append-drop 8 text) ∙ ap (λ l. l ++ drop 8 text) (sym is_front) ∙ ap (λ l. front ++ l) (sym is_back)
    ∙ ap (λ l. l ++ back) (sym (ap (hex_digits 8) h.1 ∙ digits_again front 8 front_size h.0))
    ∙ ap (λ l. hex_digits 8 home ++ l) (sym (ap (hex_digits 16) s.1 ∙ digits_again back 16 back_size s.0))
