-- What is written as one word: numbers, TRUE and FALSE, and references.
use Rattle.std.specs.Prelude.{ℕ, ℤ, pos, neg_ℤ, ◌≡◌, List, length, drop, codes, Option, Some, None, Bool, true, false, ◌&&◌, nat_lt, IsTrue, if◌then◌else◌}
use Rattle.std.specs.List.{list_all}
use Rattle.std.specs.Char.{is_digit}
use Rattle.std.specs.Str.Parse.{digits_value, starts_with_minus}
use Rattle.pss_base.specs.declared.pid.Pid.{Pid}
use Rattle.pss_base.specs.PidText.{pid_of}

-- the text behind a `-`, where one stands in front
abbrev pub digits_of : List ℕ → List ℕ
digits_of text = if starts_with_minus text then drop 1 text else text

-- one to 39 decimal digits
abbrev pub is_decimal : List ℕ → Bool
is_decimal digits = nat_lt 0 (length digits) && nat_lt (length digits) 40 && list_all (λ b. is_digit b 10) digits

-- the number that digits stand for, below 0 behind a `-`
abbrev pub number_of : List ℕ → ℤ
number_of text = if starts_with_minus text then neg_ℤ (pos (digits_value 10 (digits_of text))) else pos (digits_value 10 (digits_of text))

-- an optional `-` and one to 39 digits
abbrev pub IsNumber : ℤ → List ℕ → Type 0
IsNumber z text = IsTrue (is_decimal (digits_of text)) × (z ≡ number_of text)

abbrev pub truth_text : Bool → List ℕ
truth_text true = codes "TRUE"
truth_text false = codes "FALSE"

-- `nil`, or the identifier of an object
abbrev pub IsReference : Option Pid → List ℕ → Type 0
IsReference None text = text ≡ codes "nil"
IsReference (Some pid) text = pid_of text ≡ Some pid
