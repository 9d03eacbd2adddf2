-- The words that a command is written in, and the texts of each.
use Rattle.std.specs.Prelude.{ℕ, ◌≡◌, ◌<◌, ◌^◌, List, [], ◌∷◌, length, decimal, Bool, false, ◌&&◌, ◌||◌, ◌==◌, nat_le, IsTrue}
use Rattle.std.specs.List.{list_all}
use Rattle.std.specs.Char.{is_ascii_alphabetic, is_ascii_alphanumeric}
use Rattle.pss_base.specs.declared.pid.Pid.{Pid}
use Rattle.pss_base.specs.PidText.{pid_text, short_pid_text}

pub data Part : Type 0 where
  -- this word
  Fixed : (word : List ℕ) → Part
  -- the name of a session or a transaction
  Name : (name : List ℕ) → Part
  -- any word
  Free : (word : List ℕ) → Part
  -- the number of an entry
  Entry : (number : ℕ) → Part
  -- an object
  Object : (pid : Pid) → Part
  -- an object by its serial alone
  Serial : (serial : ℕ) → Part

-- a letter, a digit or `_`
abbrev pub is_name_byte : ℕ → Bool
is_name_byte b = is_ascii_alphanumeric b || b == 95

-- a letter, and behind it at most 31 letters, digits or `_`
abbrev pub is_name : List ℕ → Bool
is_name [] = false
is_name (b ∷ bs) = is_ascii_alphabetic b && (list_all is_name_byte bs && nat_le (length bs) 31)

-- the home has 32 bits and the serial 64
abbrev pub IsPid : Pid → Type 0
IsPid pid = (pid.home < 2 ^ 32) × (pid.serial < 2 ^ 64)

-- the text writes the part: an entry is `i` and a number of at most ten digits, an object 24 hexadecimal digits, and a serial 16
abbrev pub IsWritten : Part → List ℕ → Type 0
IsWritten (Fixed word) text = text ≡ word
IsWritten (Name name) text = IsTrue (is_name name) × (text ≡ name)
IsWritten (Free word) text = text ≡ word
IsWritten (Entry number) text = (number < 10 ^ 10) × (text ≡ 105 ∷ decimal number)
IsWritten (Object pid) text = IsPid pid × (text ≡ pid_text pid)
IsWritten (Serial serial) text = (serial < 2 ^ 64) × (text ≡ short_pid_text serial)
