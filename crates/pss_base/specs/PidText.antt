-- The texts of pids and of short pids.
use Rattle.std.specs.Prelude.{ℕ, List, ◌++◌, length, take, drop, Option, Some, None, Bool, ◌&&◌, ◌==◌, if◌then◌else◌}
use Rattle.std.specs.List.{list_all}
use Rattle.std.specs.Str.Parse.{digits_value}
use Rattle.pss_base.specs.declared.pid.Pid.{Pid}
use Rattle.pss_base.specs.Hexadecimal.{is_hex_digit, hex_digits}

-- the home in 8 digits, and the serial in 16
abbrev pub pid_text : Pid → List ℕ
pid_text pid = hex_digits 8 pid.home ++ hex_digits 16 pid.serial

-- so many digits and nothing else
abbrev pub are_hex_digits : ℕ → List ℕ → Bool
are_hex_digits count text = length text == count && list_all is_hex_digit text

-- the pid that a text of 24 digits stands for
abbrev pub pid_of : List ℕ → Option Pid
pid_of text = if are_hex_digits 24 text then Some (record { home = digits_value 16 (take 8 text); serial = digits_value 16 (drop 8 text) }) else None

-- the serial in 16 digits
abbrev pub short_pid_text : ℕ → List ℕ
short_pid_text serial = hex_digits 16 serial

-- the serial that a text of 16 digits stands for
abbrev pub short_pid_of : List ℕ → Option ℕ
short_pid_of text = if are_hex_digits 16 text then Some (digits_value 16 text) else None
