-- Where octets end.
use Rattle.std.specs.Prelude.{ℕ, ◌+◌, ◌-◌, ◌^◌, min}

-- the place behind so many octets, or 18,446,744,073,709,551,615 where it is not below it
abbrev pub place_behind : ℕ → ℕ → ℕ
place_behind at n = min (at + n) (2 ^ 64 - 1)
