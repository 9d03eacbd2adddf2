-- Serials that were given, as a test.
use Rattle.std.specs.Prelude.{ℕ, ◌&&◌, nat_lt, Bool, true, List, [], ◌∷◌}
use Rattle.pss_base.specs.declared.pid.Pid.{Pid}

abbrev pub is_given : ℕ → ℕ → Bool
is_given next serial = nat_lt 0 serial && nat_lt serial next

-- each of the objects was made before the next serial
abbrev pub are_given : ℕ → List Pid → Bool
are_given next [] = true
are_given next (p ∷ ps) = is_given next p.serial && are_given next ps
