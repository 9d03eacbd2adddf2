-- The objects of a view by serial, from those that were committed and those that were changed.
use Rattle.std.specs.Prelude.{ℕ, List, [], ◌∷◌, ◌++◌, Option, Some, None, Bool, nat_lt, ◌==◌, if◌then◌else◌}
use Rattle.std.specs.Option.{option_to_list}
use Rattle.pss_base.specs.declared.pid.Pid.{Pid}
use Rattle.pss_catalog.specs.Catalog.{Object, pid_of}
use Rattle.pss_catalog.specs.Changes.{Change}

abbrev pub is_before : ℕ → Pid → Bool
is_before s p = nat_lt p.serial s

-- those in front of a serial
abbrev pub before : ℕ → List Pid → List Pid
before s [] = []
before s (p ∷ ps) = if is_before s p then p ∷ before s ps else []

-- those from it on
abbrev pub onward : ℕ → List Pid → List Pid
onward s [] = []
onward s (p ∷ ps) = if is_before s p then onward s ps else p ∷ ps

-- those behind the serial, of those from it on
abbrev pub past : ℕ → List Pid → List Pid
past s [] = []
past s (p ∷ ps) = if p.serial == s then ps else p ∷ ps

-- the object of a serial, where it is there and passes a test
abbrev pub passing_at : (Object → Bool) → ℕ → Option Object → Option Pid
passing_at test s None = None
passing_at test s (Some object) = if test object then Some (pid_of (s, object)) else None

-- change by change: those in front of its serial, its own object where it passes, and those behind
abbrev pub merged : (Object → Bool) → List Change → List Pid → List Pid
merged test [] pids = pids
merged test (c ∷ cs) pids = before c.serial pids ++ (option_to_list (passing_at test c.serial c.state) ++ merged test cs (past c.serial (onward c.serial pids)))
