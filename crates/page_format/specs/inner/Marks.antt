-- Flags of slots.
use Rattle.std.specs.Prelude.{ℕ, Bool, List}
use Rattle.std.specs.List.{count_by}

-- how many are set
abbrev pub count_marked : List Bool → ℕ
count_marked flags = count_by (λ flag. flag) flags
