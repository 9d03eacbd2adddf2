-- Places of a content.
use Rattle.std.specs.Prelude.{ℕ, ⊤}

-- every place
abbrev pub IsAnywhere : ℕ → Type 0
IsAnywhere i = ⊤
