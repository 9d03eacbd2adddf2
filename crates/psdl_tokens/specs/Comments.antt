-- Comments in the texts of schemas.
use Rattle.std.specs.Prelude.{ℕ, ◌+◌, List, [], ◌∷◌, ◌==◌, ◌&&◌, not, Some, None, if◌then◌else◌, option_map}
use Rattle.std.specs.declared.option.Option.{Option}
use Rattle.std.specs.List.{prefix_len}
use Rattle.std.specs.Str.{byte}
use Rattle.psdl_tokens.specs.Alphabet.{first}

-- how many bytes there are up to the first `*/` and with it
abbrev pub closing : List ℕ → Option ℕ
closing [] = None
closing (b ∷ bs) = if b == byte "*" && first bs == byte "/" then Some 2 else option_map (λ n. n + 1) (closing bs)

-- how many bytes there are up to the end of the line
abbrev pub line_len : List ℕ → ℕ
line_len rest = prefix_len (λ c. not (c == byte "\n")) rest
