-- Types by number, where the number is there.
use Rattle.std.specs.Prelude.{ℕ, List, Option}
use Rattle.std.specs.Option.{option_map}
use Rattle.type_layout.specs.Types.{PlainType}
use Rattle.psdl_standings.specs.inner.TypeNodes.{type_at}

-- the type with a number that may be there
abbrev pub entry_type : List PlainType → Option ℕ → Option PlainType
entry_type types entry = option_map (type_at types) entry
