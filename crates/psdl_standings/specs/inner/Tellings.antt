-- What is told of declarations, and what it stands for.
use Rattle.std.specs.Prelude.{ℕ, ℤ, List, Option, Some, None, Bool, true, false, nat_lt, IsTrue}
use Rattle.std.specs.List.{list_all}
use Rattle.type_layout.specs.Types.{PlainType}
use Rattle.psdl_standings.specs.declared.numbered_standing.NumberedStanding.{NumberedStanding}
use Rattle.psdl_standings.specs.declared.numbered_standing.NumberedStanding.TheVariants as tellings
use Rattle.psdl_standings.specs.inner.TypeNodes.{type_at}
use Rattle.psdl_standings.specs.Standings.{Standing, Nothing, StandsForType, StandsForNumber}

abbrev pub stand : List PlainType → NumberedStanding → Standing
stand types tellings.Nothing = Nothing
stand types (tellings.OfType type) = StandsForType (type_at types type.index)
stand types (tellings.OfNumber type value) = StandsForNumber (type_at types type.index) value

abbrev pub value_told : NumberedStanding → Option ℤ
value_told (tellings.OfNumber type value) = value
value_told _ = None

abbrev pub is_number_told : NumberedStanding → Bool
is_number_told (tellings.OfNumber type value) = true
is_number_told _ = false

abbrev pub type_told : NumberedStanding → Option ℕ
type_told (tellings.OfType type) = Some type.index
type_told _ = None

-- its type is one of the first so many
abbrev pub is_there : ℕ → NumberedStanding → Bool
is_there count tellings.Nothing = true
is_there count (tellings.OfType type) = nat_lt type.index count
is_there count (tellings.OfNumber type value) = nat_lt type.index count

abbrev pub AreThere : ℕ → List NumberedStanding → Type 0
AreThere count told = IsTrue (list_all (is_there count) told)
