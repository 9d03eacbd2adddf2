-- Types by their parts, where these are there.
use Rattle.std.specs.Prelude.{ℕ, List, [], ◌∷◌, Option, Some, None}
use Rattle.std.specs.Option.{option_map, option_and_then}
use Rattle.psdl_tree.specs.Trees.{Name, Expression, Declarator}
use Rattle.type_layout.specs.Schemas.{given}
use Rattle.type_layout.specs.Types.{PlainType, Seq, Arr, PlainField}
use Rattle.psdl_standings.specs.Standings.{Standing, size_by, arrays_by}

-- a bound, 0 where there is to be none
abbrev pub bound_by : (Name → Standing) → Option Expression → Option ℕ
bound_by names bound = given bound (Some 0) (size_by names)

-- a sequence, where its items' type and its bound are there
abbrev pub sequence_of : Option PlainType → Option ℕ → Option PlainType
sequence_of item bound = given item None (λ t. option_map (Seq t) bound)

-- an array, where its items' type and their number are there
abbrev pub array_of : Option PlainType → Option ℕ → Option PlainType
array_of item count = given item None (λ t. option_map (Arr t) count)

-- an array for each of these, the first one outermost
abbrev pub arrays_of : List (Option ℕ) → Option PlainType → Option PlainType
arrays_of [] item = item
arrays_of (n ∷ ns) item = array_of (arrays_of ns item) n

-- the field of a declarator, by the type in front of the declarators
abbrev pub declared_field : (Name → Standing) → Option PlainType → Declarator → Option PlainField
declared_field names type d = option_map (λ t. record { name = d.name.name; type = t }) (option_and_then (arrays_by names d.dimensions) type)
