-- The types of the states in bodies, as the program keeps them.
use Rattle.std.specs.Prelude.{◌≡◌, ℕ, ◌+◌, List, [], length, map, Option, Bool, true, false, not, nat_lt, IsTrue}
use Rattle.std.specs.List.{flat_map, list_all, range_with_len}
use Rattle.std.specs.Option.{option_map}
use Rattle.psdl_tree.specs.Trees.{StateType, State}
use Rattle.type_layout.specs.declared.home.HomeNo.{HomeNo}
use Rattle.type_layout.specs.Keys.{may_be_keyed}
use Rattle.type_layout.specs.Schemas.{given}
use Rattle.type_layout.specs.Types.{PlainType, RefTo}
use Rattle.psdl_directory.specs.Declarations.{What, Declaration}
use Rattle.psdl_directory.specs.Lookup.{at, defined}
use Rattle.psdl_directory.specs.Parts.{states, state_names}
use Rattle.psdl_standings.specs.declared.state_entry.StateEntry.{StateEntry}
use Rattle.psdl_standings.specs.declared.state_entry.StateEntry.TheVariants as entries
use Rattle.psdl_standings.specs.Standings.{Standing, sight, standings}
use Rattle.psdl_standings.specs.StateTypes.{state_type_by}
use Rattle.psdl_standings.specs.inner.TypeTables.{entry_type}

-- of each of its identifiers
abbrev pub types_of_state : State → List StateType
types_of_state s = map (λ i. s.state_type) (state_names s)

-- of the identifiers of the states in a body, in order
abbrev pub state_types : What → List StateType
state_types what = flat_map types_of_state (states what)

-- the type of a state in the body of a declaration; `homes` lists the homes that a reference to a definition may have
abbrev pub body_type : List Declaration → List Standing → (ℕ → List HomeNo) → ℕ → StateType → Option PlainType
body_type all done homes n type = state_type_by (sight all done (n + 1) (at all n).path) (λ name. option_map homes (defined all n name)) type

-- of the states in the body of a declaration, in order
abbrev pub own_types : List Declaration → (ℕ → List HomeNo) → ℕ → List (Option PlainType)
own_types all homes n = map (body_type all (standings all) homes n) (state_types (at all n).what)

-- there are states in the body of a declaration
abbrev pub has_states : List Declaration → ℕ → Bool
has_states all n = nat_lt 0 (length (state_types (at all n).what))

-- of the first so many
abbrev pub flags : List Declaration → ℕ → List Bool
flags all count = map (has_states all) (range_with_len 0 count)

-- the type of a state by what is kept: the number of a type, or the definition that a reference is to
abbrev pub type_kept : List PlainType → (ℕ → List HomeNo) → StateEntry → Option PlainType
type_kept types homes (entries.Plain number) = entry_type types number
type_kept types homes (entries.Reference definition) = option_map RefTo (option_map homes definition)

-- of a declaration
abbrev pub AreStates : List Declaration → List PlainType → ℕ → List StateEntry → Type 0
AreStates all types n kept = (homes : ℕ → List HomeNo) → map (type_kept types homes) kept ≡ own_types all homes n

-- it is one of the first so many types, or of the first so many declarations
abbrev pub is_kept_below : ℕ → ℕ → StateEntry → Bool
is_kept_below types count (entries.Plain number) = given number true (λ n. nat_lt n types)
is_kept_below types count (entries.Reference definition) = given definition true (λ n. nat_lt n count)

abbrev pub AreKeptBelow : ℕ → ℕ → List StateEntry → Type 0
AreKeptBelow types count kept = IsTrue (list_all (is_kept_below types count) kept)

-- a struct, sequence, array or reference
abbrev pub is_compound_kept : List PlainType → StateEntry → Bool
is_compound_kept types kept = given (type_kept types (λ _. []) kept) false (λ t. not (may_be_keyed t))
