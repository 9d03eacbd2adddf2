-- The first declaration of a scope that takes the name of another thing.
use Rattle.std.specs.Prelude.{◌≡◌, ◌<◌, ℕ, List, length, Option, Some, None, is_none, Bool, not, ◌&&◌, ◌||◌, nat_lt, slice_set, if◌then◌else◌, true, false}
use Rattle.std.specs.List.{position_from}
use Rattle.std.specs.Str.{bytes_eq}
use Rattle.std.proofs.Common.{get_or}
use Rattle.type_layout.specs.Schemas.{given}
use Rattle.psdl_directory.specs.Declarations.{Declaration}
use Rattle.psdl_directory.specs.Parts.{is_module, is_forward, same_kind}
use Rattle.psdl_directory.specs.Lookup.{lower, at, first, is_named, definition}

-- both have one name and one kind
abbrev pub same_thing : Declaration → Declaration → Bool
same_thing d e = bytes_eq d.name e.name && same_kind d.what e.what

-- the first in its scope whose name is the same but for case
abbrev pub first_alike : List Declaration → ℕ → Option ℕ
first_alike all n = first lower all (at all n).path (at all n).name

-- the other has that name but for case, and is another thing
abbrev pub is_other : Declaration → Declaration → Bool
is_other d e = is_named lower d.path d.name e && not (same_thing d e)

-- of each declaration that is the first of its name: the first of some declarations that is another thing of that name
abbrev pub AreOthers : List Declaration → List Declaration → List (Option ℕ) → Type 0
AreOthers all some others = (f : ℕ) → f < length all → first_alike all f ≡ Some f → get_or others f None ≡ position_from (is_other (at all f)) 0 some

-- what is kept with one more declaration
abbrev pub noted : List Declaration → List (Option ℕ) → ℕ → List (Option ℕ)
noted all others n = given (first_alike all n) others (λ f. if is_none (get_or others f None) && not (same_thing (at all f) (at all n)) then slice_set others f (Some n) else others)

abbrev pub is_below : Option ℕ → ℕ → Bool
is_below o n = given o false (λ i. nat_lt i n)

-- by the first of the name, the first other thing of it, and the definition
abbrev pub is_taken : List Declaration → ℕ → Option ℕ → ℕ → Bool
is_taken all f other n =
    if not (same_thing (at all f) (at all n)) || is_below other n then true
    else (if is_module (at all n).what || is_forward (at all n).what then false else is_below (definition all n) n)
