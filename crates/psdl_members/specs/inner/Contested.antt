-- Names that come with more than one list.
use Rattle.std.specs.Prelude.{ℕ, List, Bool, true, false, not, ◌==◌}
use Rattle.std.proofs.Common.{get_or}
use Rattle.psdl_members.specs.declared.contested.Lists.{Lists}
use Rattle.psdl_members.specs.declared.contested.Lists.TheVariants.{Nothing, One, Several}
use Rattle.psdl_members.specs.declared.entry.Entry.{Entry}

-- the list is the only one, or there are several
abbrev pub covers : Lists → ℕ → Bool
covers Nothing list = false
covers (One first) list = first == list
covers (Several first) list = true

abbrev pub are_several : Lists → Bool
are_several Nothing = false
are_several (One first) = false
are_several (Several first) = true

abbrev pub is_covered : List Lists → Entry → Bool
is_covered lists e = covers (get_or lists e.name Nothing) e.list

abbrev pub is_contested : List Lists → Entry → Bool
is_contested lists e = are_several (get_or lists e.name Nothing)

abbrev pub is_first_of : Lists → ℕ → Bool
is_first_of Nothing list = false
is_first_of (One first) list = first == list
is_first_of (Several first) list = first == list

-- its list is not the first that came with its name
abbrev pub is_later : List Lists → Entry → Bool
is_later lists e = not (is_first_of (get_or lists e.name Nothing) e.list)
