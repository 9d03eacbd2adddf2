-- Lists of homes, each with the definition that it is of.
use Rattle.std.specs.Prelude.{ℕ, List, [], ◌∷◌, Bool, map, ◌==◌, if◌then◌else◌}
use Rattle.std.specs.List.{list_any}
use Rattle.type_layout.specs.declared.home.HomeNo.{HomeNo}
use Rattle.psdl_check.specs.declared.referents.HomesOf.{HomesOf}

abbrev pub lists_in : List HomesOf → List (ℕ × List HomeNo)
lists_in lists = map (λ l. (l.definition, l.homes.items)) lists

-- there is a list of a definition
abbrev pub is_held : List (ℕ × List HomeNo) → ℕ → Bool
is_held lists n = list_any (λ l. l.0 == n) lists

-- the homes in the list of a definition, none where it has no list
abbrev pub homes_in : List (ℕ × List HomeNo) → ℕ → List HomeNo
homes_in [] n = []
homes_in (l ∷ ls) n = if l.0 == n then l.1 else homes_in ls n
