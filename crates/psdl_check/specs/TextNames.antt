-- Texts whose identifiers are names.
use Rattle.std.specs.Prelude.{ℕ, List, [], map, Bool, ◌&&◌, IsTrue}
use Rattle.std.specs.List.{list_all}
use Rattle.type_layout.specs.Sound.{is_name}
use Rattle.psdl_directory.specs.Declarations.{What, IsEnumeration, Declaration, all_identifiers}

-- the enumerators that an enumeration lists
abbrev pub listed_enumerators : What → List (List ℕ)
listed_enumerators (IsEnumeration enumerators) = map (λ i. i.name) (all_identifiers enumerators)
listed_enumerators _ = []

-- the identifier of a declaration is a name, and so is each enumerator that it lists
abbrev pub has_names : Declaration → Bool
has_names d = is_name d.name && list_all is_name (listed_enumerators d.what)

abbrev pub AreNames : List Declaration → Type 0
AreNames all = IsTrue (list_all has_names all)
