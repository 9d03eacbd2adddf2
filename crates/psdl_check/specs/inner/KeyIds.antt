-- Keys by number.
use Rattle.std.specs.Prelude.{◌≡◌, ℕ, List, ◌∷◌, map, Option, Some}
use Rattle.std.specs.Option.{option_and_then}
use Rattle.psdl_directory.specs.Spelled.{number_of}
use Rattle.psdl_lineage.specs.Descent.{Listed}
use Rattle.psdl_members.specs.Listings.{listed_view}
use Rattle.psdl_members.specs.inner.Entries.{all_there}
use Rattle.psdl_members.specs.inner.ListNumbered.{list_number}
use Rattle.psdl_check.specs.declared.key_rows.KeyIds.{KeyIds}
use Rattle.psdl_check.specs.declared.key_rows.OwnKey.{OwnKey}

-- the number of a name and list
abbrev pub id_of : KeyIds → Listed → Option ℕ
id_of k l = option_and_then (list_number k.lists) (all_there (map (number_of k.spellings) (l.name ∷ l.members)))

-- what was noted keeps its number
abbrev pub KeepsIds : KeyIds → KeyIds → Type 0
KeepsIds old new = (l : Listed) (n : ℕ) → id_of old l ≡ Some n → id_of new l ≡ Some n

abbrev pub own_view : OwnKey → Listed
own_view k = listed_view k.listed

abbrev pub own_views : List OwnKey → List Listed
own_views ks = map own_view ks

-- each has the number of its name and list
abbrev pub HaveIds : KeyIds → List OwnKey → Type 0
HaveIds ids ks = map (λ k. Some k.id) ks ≡ map (id_of ids) (own_views ks)
