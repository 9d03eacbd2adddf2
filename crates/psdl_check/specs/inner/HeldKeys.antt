-- The keys of a home, and which of them its base has too.
use Rattle.std.specs.Prelude.{◌≡◌, ◌<◌, ℕ, List, [], map, length, Bool, false, Option, Some}
use Rattle.std.specs.List.{flat_map, list_any}
use Rattle.std.proofs.Common.{get_or}
use Rattle.type_layout.specs.Schemas.{given}
use Rattle.psdl_directory.specs.Declarations.{Declaration}
use Rattle.psdl_lineage.specs.Descent.{Listed, same_listed, home_keys}
use Rattle.psdl_check.specs.Schemas.{Introduced}
use Rattle.psdl_check.specs.declared.home_keys.HeldKey.{HeldKey}
use Rattle.psdl_check.specs.declared.key_rows.KeyIds.{KeyIds}
use Rattle.psdl_check.specs.declared.key_rows.OwnKey.{OwnKey}
use Rattle.psdl_check.specs.declared.keys.Introducing.{Introducing}
use Rattle.psdl_check.specs.inner.KeyIds.{id_of, own_view, HaveIds}
use Rattle.psdl_check.specs.inner.KeysMade.{new_one}

-- marked are the numbers of these keys and no others
abbrev pub AreMarked : KeyIds → List Bool → List Listed → Type 0
AreMarked ids marks listed = (l : Listed) (n : ℕ) → id_of ids l ≡ Some n → n < length marks → get_or marks n false ≡ list_any (same_listed l) listed

-- a key with its mark
abbrev pub held_by : List Bool → OwnKey → HeldKey
held_by marks k = record { key = k; of_base = get_or marks k.id false }

abbrev pub held_view : HeldKey → Listed
held_view h = own_view h.key

abbrev pub held_views : List HeldKey → List Listed
held_views hs = map held_view hs

-- what the base has of these keys
abbrev pub base_has : List Declaration → Option ℕ → Listed → Bool
base_has all base l = list_any (same_listed l) (given base [] (home_keys all))

-- all keys of a home
pub record AreHeld (all : List Declaration) (ids : KeyIds) (home : ℕ) (base : Option ℕ) (held : List HeldKey) : Type 0 where
  pub views : held_views held ≡ home_keys all home
  pub numbered : HaveIds ids (map (λ h. h.key) held)
  pub of_base : map (λ h. h.of_base) held ≡ map (base_has all base) (held_views held)

-- what a home introduces of these keys
abbrev pub news : Introducing → List HeldKey → List Introduced
news home hs = flat_map (λ h. new_one h.of_base home (held_view h)) hs
