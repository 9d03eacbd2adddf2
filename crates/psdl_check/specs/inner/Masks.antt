-- Which homes have types that descend from the definitions of a group: a bit for each.
use Rattle.std.specs.Prelude.{◌≡◌, ◌==◌, ◌+◌, ◌*◌, ◌<◌, ℕ, List, [], Bool, false, Option, None, map, IfSome}
use Rattle.std.specs.Int.{bit_at}
use Rattle.std.proofs.Common.{get_or}
use Rattle.std.specs.Option.{option_map}
use Rattle.type_layout.specs.Schemas.{given}
use Rattle.psdl_directory.specs.Declarations.{Declaration}
use Rattle.psdl_lineage.specs.Descent.{conforms, concrete_homes, type_of_home}
use Rattle.psdl_check.specs.declared.heirs.Heirs.{Heirs}

unfoldable pub has_bit : ℕ → ℕ → Bool
has_bit mask k = bit_at mask k == 1

-- the mask of a home's type, none where it has no type
abbrev pub type_mask : List Declaration → List ℕ → ℕ → ℕ
type_mask all masks h = given (type_of_home all h) 0 (λ t. get_or masks t 0)

-- the type of a home descends from a definition
abbrev pub is_of_heir : List Declaration → ℕ → ℕ → Bool
is_of_heir all u h = given (type_of_home all h) false (λ t. conforms all t u)

-- bit by bit, in the order of the homes
abbrev pub IsGroup : List Declaration → ℕ → List ℕ → Type 0
IsGroup all group masks = (k : ℕ) → k < 64 → map (λ m. has_bit m k) masks ≡ map (is_of_heir all (group * 64 + k)) (concrete_homes all)

-- ---- those that are kept

abbrev pub group_at : Heirs → ℕ → Option (List ℕ)
group_at heirs group = option_map (λ v. v.items) (get_or heirs.groups.items group None)

abbrev pub masks_in : Heirs → ℕ → List ℕ
masks_in heirs group = given (group_at heirs group) [] (λ masks. masks)

abbrev pub AreGroups : List Declaration → Heirs → Type 0
AreGroups all heirs = (group : ℕ) → IfSome (group_at heirs group) (IsGroup all group)
