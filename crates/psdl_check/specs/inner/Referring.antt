-- The homes that references may have.
use Rattle.std.specs.Prelude.{◌≡◌, ◌==◌, ℕ, List, Bool, false, true}
use Rattle.std.specs.List.{list_any}
use Rattle.type_layout.specs.declared.home.HomeNo.{HomeNo}
use Rattle.psdl_directory.specs.Declarations.{Declaration}
use Rattle.psdl_check.specs.Schemas.{referents}
use Rattle.psdl_check.specs.inner.Lists.{homes_in, is_held}
use Rattle.psdl_check.specs.declared.members.MemberType.{MemberType}
use Rattle.psdl_check.specs.declared.members.MemberType.TheVariants as kinds
use Rattle.psdl_check.specs.declared.members.TypedMember.{TypedMember}

-- ---- what members refer to

abbrev pub is_reference_to : ℕ → MemberType → Bool
is_reference_to n (kinds.Plain number) = false
is_reference_to n (kinds.Reference definition) = definition == n

-- a member refers to that definition
abbrev pub refer_to : List TypedMember → ℕ → Bool
refer_to ms n = list_any (λ m. is_reference_to n m.member_type) ms

-- ---- their homes

-- each list is that of all homes that a reference to its definition may have
abbrev pub AreTrue : List Declaration → List (ℕ × List HomeNo) → Type 0
AreTrue all lists = (n : ℕ) → is_held lists n ≡ true → homes_in lists n ≡ referents all n

-- where a member refers to a definition, the list is that of all homes that the reference may have
abbrev pub AreReferents : List Declaration → List TypedMember → List (ℕ × List HomeNo) → Type 0
AreReferents all ms lists = (n : ℕ) → refer_to ms n ≡ true → homes_in lists n ≡ referents all n
