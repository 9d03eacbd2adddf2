-- Members with what is kept of their types.
use Rattle.std.specs.Prelude.{ℕ, List, [], ◌∷◌, map, Option, None, IsTrue, nat_lt, Bool}
use Rattle.std.specs.List.{list_all}
use Rattle.std.specs.Option.{option_map, option_and_then}
use Rattle.type_layout.specs.declared.home.HomeNo.{HomeNo}
use Rattle.type_layout.specs.Schemas.{given}
use Rattle.type_layout.specs.Types.{PlainType, RefTo, PlainMember}
use Rattle.psdl_directory.specs.Declarations.{Declaration}
use Rattle.psdl_lineage.specs.Descent.{StateMember, type_of_home}
use Rattle.psdl_rules.specs.Layouts.{layout}
use Rattle.psdl_standings.specs.Standings.{standings}
use Rattle.psdl_standings.specs.inner.TypeNodes.{type_at}
use Rattle.psdl_check.specs.declared.members.MemberType.{MemberType}
use Rattle.psdl_check.specs.declared.members.MemberType.TheVariants as kinds
use Rattle.psdl_check.specs.declared.members.TypedMember.{TypedMember}

-- the type of a member; `homes` lists the homes that a reference to a type may have
abbrev pub type_by : List PlainType → (ℕ → List HomeNo) → MemberType → PlainType
type_by types homes (kinds.Plain number) = type_at types number
type_by types homes (kinds.Reference definition) = RefTo (homes definition)

abbrev pub typed_view : List PlainType → (ℕ → List HomeNo) → TypedMember → PlainMember
typed_view types homes m = record { name = m.name.now.name; type = type_by types homes m.member_type; readonly = m.readonly }

abbrev pub typed_views : List PlainType → (ℕ → List HomeNo) → List TypedMember → List PlainMember
typed_views types homes ms = map (typed_view types homes) ms

abbrev pub typed_names : List TypedMember → List (List ℕ)
typed_names ms = map (λ m. m.name.now.name) ms

-- each has the number of one of the first so many types, or of one of the first so many declarations
abbrev pub is_there : ℕ → ℕ → MemberType → Bool
is_there types count (kinds.Plain number) = nat_lt number types
is_there types count (kinds.Reference definition) = nat_lt definition count

abbrev pub AreThere : ℕ → ℕ → List TypedMember → Type 0
AreThere types count ms = IsTrue (list_all (λ m. is_there types count m.member_type) ms)

-- a number is that of a type
abbrev pub IsTyped : ℕ → MemberType → Type 0
IsTyped types (kinds.Plain number) = IsTrue (nat_lt number types)
IsTyped types (kinds.Reference definition) = Unit {0}

abbrev pub AreTyped : ℕ → List TypedMember → Type 0
AreTyped types [] = Unit {0}
AreTyped types (m ∷ ms) = IsTyped types m.member_type × AreTyped types ms

-- the layout of the type of a home, none where it is not there
abbrev pub layout_of_home : List Declaration → (ℕ → List HomeNo) → ℕ → List PlainMember
layout_of_home all homes h = given (option_and_then (layout all (standings all) homes) (type_of_home all h)) [] (λ ms. ms)

-- a member with its type, where that is there
abbrev pub laid_out : StateMember → PlainType → PlainMember
laid_out m type = record { name = m.name.name; type = type; readonly = m.readonly }

abbrev pub laid : List StateMember → List (Option PlainType) → List (Option PlainMember)
laid [] types = []
laid (m ∷ ms) [] = None ∷ laid ms []
laid (m ∷ ms) (t ∷ ts) = option_map (laid_out m) t ∷ laid ms ts
