-- Names at a place of the text.
use Rattle.std.specs.Prelude.{ℕ, ℤ, List, [], ◌∷◌, Option, None, Bool, true, false, not, is_some, ◌==◌}
use Rattle.std.proofs.Common.{get_or}
use Rattle.psdl_tree.specs.Trees.{Name}
use Rattle.type_layout.specs.Schemas.{given}
use Rattle.psdl_directory.specs.declared.fault.CheckFault.{CheckFault}
use Rattle.psdl_directory.specs.declared.fault.CheckKind.{CheckKind}
use Rattle.psdl_directory.specs.declared.fault.CheckKind.TheVariants.{Unknown, WrongCase, WrongKind, Cycle}
use Rattle.psdl_directory.specs.declared.uses.Use.{Use as UseNode}
use Rattle.psdl_directory.specs.Declarations.{Path, Declaration}
use Rattle.psdl_directory.specs.Directories.{all_of}
use Rattle.psdl_directory.specs.Fault.{fault, fault_if}
use Rattle.psdl_directory.specs.Lookup.{as_is, lower, at, meaning, place_of}
use Rattle.psdl_standings.specs.declared.numbered_standing.NumberedStanding.{NumberedStanding}
use Rattle.psdl_standings.specs.declared.numbered_standing.NumberedStanding.TheVariants.{Nothing}
use Rattle.psdl_standings.specs.declared.sight.Sight.{Sight}
use Rattle.psdl_standings.specs.Uses.{Use}
use Rattle.psdl_standings.specs.inner.Tellings.{value_told, is_number_told}

-- a scope, where the first so many declarations stand, with what is told of them
pub record Scene : Type 0 where
  pub all : List Declaration
  pub told : List NumberedStanding
  pub limit : ℕ
  pub path : Path
  pub own : Option ℕ

abbrev pub scene_of : Sight → Scene
scene_of s = record { all = all_of s.directory.now; told = s.told.now; limit = s.limit; path = (at (all_of s.directory.now) s.number).path; own = s.own }

abbrev pub meant_at : Scene → Name → Option ℕ
meant_at s name = meaning as_is s.all s.limit s.path name

-- where case is ignored it means something, or nothing
abbrev pub unknown_by : Bool → CheckKind
unknown_by true = WrongCase
unknown_by false = Unknown

abbrev pub means_alike : Scene → Name → Bool
means_alike s name = is_some (meaning lower s.all s.limit s.path name)

-- the value of the constant that a name stands for, by what it means
abbrev pub value_meant : List NumberedStanding → Option ℕ → Option ℤ
value_meant told meant = given meant None (λ n. value_told (get_or told n Nothing))

abbrev pub value_at : Scene → Name → Option ℤ
value_at s name = value_meant s.told (meant_at s name)

-- it stands for none
abbrev pub meant_faults : List NumberedStanding → UseNode → List CheckFault
meant_faults told u = given u.meant (fault (unknown_by u.wrong_case) u.place ∷ []) (λ n. fault_if (not (is_number_told (get_or told n Nothing))) WrongKind u.place)

-- it stands for none
abbrev pub value_faults : Scene → Name → List CheckFault
value_faults s name =
    given (meant_at s name) (fault (unknown_by (means_alike s name)) (place_of name) ∷ []) (λ n. fault_if (not (is_number_told (get_or s.told n Nothing))) WrongKind (place_of name))

-- ---- what names itself

-- what a name means is the struct in which it stands
abbrev pub is_own : Option ℕ → Option ℕ → Bool
is_own own meant = given own false (λ k. given meant false (λ j. j == k))

abbrev pub own_faults : Option ℕ → UseNode → List CheckFault
own_faults own u = fault_if (is_own own u.meant) Cycle u.place

abbrev pub value_owns : Scene → Name → List CheckFault
value_owns s name = fault_if (is_own s.own (meant_at s name)) Cycle (place_of name)

-- in the struct that is first declared by this declaration
abbrev pub of_own : List Declaration → Option ℕ → Path → Use → List CheckFault
of_own all own path u = fault_if (is_own own (meaning as_is all u.limit path u.name)) Cycle (place_of u.name)
