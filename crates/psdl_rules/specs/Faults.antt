-- All faults of a text. The conditions, each in a file of its own, and the table of their kinds, in the order of their numbers.
-- `Words` has what several of them share.
use Rattle.std.specs.Prelude.{ℕ, codes, List, ◌++◌}
use Rattle.std.specs.List.{flat_map}
use Rattle.psdl_directory.specs.declared.fault.CheckFault.{CheckFault}
use Rattle.psdl_directory.specs.declared.fault.CheckKind.{CheckKind}
use Rattle.psdl_directory.specs.declared.fault.CheckKind.TheVariants as kinds
use Rattle.psdl_directory.specs.Declarations.{Declaration}
use Rattle.psdl_directory.specs.Fault.{each}
use Rattle.psdl_standings.specs.Naming.{of_strings}
use Rattle.psdl_standings.specs.Standings.{Standing, standings}
use Rattle.psdl_standings.specs.Uses.{uses}
use Rattle.psdl_rules.specs.Words.{of_expressions}
use Rattle.psdl_rules.specs.Faults.Redefined.{redefined_faults}
use Rattle.psdl_rules.specs.Faults.Unknown.{unknown}
use Rattle.psdl_rules.specs.Faults.WrongCase.{wrong_case}
use Rattle.psdl_rules.specs.Faults.WrongKind.{wrong_kind}
use Rattle.psdl_rules.specs.Faults.Incomplete.{incomplete}
use Rattle.psdl_rules.specs.Faults.Cycle.{cycle_faults}
use Rattle.psdl_rules.specs.Faults.MemberClash.{member_clash}
use Rattle.psdl_rules.specs.Faults.KeyMember.{key_members}
use Rattle.psdl_rules.specs.Faults.KeyType.{key_types}
use Rattle.psdl_rules.specs.Faults.FactoryMember.{factory_members}
use Rattle.psdl_rules.specs.Faults.NotImplemented.{not_implemented}
use Rattle.psdl_rules.specs.Faults.HomeType.{home_type}
use Rattle.psdl_rules.specs.Faults.FamilyType.{family_type}
use Rattle.psdl_rules.specs.Faults.ConstRange.{out_of_range, too_long}
use Rattle.psdl_rules.specs.Faults.ConstZero.{by_zero}
use Rattle.psdl_rules.specs.Faults.Provides.{not_provided}
use Rattle.psdl_rules.specs.Faults.Limit.{limit_faults}
pub mod Redefined
pub mod Unknown
pub mod WrongCase
pub mod WrongKind
pub mod Incomplete
pub mod Cycle
pub mod MemberClash
pub mod KeyMember
pub mod KeyType
pub mod FactoryMember
pub mod NotImplemented
pub mod HomeType
pub mod FamilyType
pub mod ConstRange
pub mod ConstZero
pub mod Provides
pub mod Limit

-- the number of a kind, and its text; want of memory is none of them
abbrev pub row : CheckKind → ℕ × List ℕ
row kinds.Redefined = (1, codes "C1 Redefined")
row kinds.Unknown = (2, codes "C2 Unknown")
row kinds.WrongCase = (3, codes "C3 WrongCase")
row kinds.WrongKind = (4, codes "C4 WrongKind")
row kinds.Incomplete = (5, codes "C5 Incomplete")
row kinds.Cycle = (6, codes "C6 Cycle")
row kinds.MemberClash = (7, codes "C7 MemberClash")
row kinds.KeyMember = (8, codes "C8 KeyMember")
row kinds.KeyType = (9, codes "C9 KeyType")
row kinds.FactoryMember = (10, codes "C10 FactoryMember")
row kinds.NotImplemented = (11, codes "C11 NotImplemented")
row kinds.HomeType = (12, codes "C12 HomeType")
row kinds.FamilyType = (13, codes "C13 FamilyType")
row kinds.ConstRange = (14, codes "C14 ConstRange")
row kinds.ConstZero = (15, codes "C15 ConstZero")
row kinds.Provides = (16, codes "C16 Provides")
row kinds.Limit = (17, codes "C17 Limit")
row kinds.NoMemory = (18, codes "NoMemory")

abbrev pub number : CheckKind → ℕ
number kind = (row kind).0

abbrev pub text : CheckKind → List ℕ
text kind = (row kind).1

-- the names in bodies: C2, C3 and C4
abbrev pub wrong_names : List Declaration → List Standing → ℕ → Declaration → List CheckFault
wrong_names all done n d = flat_map (λ u. unknown all d.path u ++ wrong_case all d.path u ++ wrong_kind all done d.path u) (uses n d.what)

-- the values in bodies: C14 and C15
abbrev pub wrong_values : List Declaration → List Standing → ℕ → Declaration → List CheckFault
wrong_values all done n d = of_expressions (λ r e a. out_of_range r e a ++ by_zero a) too_long all done n d.path d.what

-- the members that keys and factories name: C8, C9 and C10
abbrev pub listed_wrong : List Declaration → List Standing → ℕ → Declaration → List CheckFault
listed_wrong all done n d = key_members all n d ++ key_types all done n d ++ factory_members all n d

-- C2, C3, C4, C14 and C15, in bodies
abbrev pub body_faults : List Declaration → List Standing → List CheckFault
body_faults all done = each (wrong_names all done) all ++ each (of_strings all done) all ++ each (wrong_values all done) all

-- C5, C6 and C17, on what is defined, and on its size
abbrev pub definition_faults : List Declaration → List Standing → List CheckFault
definition_faults all done = each (incomplete all) all ++ cycle_faults all ++ limit_faults all done

-- C7 to C10, on the members of types, and on keys and factories of homes
abbrev pub member_faults : List Declaration → List Standing → List CheckFault
member_faults all done = each (member_clash all) all ++ each (listed_wrong all done) all

-- C11, C12, C13 and C16, on homes, their bases and their types, and on what catalogs provide
abbrev pub home_faults : List Declaration → List CheckFault
home_faults all = each (not_implemented all) all ++ each (home_type all) all ++ each (family_type all) all ++ each (not_provided all) all

-- Which of two faults of one place and kind is given depends on this order alone, and no text has two such.
abbrev pub faults_by : List Declaration → List Standing → List CheckFault
faults_by all done = redefined_faults all ++ body_faults all done ++ definition_faults all done ++ member_faults all done ++ home_faults all

-- every condition at every declaration
unfoldable pub faults : List Declaration → List CheckFault
faults all = faults_by all (standings all)
