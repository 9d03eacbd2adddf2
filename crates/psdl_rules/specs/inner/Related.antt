-- The families of concrete homes, and their types.
use Rattle.std.specs.Prelude.{◌≡◌, ℕ, List, map, take, Option, None, Bool, false, ◌==◌, ◌&&◌, if◌then◌else◌}
use Rattle.std.specs.List.{list_any, range_with_len, enumerate_from}
use Rattle.std.specs.Option.{option_map}
use Rattle.std.specs.Ordering.{nat_cmp, ordering_then}
use Rattle.std.specs.declared.cmp.Ordering.{Ordering}
use Rattle.std.specs.BTreeSet.{BTreeSet, contains}
use Rattle.type_layout.specs.Schemas.{given}
use Rattle.psdl_directory.specs.Declarations.{Declaration}
use Rattle.psdl_directory.specs.Parts.{is_concrete_home}
use Rattle.psdl_directory.specs.Lookup.{at}
use Rattle.psdl_lineage.specs.Descent.{type_of_home, family}
use Rattle.psdl_rules.specs.declared.faults.family_type.Membership.{Membership}
use Rattle.psdl_rules.specs.Faults.FamilyType.{shares_type}

-- the family and the type of a concrete home that has a type
abbrev pub membership : List Declaration → ℕ → Option Membership
membership all n = if is_concrete_home (at all n).what then option_map (λ t. record { family = family all n; home_type = t }) (type_of_home all n) else None

abbrev pub memberships_before : List Declaration → ℕ → List (Option Membership)
memberships_before all i = map (membership all) (range_with_len 0 i)

abbrev pub same_membership : Membership → Membership → Bool
same_membership a b = (a.family == b.family) && (a.home_type == b.home_type)

abbrev pub by_membership : Membership → Membership → Ordering
by_membership a b = ordering_then (nat_cmp a.family b.family) (nat_cmp a.home_type b.home_type)

-- a home has that family and that type
abbrev pub has_membership : Membership → Option Membership → Bool
has_membership q o = given o false (same_membership q)

-- a set has it
abbrev pub met : BTreeSet Membership → Membership → Bool
met set q = contains by_membership set q

-- it has those of the first so many declarations
abbrev pub AreMet : List Declaration → ℕ → BTreeSet Membership → Type 0
AreMet all i set = (q : Membership) → met set q ≡ list_any (has_membership q) (memberships_before all i)

-- a concrete home has one of its family and its type in front of it
abbrev pub has_earlier : List Declaration → ℕ → Bool
has_earlier all n = is_concrete_home (at all n).what && list_any (λ e. is_concrete_home e.1.what && shares_type all e.0 n) (enumerate_from 0 (take n all))
