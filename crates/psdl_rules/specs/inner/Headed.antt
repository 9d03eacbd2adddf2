-- Conditions on the names in headers, by what these mean.
use Rattle.std.specs.Prelude.{ℕ, ◌+◌, ◌<◌, length, List, [], ◌++◌, Option, None, is_some, is_none, Bool, false, not, ◌||◌, ◌==◌, nat_lt}
use Rattle.std.specs.List.{list_all, list_any}
use Rattle.std.specs.Option.{option_to_list, option_and_then, IfSome}
use Rattle.std.proofs.Common.{get_or}
use Rattle.type_layout.specs.Schemas.{given}
use Rattle.psdl_directory.specs.declared.fault.CheckFault.{CheckFault}
use Rattle.psdl_directory.specs.declared.fault.CheckKind.TheVariants.{Incomplete, Cycle, NotImplemented, HomeType, Provides}
use Rattle.psdl_directory.specs.declared.uses.Use.{Use}
use Rattle.psdl_directory.specs.Declarations.{What, Declaration}
use Rattle.psdl_directory.specs.Fault.{fault_if}
use Rattle.psdl_directory.specs.Headers.{Header}
use Rattle.psdl_directory.specs.Lookup.{at}
use Rattle.psdl_lineage.specs.Descent.{conforms, type_of_home, provider}
use Rattle.psdl_rules.specs.Faults.HomeType.{differs_from_base, is_other_kind}
use Rattle.psdl_rules.specs.inner.Pairs.{types_with}

-- of what has none
abbrev pub no_header : Header
no_header = record { bases = []; implemented = []; managed = None; provided = [] }

-- the names behind `:`, `implements` and `of`
abbrev pub above : Header → List Use
above h = h.bases ++ h.implemented ++ option_to_list h.managed

abbrev pub are_meant : List Use → Bool
are_meant uses = list_all (λ (u : Use). is_some u.meant) uses

-- what it means is not defined yet
abbrev pub is_forward_use : ℕ → Use → Bool
is_forward_use n u = given u.meant false (λ _. not (given u.defined false (λ k. nat_lt k (n + 1))))

abbrev pub forward_use : ℕ → Use → List CheckFault
forward_use n u = fault_if (is_forward_use n u) Incomplete u.place

abbrev pub are_one : Option ℕ → Option ℕ → Bool
are_one first second = given first false (λ j. given second false (λ k. j == k))

-- it means the declaration in whose header it stands
abbrev pub own_use : Option ℕ → Use → List CheckFault
own_use origin u = fault_if (are_one u.meant origin) Cycle u.place

-- the type of a home, where it has one, does not conform to that of the home that it means
abbrev pub differs_from_use : List Declaration → Option ℕ → Use → Bool
differs_from_use all home_type u = given (types_with all home_type u) false (λ p. not (conforms all p.own p.named))

abbrev pub implemented_use : List Declaration → Option ℕ → Use → List CheckFault
implemented_use all home_type u = fault_if (differs_from_use all home_type u) NotImplemented u.place

-- the type of a home does not go with that of its base
abbrev pub differs_as_base : List Declaration → What → Option ℕ → Use → Bool
differs_as_base all what home_type u = given (types_with all home_type u) false (λ p. differs_from_base all what p.own p.named)

-- what stands behind `of` is of another kind
abbrev pub is_other_use : List Declaration → What → Use → Bool
is_other_use all what u = given u.meant false (λ j. is_other_kind what (at all j).what)

abbrev pub managed_use : List Declaration → ℕ → What → List Use → Use → List CheckFault
managed_use all n what named u = fault_if (is_other_use all what u || list_any (differs_as_base all what (type_of_home all n)) named) HomeType u.place

-- no concrete home implements what it means
abbrev pub is_unprovided : List Declaration → Use → Bool
is_unprovided all u = given u.meant false (λ _. is_none (option_and_then (provider all) u.defined))

abbrev pub provided_use : List Declaration → Use → List CheckFault
provided_use all u = fault_if (is_unprovided all u) Provides u.place

-- what they mean is defined by the first so many declarations, where it is defined
abbrev pub AreThere : ℕ → List Use → Type 0
AreThere count uses = (i : ℕ) (d : Use) → i < length uses → IfSome (get_or uses i d).defined (λ k. k < count)
