-- C7: two members of a type, or two keys or factories of a home, have one name but for case.
use Rattle.std.specs.Prelude.{ℕ, List, not, ◌&&◌}
use Rattle.psdl_directory.specs.declared.fault.CheckFault.{CheckFault}
use Rattle.psdl_directory.specs.Declarations.{Declaration}
use Rattle.psdl_directory.specs.Fault.{fault_if}
use Rattle.psdl_directory.specs.Parts.{is_forward}
use Rattle.psdl_rules.specs.Words.{has_settled_header}
use Rattle.psdl_directory.specs.declared.fault.CheckKind.TheVariants.{MemberClash}
use Rattle.psdl_members.specs.Clashes.{has_clash}

abbrev pub member_clash : List Declaration → ℕ → Declaration → List CheckFault
member_clash all n d = fault_if (not (is_forward d.what) && has_settled_header all n && has_clash all n d.what) MemberClash d.place
