-- C10: a factory names no member of its home's type, or names one twice.
use Rattle.std.specs.Prelude.{ℕ, List, []}
use Rattle.std.specs.List.{flat_map}
use Rattle.psdl_directory.specs.declared.fault.CheckFault.{CheckFault}
use Rattle.psdl_directory.specs.Declarations.{Declaration}
use Rattle.psdl_directory.specs.declared.fault.CheckKind.TheVariants.{FactoryMember}
use Rattle.psdl_directory.specs.Parts.{factories, factory_list}
use Rattle.psdl_rules.specs.Words.{listed_wrong, with_type}

abbrev pub factory_members : List Declaration → ℕ → Declaration → List CheckFault
factory_members all n d = with_type all n (λ ms. flat_map (λ f. listed_wrong FactoryMember ms [] (factory_list f)) (factories d.what))
