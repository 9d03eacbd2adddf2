-- C8: a key names no member of its home's type, or names one twice.
use Rattle.std.specs.Prelude.{ℕ, List, []}
use Rattle.std.specs.List.{flat_map}
use Rattle.psdl_directory.specs.declared.fault.CheckFault.{CheckFault}
use Rattle.psdl_directory.specs.Declarations.{Declaration}
use Rattle.psdl_directory.specs.declared.fault.CheckKind.TheVariants.{KeyMember}
use Rattle.psdl_directory.specs.Parts.{keys, key_list}
use Rattle.psdl_rules.specs.Words.{listed_wrong, with_type}

abbrev pub key_members : List Declaration → ℕ → Declaration → List CheckFault
key_members all n d = with_type all n (λ ms. flat_map (λ k. listed_wrong KeyMember ms [] (key_list k)) (keys d.what))
