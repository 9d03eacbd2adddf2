-- What declarations have in their own bodies, as the program holds it.
use Rattle.std.specs.Prelude.{ℕ, List, map}
use Rattle.std.specs.List.{flat_map}
use Rattle.psdl_tree.specs.Views.{state_type_view}
use Rattle.psdl_directory.specs.Declarations.{Declaration}
use Rattle.psdl_directory.specs.Parts.{states}
use Rattle.psdl_directory.specs.Lookup.{at}
use Rattle.psdl_lineage.specs.Descent.{StateMember, members_in}
use Rattle.psdl_members.specs.declared.member.Member.{Member}

abbrev pub member_view : Member → StateMember
member_view m = record { home = m.declaration; name = m.name.now; state_type = state_type_view m.state_type.now; readonly = m.readonly }

abbrev pub member_views : List Member → List StateMember
member_views ms = map member_view ms

abbrev pub own_members : List Declaration → ℕ → List StateMember
own_members all n = flat_map (members_in n) (states (at all n).what)
