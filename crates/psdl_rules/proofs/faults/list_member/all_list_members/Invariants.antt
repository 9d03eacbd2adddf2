use Rattle.std.proofs.Common.{◌≡◌, [], take}
use Rattle.std.specs.List.{flat_map}
use Rattle.psdl_directory.specs.Noting.{noting}
use Rattle.psdl_members.specs.Bodies.{member_views}
use Rattle.psdl_members.specs.Listings.{identifiers_of_each}
use Rattle.psdl_rules.specs.Words.{listed_wrong}
use Rattle.psdl_rules.proofs.faults.list_member.all_list_members.Given as goal

abbrev pub invariant-loop-listed : goal.invariant-loop-listed
invariant-loop-listed l = l.least ≡ noting l.initial.least (flat_map (listed_wrong l.kind (member_views l.members) []) (identifiers_of_each (take l.listed-index l.lists)))
