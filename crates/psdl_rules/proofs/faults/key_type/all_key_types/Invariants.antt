use Rattle.std.proofs.Common.{◌≡◌, take}
use Rattle.std.specs.List.{flat_map}
use Rattle.psdl_directory.specs.Noting.{noting}
use Rattle.psdl_members.specs.Bodies.{member_views}
use Rattle.psdl_members.specs.Listings.{identifiers_of_each}
use Rattle.psdl_standings.specs.Standings.{standings}
use Rattle.psdl_standings.specs.Texts.{text_of}
use Rattle.psdl_rules.specs.Faults.KeyType.{keyed_wrong}
use Rattle.psdl_rules.proofs.faults.key_type.all_key_types.Given as goal

abbrev pub invariant-loop-key : goal.invariant-loop-key
invariant-loop-key l =
    l.least ≡ noting l.initial.least (flat_map (flat_map (keyed_wrong (text_of l.standings) (standings (text_of l.standings)) (member_views l.members.members.items))) (identifiers_of_each (take l.key-index l.keys)))
