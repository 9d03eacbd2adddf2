use Rattle.std.proofs.Common.{◌≡◌, take}
use Rattle.std.specs.List.{flat_map}
use Rattle.psdl_directory.specs.Noting.{noting}
use Rattle.psdl_members.specs.Bodies.{member_views}
use Rattle.psdl_standings.specs.Standings.{standings}
use Rattle.psdl_standings.specs.Texts.{text_of}
use Rattle.psdl_rules.specs.Faults.KeyType.{keyed_wrong}
use Rattle.psdl_rules.proofs.faults.key_type.keyed_wrong.Given as goal

abbrev pub invariant-loop-identifier : goal.invariant-loop-identifier
invariant-loop-identifier l =
    l.least ≡ noting l.initial.least (flat_map (keyed_wrong (text_of l.standings) (standings (text_of l.standings)) (member_views l.members)) (take l.identifier-index l.identifiers))
