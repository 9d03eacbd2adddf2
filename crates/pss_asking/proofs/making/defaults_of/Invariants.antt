use Rattle.std.proofs.Common.{◌≡◌, map, take}
use Rattle.type_layout.specs.Members.{plain_member}
use Rattle.type_layout.specs.Views.{plain_values}
use Rattle.type_layout.specs.Defaults.{default_record}
use Rattle.pss_asking.proofs.making.defaults_of.Given as goal

abbrev pub invariant-loop-member : goal.invariant-loop-member
invariant-loop-member l = plain_values l.values ≡ default_record (map plain_member (take l.member-index l.members))
