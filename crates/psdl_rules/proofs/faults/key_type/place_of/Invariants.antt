use Rattle.std.proofs.Common.{◌≡◌, drop}
use Rattle.std.specs.List.{position_from}
use Rattle.psdl_members.specs.Bodies.{member_views}
use Rattle.psdl_rules.specs.Words.{is_called}
use Rattle.psdl_rules.proofs.faults.key_type.place_of.Given as goal

abbrev pub invariant-loop-place : goal.invariant-loop-place
invariant-loop-place l = position_from (is_called l.identifier) l.place (member_views (drop l.place l.members)) ≡ position_from (is_called l.identifier) 0 (member_views l.members)
