use Rattle.std.proofs.Common.{◌≡◌, take}
use Rattle.std.specs.List.{flat_map}
use Rattle.psdl_directory.specs.Directories.{all_of}
use Rattle.psdl_members.specs.Bodies.{member_views, own_members}
use Rattle.psdl_members.proofs.owners.members_of.Given as goal

abbrev pub invariant-loop-declaration : goal.invariant-loop-declaration
invariant-loop-declaration l = member_views l.members.items ≡ flat_map (own_members (all_of l.directory)) (take l.declaration-index l.declarations)
