use Rattle.std.proofs.Common.{◌≡◌, map, take, Some}
use Rattle.psdl_directory.specs.Spelled.{Keeps}
use Rattle.psdl_members.specs.Bodies.{member_views}
use Rattle.psdl_members.specs.inner.Numbered.{small_number}
use Rattle.psdl_members.proofs.numbers.small_numbers.Given as goal

abbrev pub invariant-loop-member : goal.invariant-loop-member
invariant-loop-member l =
    record {
      numbers : map (λ n. Some n) l.numbers.items ≡ map (small_number l.spellings) (member_views (take l.member-index l.members));
      kept : Keeps l.fn.spellings l.spellings;
    }
