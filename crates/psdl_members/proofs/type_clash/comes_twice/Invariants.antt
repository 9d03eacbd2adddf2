use Rattle.std.proofs.Common.{◌≡◌, ◌++◌, ℕ, List, length, take}
use Rattle.psdl_members.specs.inner.Noted.{IsNoted}
use Rattle.psdl_members.proofs.type_clash.comes_twice.Given as goal

abbrev pub invariant-loop-number : goal.invariant-loop-number
invariant-loop-number l =
    record {
      sized : length l.marks ≡ length l.fn.marks;
      noted : (xs : List ℕ) → IsNoted l.fn.marks xs → IsNoted l.marks (xs ++ take l.number-index l.numbers);
    }
