-- Lists of numbers, by number.
use Rattle.std.specs.Prelude.{ℕ, List, [], map}
use Rattle.std.proofs.Common.{get_or}
use Rattle.std.specs.declared.vec.Vec.{Vec}

-- those of a number
abbrev pub numbers_in : {Z : Type 0} → List (Vec ℕ Z) → ℕ → List ℕ
numbers_in lists n = get_or (map (λ v. v.items) lists) n []
