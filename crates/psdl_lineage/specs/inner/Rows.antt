-- The rows of a graph that a vector of vectors holds.
use Rattle.std.specs.Prelude.{ℕ, List, map}
use Rattle.std.specs.declared.vec.Vec.{Vec}

abbrev pub rows_of : {A : Type 0} → List (Vec ℕ A) → List (List ℕ)
rows_of rows = map (λ v. v.items) rows
