-- Runs, line by line.
use Rattle.std.proofs.Common.{◌≡◌, refl, List, [], ◌∷◌, ◌++◌}
use Rattle.type_layout.specs.declared.schema.Schema.{Schema}
use Rattle.pss_machine.specs.declared.limits.Limits.{Limits}
use Rattle.pss_machine.specs.Run.{Said, Machine, turn, run}

pub run_append : (S : Schema) (limits : Limits) (q : Machine) (xs ys : List Said) → run S limits q (xs ++ ys) ≡ run S limits (run S limits q xs) ys
run_append S limits q [] ys = refl
run_append S limits q (x ∷ xs) ys = run_append S limits (turn S limits q x) xs ys
