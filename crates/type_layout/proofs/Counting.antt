-- How many values there are.
use Rattle.std.proofs.Common.{◌≡◌, List, [], ◌∷◌, length, map, refl, arith}
use Rattle.type_layout.specs.declared.value.Value.{Value}
use Rattle.type_layout.specs.Types.{values_of}
use Rattle.type_layout.specs.Values.{count}
use Rattle.type_layout.specs.Views.{plain_value}

pub count_is : (vs : List Value) → count (values_of (map plain_value vs)) ≡ length vs
count_is [] = refl
count_is (v ∷ vs) = omega (arith, count_is vs)
