-- Tables of names.
use Rattle.std.specs.Prelude.{ℕ, ◌+◌, ◌≡◌, List, Option, Some, None, cond, take}
use Rattle.std.specs.Option.{option_or}
use Rattle.std.specs.Str.{bytes_eq}
use Rattle.std.specs.Map.{lookup}
use Rattle.std.specs.declared.vec.Vec.{Vec}

module _ {Z T : Type 0} where
  -- what stands behind a name
  abbrev pub value_at : List (Vec ℕ Z × T) → List ℕ → Option T
  value_at es name = lookup (λ k. bytes_eq name k.items) es

  -- a thing stands behind this name, unless another one did; all others stay
  abbrev pub IsEntered : List (Vec ℕ Z × T) → List (Vec ℕ Z × T) → List ℕ → T → Type 0
  IsEntered old new name value = (q : List ℕ) → value_at new q ≡ option_or (value_at old q) (cond (bytes_eq q name) (Some value) None)

  -- the table has what is found of each word
  abbrev pub Finds : List (Vec ℕ Z × T) → (List ℕ → Option T) → Type 0
  Finds es found = (q : List ℕ) → value_at es q ≡ found q

  -- a name that is none of the first so many is not the next one either
  abbrev pub IsFurther : List (Vec ℕ Z × T) → List ℕ → ℕ → Type 0
  IsFurther es name n = value_at (take n es) name ≡ None → value_at (take (n + 1) es) name ≡ None
