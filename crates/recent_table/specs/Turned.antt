-- Lists of entries as functions from keys.
use Rattle.std.specs.Prelude.{ℕ, ◌≡◌, List, Option, Some, Bool, true, if◌then◌else◌, slice_get}
use Rattle.std.specs.Prelude.{IsSomeAnd}
use Rattle.std.specs.Map.{lookup}

module _ {K V : Type 0} (eq : K → K → Bool) where
  -- the value of this key is this one, and all others stay
  abbrev pub IsTurned : List (K × V) → List (K × V) → K → Option V → Type 0
  IsTurned old new key value = (q : K) → lookup (eq q) new ≡ if eq key q then value else lookup (eq q) old

  -- this key stands at a place, with its value
  abbrev pub StandsAt : List (K × V) → ℕ → K → Type 0
  StandsAt es place key = IsSomeAnd (slice_get es place) (λ e. (eq key e.0 ≡ true) × (lookup (eq key) es ≡ Some e.1))
