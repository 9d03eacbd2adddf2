-- Tables by hash, as functions from keys.
use Rattle.std.specs.Prelude.{ℕ, ◌≡◌, List, Option, Bool, false, slice_get}
use Rattle.std.specs.Option.{option_map}
use Rattle.std.specs.Map.{lookup}

module _ {K V : Type 0} (eq : K → K → Bool) where
  -- the value of a key
  abbrev pub entry_at : List (K × V) → K → Option V
  entry_at es key = lookup (eq key) es

  -- the value of this key is another one, and all others stay
  pub record Turns (old new : List (K × V)) (key : K) (value : Option V) : Type 0 where
    pub here : entry_at new key ≡ value
    pub others : (q : K) → eq q key ≡ false → entry_at new q ≡ entry_at old q

-- the key at a place of the table
abbrev pub key_at : {K V : Type 0} → ℕ → List (K × V) → Option K
key_at at es = option_map (λ e. e.0) (slice_get es at)
