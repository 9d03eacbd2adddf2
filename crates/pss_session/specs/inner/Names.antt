-- Numbers by name.
use Rattle.std.specs.Prelude.{ℕ, ◌≡◌, List, Option, cond}
use Rattle.std.specs.Str.{bytes_eq}
use Rattle.std.specs.Map.{lookup}
use Rattle.std.specs.declared.vec.Vec.{Vec}
use Rattle.pss_base.specs.declared.session.SessionNo.{SessionNo}

module _ {Z : Type 0} where
  -- the number behind a name
  abbrev pub number_at : List (Vec ℕ Z × SessionNo) → List ℕ → Option SessionNo
  number_at es name = lookup (λ k. bytes_eq name k.items) es

  -- the number behind this name is another one, and all others stay
  abbrev pub Turns : List (Vec ℕ Z × SessionNo) → List (Vec ℕ Z × SessionNo) → List ℕ → Option SessionNo → Type 0
  Turns old new name number = (q : List ℕ) → number_at new q ≡ cond (bytes_eq q name) number (number_at old q)
