-- Look-up outwards.
use Rattle.std.proofs.Common.{◌≡◌, ℕ, [], ◌∷◌, Option, Some, None, ap, ◌∙◌}
use Rattle.std.specs.Option.{option_or}
use Rattle.psdl_directory.specs.Declarations.{Path}
use Rattle.psdl_directory.specs.Lookup.{outwards}
use Rattle.psdl_directory.specs.inner.Scopes.{outer}

pub found_here : (g : Path → Option ℕ) (p : Path) (x : ℕ) → g p ≡ Some x → outwards g p ≡ Some x
found_here g [] x e = e
found_here g (m ∷ p) x e = ap (λ o. option_or o (outwards g p)) e

pub ends_here : (g : Path → Option ℕ) (p : Path) → g p ≡ None → outer p ≡ None → outwards g p ≡ None
ends_here g [] e o = e
ends_here g (m ∷ p) e o = absurd (cc)

pub goes_on : (g : Path → Option ℕ) (p q : Path) → g p ≡ None → outer p ≡ Some q → outwards g p ≡ outwards g q
goes_on g [] q e o = absurd (cc)
goes_on g (m ∷ p) q e o =
    let same : p ≡ q = cc in
    ap (λ r. option_or r (outwards g p)) e ∙ ap (λ r. outwards g r) same

pub nowhere : (g : Path → Option ℕ) → ((p : Path) → g p ≡ None) → (p : Path) → outwards g p ≡ None
nowhere g none [] = none []
nowhere g none (m ∷ p) = ap (λ r. option_or r (outwards g p)) (none (m ∷ p)) ∙ nowhere g none p
