-- Entries by owner, as entries by number.
use Rattle.std.specs.Prelude.{ℕ, List, map}
use Rattle.pss_base.specs.declared.owner.OwnerNo.{OwnerNo}

abbrev pub numbered : {A : Type 0} → List (OwnerNo × A) → List (ℕ × A)
numbered es = map (λ e. (e.0.0, e.1)) es
