-- What is kept of all owners.
use Rattle.std.specs.Prelude.{ℕ, ◌≡◌, ◌==◌, List, Option, Some, None, false, cond}
use Rattle.std.specs.Map.{lookup}
use Rattle.std.specs.FinMap.{empty}
use Rattle.pss_base.specs.declared.owner.OwnerNo.{OwnerNo}
use Rattle.type_layout.specs.declared.schema.Schema.{Schema}
use Rattle.pss_machine.specs.declared.level.Level.{Level}
use Rattle.owner_view.specs.declared.owned.Owned.{Owned}
use Rattle.owner_view.specs.Owned.{changed_by, IsCounted, IsUnder}

-- an owner of this level that has changed nothing
pub record IsNew (level : Level) (owned : Owned) : Type 0 where
  pub level_is : owned.level ≡ level
  pub changes : changed_by owned ≡ empty
  pub counted : IsCounted owned
  pub under : (S : Schema) → IsUnder S owned

-- it has the other's level
abbrev pub IsCleared : Owned → Owned → Type 0
IsCleared old new = IsNew old.level new

-- neither is there, or both are and this holds of them
abbrev pub Both : (Owned → Owned → Type 0) → Option Owned → Option Owned → Type 0
Both Holds None None = Unit {0}
Both Holds (Some old) (Some new) = Holds old new
Both Holds _ _ = ⊥

-- what is kept of the owner with a number
abbrev pub owned_at : ℕ → List (OwnerNo × Owned) → Option Owned
owned_at n es = lookup (λ t. n == t.0) es

-- the owner with this number is another one, or is gone, and all others stay
abbrev pub TurnsOwned : List (OwnerNo × Owned) → List (OwnerNo × Owned) → ℕ → Option Owned → Type 0
TurnsOwned old new n owned = (q : ℕ) → owned_at q new ≡ cond (n == q) owned (owned_at q old)

-- the owner with this number, where there is one, has become another, and all others stay
pub record TurnsBy (Turns : Owned → Owned → Type 0) (old new : List (OwnerNo × Owned)) (n : ℕ) : Type 0 where
  pub here : Both Turns (owned_at n old) (owned_at n new)
  pub others : (q : ℕ) → (n == q) ≡ false → owned_at q new ≡ owned_at q old
