-- Sessions that are found by their names.
use Rattle.std.specs.Prelude.{ℕ, ◌≡◌, List, Some, IsSomeAnd}
use Rattle.pss_session.specs.declared.register.Found.{Found}
use Rattle.pss_session.specs.Meaning.{Meaning, session_at, number_named}

-- the session that has the name, and how it stands
pub record IsFound (m : Meaning) (name : List ℕ) (found : Found) : Type 0 where
  pub named : number_named m name ≡ Some found.number
  pub stands : IsSomeAnd (session_at m found.number) (λ x. (found.standing.kind ≡ x.kind) × (found.standing.access ≡ x.access) × (found.standing.association ≡ x.association))
