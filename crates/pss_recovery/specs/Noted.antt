-- The changes that bodies of a journal tell.
use Rattle.std.specs.Prelude.{ℕ, ◌≡◌, List, [], ◌∷◌, ◌++◌}
use Rattle.pss_base.specs.declared.put.Put.{Put}
use Rattle.pss_recovery.specs.Bodies.{Spells}
use Rattle.pss_recovery.specs.declared.body.Body.{Body}

-- these are the changes of some bodies, those of each behind those of the bodies before it
abbrev pub AreNoted : List (List ℕ) → List Put → Type 0
AreNoted [] puts = puts ≡ []
AreNoted (octets ∷ bodies) puts = (body : Body) × (rest : List Put) × Spells octets body × AreNoted bodies rest × (puts ≡ body.puts ++ rest)
