-- The steps of a walk.
use Rattle.std.specs.Prelude.{◌≡◌, ◌<◌, ℕ, List, [], Bool, length, reverse, Option, None, is_some}
use Rattle.std.proofs.Common.{get_or}
use Rattle.psdl_lineage.specs.declared.walk.Step.{Step}
use Rattle.psdl_lineage.specs.declared.walk.Walk.{Walk}
use Rattle.psdl_lineage.specs.Descent.{has}
use Rattle.psdl_lineage.specs.Graph.{first_descendant}
use Rattle.psdl_lineage.specs.inner.Walking.{IsWalk}

-- the innermost first
abbrev pub steps_of : Walk → List Step
steps_of walk = reverse walk.way.items

-- one that is on no way
pub record IsIdle (graph : List (List ℕ)) (marks : List Bool) (walk : Walk) : Type 0 where
  pub off : walk.way.items ≡ []
  pub on : IsWalk graph marks [] walk.found.items

-- the first descendants so far, and what was found
pub record AreFirst (graph : List (List ℕ)) (roots found : List ℕ) (firsts : List (Option ℕ)) : Type 0 where
  pub sized : length firsts ≡ length graph
  pub reached : (n : ℕ) → has found n ≡ is_some (first_descendant graph roots n)
  pub each : (n : ℕ) → n < length graph → get_or firsts n None ≡ first_descendant graph roots n
