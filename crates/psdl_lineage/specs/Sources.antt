-- The declarations from which others have something by descent.
use Rattle.std.specs.Prelude.{ℕ, List, Bool, false, filter}
use Rattle.std.proofs.Common.{get_or}
use Rattle.psdl_lineage.specs.Graph.{ancestry_in}

-- which definitions each declaration names, and which have something of their own
pub record Inheritance : Type 0 where
  pub graph : List (List ℕ)
  pub own : List Bool

abbrev pub is_own : List Bool → ℕ → Bool
is_own own n = get_or own n false

-- those of what a definition descends from that have something of their own
abbrev pub sources_in : List (List ℕ) → List Bool → ℕ → List ℕ
sources_in graph own n = filter (is_own own) (ancestry_in graph n)
