-- Graphs in which each declaration stands behind those that it names.
use Rattle.std.specs.Prelude.{◌≡◌, ◌<◌, ℕ, List, true}
use Rattle.psdl_lineage.specs.Descent.{has}
use Rattle.psdl_lineage.specs.Graph.{parents_in}

abbrev pub IsRising : List (List ℕ) → Type 0
IsRising graph = (n p : ℕ) → has (parents_in graph n) p ≡ true → p < n
