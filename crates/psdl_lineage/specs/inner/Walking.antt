-- A walk over a graph: the steps that it is on, and what it has found.
use Rattle.std.specs.Prelude.{◌≡◌, ℕ, ◌<◌, ◌+◌, ◌-◌, List, [], ◌∷◌, ◌++◌, length, map, filter, take, drop, Bool, true, false, not, ◌==◌, if◌then◌else◌}
use Rattle.std.specs.List.{flat_map}
use Rattle.std.proofs.Common.{get_or}
use Rattle.psdl_lineage.specs.declared.walk.Step.{Step}
use Rattle.psdl_lineage.specs.Descent.{without_repeats, has}
use Rattle.psdl_lineage.specs.Graph.{parents_in, lines_in}

abbrev pub one_if : Bool → ℕ
one_if b = if b then 1 else 0

-- how often a number comes
abbrev pub occurs : ℕ → List ℕ → ℕ
occurs n [] = 0
occurs n (x ∷ xs) = one_if (x == n) + occurs n xs

abbrev pub is_marked : List Bool → ℕ → Bool
is_marked marks n = get_or marks n false

-- how many are marked
abbrev pub count : List Bool → ℕ
count [] = 0
count (b ∷ bs) = one_if b + count bs

-- ---- what a walk gives: the steps are those from the innermost outwards

abbrev pub way_of : List Step → List ℕ
way_of steps = map (λ s. s.number) steps

-- the lines of these, where they are not on the way
abbrev pub upwards : List (List ℕ) → List ℕ → List ℕ → List ℕ
upwards graph way ps = flat_map (λ p. lines_in (length graph - length way) graph (p ∷ way) p) (filter (λ p. not (has way p)) ps)

-- what is still to come
abbrev pub ahead : List (List ℕ) → List Step → List ℕ
ahead graph [] = []
ahead graph (s ∷ steps) = upwards graph (way_of (s ∷ steps)) (drop s.next (parents_in graph s.number)) ++ s.number ∷ ahead graph steps

unfoldable pub outcome : List (List ℕ) → List Step → List ℕ → List ℕ
outcome graph steps found = without_repeats (λ a b. a == b) (found ++ ahead graph steps)

-- ---- what holds of a walk

abbrev pub AreMarked : List Bool → List ℕ → Type 0
AreMarked marks ns = (n : ℕ) → has ns n ≡ true → is_marked marks n ≡ true

abbrev pub AreTaken : List (List ℕ) → List Bool → List Step → Type 0
AreTaken graph marks [] = Unit {0}
AreTaken graph marks (s ∷ steps) = AreMarked marks (take s.next (parents_in graph s.number)) × AreTaken graph marks steps

pub record IsWalk (graph : List (List ℕ)) (marks : List Bool) (steps : List Step) (found : List ℕ) : Type 0 where
  pub sized : length marks ≡ length graph
  -- what is on the way or found is there once, and is what is marked
  pub marked : (n : ℕ) → occurs n (way_of steps) + occurs n found ≡ one_if (is_marked marks n)
  pub counted : length steps + length found ≡ count marks
  -- all that is named by what is found, or was taken at a step
  pub behind : (n : ℕ) → has found n ≡ true → AreMarked marks (parents_in graph n)
  pub taken : AreTaken graph marks steps

-- ---- what is left to do

abbrev pub work_at : List (List ℕ) → List Step → ℕ
work_at graph [] = 0
work_at graph (s ∷ steps) = (length (parents_in graph s.number) - s.next) + 1 + work_at graph steps

abbrev pub work_off : List (List ℕ) → List Bool → ℕ
work_off [] bs = 0
work_off (ps ∷ graph) [] = 0
work_off (ps ∷ graph) (b ∷ bs) = (if b then 0 else length ps + 1) + work_off graph bs

unfoldable pub work : List (List ℕ) → List Bool → List Step → ℕ
work graph marks steps = work_at graph steps + work_off graph marks

-- a walk that went on with the same outcome, and has less left to do
pub record Moved (graph : List (List ℕ)) (marks : List Bool) (steps : List Step) (found : List ℕ) (marks' : List Bool) (steps' : List Step) (found' : List ℕ) : Type 0 where
  pub on : IsWalk graph marks' steps' found'
  pub same : outcome graph steps' found' ≡ outcome graph steps found
  pub less : work graph marks' steps' < work graph marks steps
