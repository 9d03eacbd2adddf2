-- Numbers that are no declaration's.
use Rattle.std.proofs.Common.{◌≡◌, ℕ, zero, suc, ◌<◌, ◌≤◌, List, [], ◌∷◌, ◌++◌, Bool, false, not, ◌==◌, length, filter, refl, sym, ap, ◌∙◌, arith, ⊎_elim}
use Rattle.std.specs.List.{flat_map}
use Rattle.std.proofs.lemmas.Bool.{cases_Bool}
use Rattle.std.proofs.lemmas.Grind.{common_steps}
use Rattle.std.proofs.lemmas.List.{get_or_past}
use Rattle.psdl_lineage.specs.Descent.{has}
use Rattle.psdl_lineage.specs.Graph.{lines_in, ancestry_in, conforms_in, IsGraph}
use Rattle.psdl_lineage.specs.Sources.{is_own, sources_in}
use Rattle.psdl_lineage.proofs.Kept.{ancestry_below}
use Rattle.psdl_lineage.proofs.Repeats.{once, or_false}

past_lines : (fuel : ℕ) (graph : List (List ℕ)) (way : List ℕ) (n : ℕ) → length graph ≤ n → lines_in fuel graph way n ≡ n ∷ []
past_lines zero graph way n past = refl
past_lines (suc fuel) graph way n past =
    ap (λ ps. once (flat_map (λ p. lines_in fuel graph (p ∷ way) p) (filter (λ p. not (has way p)) ps) ++ n ∷ [])) (get_or_past graph n [] past)

-- such a one descends from itself alone
pub past_alone : (graph : List (List ℕ)) (n : ℕ) → length graph ≤ n → ancestry_in graph n ≡ n ∷ []
unfolding ancestry_in
past_alone graph n past = past_lines (length graph) graph (n ∷ []) n past

pub from_past : (graph : List (List ℕ)) (n m : ℕ) → length graph ≤ n → (n == m) ≡ conforms_in graph n m
from_past graph n m past = sym (ap (λ l. has l m) (past_alone graph n past) ∙ or_false (n == m))

pub to_past : (graph : List (List ℕ)) (n m : ℕ) → IsGraph graph → n < length graph → length graph ≤ m → false ≡ conforms_in graph n m
to_past graph n m inside lt past =
    ⊎_elim (λ t. absurd (omega (arith, ancestry_below graph n m inside lt t, past))) (λ f. sym f) (cases_Bool (conforms_in graph n m))

pub source_past : (graph : List (List ℕ)) (own : List Bool) (n : ℕ) → length graph ≤ n → filter (is_own own) (n ∷ []) ≡ sources_in graph own n
source_past graph own n past = ap (λ l. filter (is_own own) l) (sym (past_alone graph n past))

pub ruleset by_past = (common_steps, from_past, to_past, source_past)
