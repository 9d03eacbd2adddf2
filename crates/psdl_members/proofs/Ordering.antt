-- How many declarations name ones in front of them alone.
use Rattle.std.proofs.Common.{◌≡◌, ◌∙◌, ℕ, ◌+◌, ◌<◌, ◌≤◌, List, [], ◌∷◌, true, ◌==◌, length, take, get_or, sym, ap, arith, ⊎_elim}
use Rattle.std.proofs.lemmas.Bool.{cases_eq, eqb-true, or_cases}
use Rattle.std.proofs.lemmas.List.{take_all}
use Rattle.std.proofs.lemmas.List.Folds.{list_any_more}
use Rattle.psdl_lineage.specs.Descent.{has}
use Rattle.psdl_lineage.specs.Graph.{parents_in}
use Rattle.psdl_members.specs.inner.Heirs.{IsInOrder}

pub none_yet : (ns : List ℕ) (p : ℕ) → has (take 0 ns) p ≡ true → ⊥
none_yet [] p h = cc
none_yet (n ∷ ns) p h = cc

-- these are lower
abbrev pub AreLower : List ℕ → ℕ → Type 0
AreLower ns number = (p : ℕ) → has ns p ≡ true → p < number

pub one_lower : (ns : List ℕ) (i number : ℕ) → i < length ns → get_or ns i 0 < number → AreLower (take i ns) number → AreLower (take (i + 1) ns) number
one_lower ns i number lt low so_far p h =
    ⊎_elim
    (λ before. so_far p before)
    (λ here. omega (arith, low, eqb-true (get_or ns i 0) p here))
    (or_cases (has (take i ns) p) (get_or ns i 0 == p) (sym (list_any_more (λ m. m == p) ns i 0 lt) ∙ h))

pub all_lower : (ns : List ℕ) (i number : ℕ) → length ns ≤ i → AreLower (take i ns) number → AreLower ns number
all_lower ns i number past lower p h = lower p (ap (λ (l : List ℕ). has l p) (take_all i ns past) ∙ h)

pub order_first : (graph : List (List ℕ)) → IsInOrder graph 0
order_first graph = record { within = omega arith; order = λ n p never. absurd (omega (arith, never)) }

pub order_more : (graph : List (List ℕ)) (i : ℕ) → i < length graph → IsInOrder graph i → AreLower (parents_in graph i) i → IsInOrder graph (i + 1)
order_more graph i lt so_far lower =
    record {
      within = omega (arith, lt);
      order = λ n p low h.
          ⊎_elim
          (λ same. let named : p < i = lower p (ap (λ (m : ℕ). has (parents_in graph m) p) (sym same) ∙ h) in omega (arith, named, same))
          (λ differ. so_far.order n p (omega (arith, low, differ)) h)
          (cases_eq n i);
    }

pub all_in_order : (graph : List (List ℕ)) (i count : ℕ) → length graph ≤ i → count ≡ length graph → IsInOrder graph i → IsInOrder graph count
all_in_order graph i count past e so_far = record { within = omega (arith, e); order = λ n p low h. so_far.order n p (omega (arith, low, e, past)) h }
