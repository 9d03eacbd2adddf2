-- The lines of descent have each definition to which steps lead.
use Rattle.std.proofs.Common.{◌≡◌, ℕ, zero, suc, ◌+◌, ◌≤◌, ◌<◌, List, [], ◌∷◌, ◌++◌, Bool, true, false, cond, not, ◌==◌, ◌||◌, length, filter, refl, sym, ap, subst, ◌∙◌, arith, ⊎_elim, ◌⊎◌, inl, inr}
use Rattle.std.specs.List.{flat_map}
use Rattle.std.proofs.lemmas.Bool.{cases_Bool, eqb-true, eqb-false, or_left, or_right}
use Rattle.psdl_directory.specs.Declarations.{Declaration}
use Rattle.psdl_lineage.specs.Descent.{has}
use Rattle.psdl_lineage.specs.Graph.{parents_in, lines_in, ancestry_in, conforms_in, graph_of, IsGraph}
use Rattle.psdl_lineage.specs.Conformance.{ConformsTo, itself, by_parent, ConformingIsDescent}
use Rattle.psdl_lineage.proofs.Repeats.{has-append, has_once, has_here, has_later}
use Rattle.psdl_lineage.proofs.Texts.{parents_are, conforms_is, is_graph}

-- ---- numbers that are not on the way

abbrev left : ℕ → List ℕ → ℕ
left zero way = 0
left (suc k) way = cond (has way k) 0 1 + left k way

left_most : (k : ℕ) (way : List ℕ) → left k way ≤ k
left_most zero way = omega arith
left_most (suc k) way = omega (arith, one_at_most (has way k), left_most k way)
  where
    one_at_most : (b : Bool) → cond b 0 1 ≤ 1
    one_at_most true = omega arith
    one_at_most false = omega arith

left_fewer : (k p : ℕ) (way : List ℕ) → left k (p ∷ way) ≤ left k way
left_fewer zero p way = omega arith
left_fewer (suc k) p way = omega (arith, one_fewer (p == k) (has way k), left_fewer k p way)
  where
    one_fewer : (a b : Bool) → cond (a || b) 0 1 ≤ cond b 0 1
    one_fewer true true = omega arith
    one_fewer true false = omega arith
    one_fewer false b = omega arith

-- each step up has fewer left
left_less : (k p : ℕ) (way : List ℕ) → p < k → has way p ≡ false → left k (p ∷ way) < left k way
left_less zero p way lt off = absurd (omega (arith, lt))
left_less (suc k) p way lt off =
    ⊎_elim
    (λ t.
    let there : has way k ≡ false = ap (λ n. has way n) (sym (eqb-true p k t)) ∙ off in
    let now : left (suc k) (p ∷ way) ≡ 0 + left k (p ∷ way) = ap (λ v. cond (v || has way k) 0 1 + left k (p ∷ way)) t in
    let before : left (suc k) way ≡ 1 + left k way = ap (λ v. cond v 0 1 + left k way) there in
    omega (arith, now, before, left_fewer k p way))
    (λ f.
    let now : left (suc k) (p ∷ way) ≡ cond (has way k) 0 1 + left k (p ∷ way) = ap (λ v. cond (v || has way k) 0 1 + left k (p ∷ way)) f in
    let other : p ≡ k → ⊥ = eqb-false p k f in
    let below : p < k = omega (arith, lt, other) in
    omega (arith, now, left_less k p way below off))
    (cases_Bool (p == k))

-- ---- steps past a way

data Avoids (graph : List (List ℕ)) (way : List ℕ) : ℕ → ℕ → Type 0 where
  stay : (n : ℕ) → Avoids graph way n n
  go : (n p u : ℕ) → has (parents_in graph n) p ≡ true → has way p ≡ false → Avoids graph way p u → Avoids graph way n u

-- steps that come to a number may begin where they come to it last
last : (graph : List (List ℕ)) (way : List ℕ) (q n u : ℕ) → Avoids graph way q u → Avoids graph (n ∷ way) q u ⊎ Avoids graph (n ∷ way) n u
last graph way q n u (stay _) = inl (stay q)
last graph way q n u (go _ p _ named off rest) = elim (last graph way p n u rest) [
  | inl r ↦ ⊎_elim (λ t. inr (subst (λ m. Avoids graph (n ∷ way) m u) (sym (eqb-true n p t)) r))
      (λ f. inl (go q p u named (ap (λ v. v || has way p) f ∙ off) r))
      (cases_Bool (n == p))
  | inr r ↦ inr r
]

once_passed : (graph : List (List ℕ)) (way : List ℕ) (p u : ℕ) → Avoids graph way p u → Avoids graph (p ∷ way) p u
once_passed graph way p u rest = elim (last graph way p p u rest) [
  | inl r ↦ r
  | inr r ↦ r
]

-- ---- the lines have what steps lead to

among_lines : (f : ℕ → List ℕ) (way ps : List ℕ) (p u : ℕ) → has ps p ≡ true → has way p ≡ false → has (f p) u ≡ true → has (flat_map f (filter (λ q. not (has way q)) ps)) u ≡ true
among_lines f way [] p u named off there = absurd cc
among_lines f way (q ∷ ps) p u named off there =
    let others : List ℕ = flat_map f (filter (λ r. not (has way r)) ps) in
    let all : Bool → List ℕ = λ v. flat_map f (cond (not v) (q ∷ filter (λ r. not (has way r)) ps) (filter (λ r. not (has way r)) ps)) in
    ⊎_elim
    (λ t.
    let same : q ≡ p = eqb-true q p t in
    let here : has (f q) u ≡ true = ap (λ n. has (f n) u) same ∙ there in
    ap (λ v. has (all v) u) (ap (λ n. has way n) same ∙ off) ∙ has-append (f q) others u ∙ or_left (has (f q) u) (has others u) here)
    (λ f'.
    let rest : has others u ≡ true = among_lines f way ps p u (sym (ap (λ v. v || has ps p) f') ∙ named) off there in
    ⊎_elim (λ t. ap (λ v. has (all v) u) t ∙ rest)
    (λ new. ap (λ v. has (all v) u) new ∙ has-append (f q) others u ∙ or_right (has (f q) u) (has others u) rest)
    (cases_Bool (has way q)))
    (cases_Bool (q == p))

complete : (fuel : ℕ) (graph : List (List ℕ)) (way : List ℕ) (n u : ℕ) → IsGraph graph → left (length graph) way ≤ fuel → Avoids graph way n u → has (lines_in fuel graph way n) u ≡ true
complete zero graph way n u inside enough (stay _) = has_here n []
complete zero graph way n u inside enough (go _ p _ named off rest) = absurd (omega (arith, enough, left_less (length graph) p way (inside n p named) off))
complete (suc fuel) graph way n u inside enough (stay _) =
    let all : List ℕ = flat_map (λ p. lines_in fuel graph (p ∷ way) p) (filter (λ p. not (has way p)) (parents_in graph n)) in
    has_once (all ++ n ∷ []) n ∙ has-append all (n ∷ []) n ∙ or_right (has all n) (has (n ∷ []) n) (has_here n [])
complete (suc fuel) graph way n u inside enough (go _ p _ named off rest) =
    let f : ℕ → List ℕ = λ p. lines_in fuel graph (p ∷ way) p in
    let all : List ℕ = flat_map f (filter (λ p. not (has way p)) (parents_in graph n)) in
    let there : has (f p) u ≡ true = complete fuel graph (p ∷ way) p u inside (omega (arith, enough, left_less (length graph) p way (inside n p named) off)) (once_passed graph way p u rest) in
    has_once (all ++ n ∷ []) u ∙ has-append all (n ∷ []) u ∙ or_left (has all u) (has (n ∷ []) u) (among_lines f way (parents_in graph n) p u named off there)

-- ---- and no more

one_of : (f : ℕ → List ℕ) (way ps : List ℕ) (u : ℕ) → has (flat_map f (filter (λ q. not (has way q)) ps)) u ≡ true → (p : ℕ) × (has ps p ≡ true) × (has (f p) u ≡ true)
one_of f way [] u there = absurd cc
one_of f way (q ∷ ps) u there =
    let others : List ℕ = flat_map f (filter (λ r. not (has way r)) ps) in
    let all : Bool → List ℕ = λ v. flat_map f (cond (not v) (q ∷ filter (λ r. not (has way r)) ps) (filter (λ r. not (has way r)) ps)) in
    let later : has others u ≡ true → (p : ℕ) × (has (q ∷ ps) p ≡ true) × (has (f p) u ≡ true) =
    λ h. let found = one_of f way ps u h in (found.0, has_later q found.0 ps found.1, found.2) in
    ⊎_elim (λ t. later (sym (ap (λ v. has (all v) u) t) ∙ there))
    (λ new.
    let both : (has (f q) u || has others u) ≡ true = sym (has-append (f q) others u) ∙ sym (ap (λ v. has (all v) u) new) ∙ there in
    ⊎_elim (λ h. (q, has_here q ps, h)) (λ g. later (sym (ap (λ v. v || has others u) g) ∙ both)) (cases_Bool (has (f q) u)))
    (cases_Bool (has way q))

one_alone : (graph : List (List ℕ)) (n u : ℕ) → has (n ∷ []) u ≡ true → Avoids graph [] n u
one_alone graph n u h =
    ⊎_elim (λ t. subst (λ m. Avoids graph [] n m) (eqb-true n u t) (stay n)) (λ f. absurd (cc (ap (λ v. v || false) f))) (cases_Bool (n == u))

sound : (fuel : ℕ) (graph : List (List ℕ)) (way : List ℕ) (n u : ℕ) → has (lines_in fuel graph way n) u ≡ true → Avoids graph [] n u
sound zero graph way n u h = one_alone graph n u h
sound (suc fuel) graph way n u h =
    let f : ℕ → List ℕ = λ p. lines_in fuel graph (p ∷ way) p in
    let all : List ℕ = flat_map f (filter (λ p. not (has way p)) (parents_in graph n)) in
    let both : (has all u || has (n ∷ []) u) ≡ true = sym (has-append all (n ∷ []) u) ∙ sym (has_once (all ++ n ∷ []) u) ∙ h in
    ⊎_elim
    (λ t. let found = one_of f way (parents_in graph n) u t in go n found.0 u found.1 refl (sound fuel graph (found.0 ∷ way) found.0 u found.2))
    (λ g. one_alone graph n u (sym (ap (λ v. v || has (n ∷ []) u) g) ∙ both))
    (cases_Bool (has all u))

-- ---- over a text

to_steps : (all : List Declaration) (t u : ℕ) → ConformsTo all t u → Avoids (graph_of all) [] t u
to_steps all t u (itself _) = stay t
to_steps all t u (by_parent _ p _ named rest) = go t p u (ap (λ l. has l p) (parents_are all t) ∙ named) refl (to_steps all p u rest)

from_steps : (all : List Declaration) (t u : ℕ) → Avoids (graph_of all) [] t u → ConformsTo all t u
from_steps all t u (stay _) = itself t
from_steps all t u (go _ p _ named off rest) = by_parent t p u (sym (ap (λ l. has l p) (parents_are all t)) ∙ named) (from_steps all p u rest)

found_in : (graph : List (List ℕ)) (t u : ℕ) → IsGraph graph → Avoids graph [] t u → conforms_in graph t u ≡ true
unfolding ancestry_in
found_in graph t u inside steps = complete (length graph) graph (t ∷ []) t u inside (left_most (length graph) (t ∷ [])) (once_passed graph [] t u steps)

steps_in : (graph : List (List ℕ)) (t u : ℕ) → conforms_in graph t u ≡ true → Avoids graph [] t u
unfolding ancestry_in
steps_in graph t u h = sound (length graph) graph (t ∷ []) t u h

pub conforming_is_descent : ConformingIsDescent
conforming_is_descent all t u = (
  λ h. from_steps all t u (steps_in (graph_of all) t u (sym (conforms_is all t u) ∙ h)),
  λ c. conforms_is all t u ∙ found_in (graph_of all) t u (is_graph all) (to_steps all t u c),
)
