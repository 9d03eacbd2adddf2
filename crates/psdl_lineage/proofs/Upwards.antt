-- The lines of what a definition names.
use Rattle.std.proofs.Common.{◌≡◌, ℕ, zero, suc, ◌-◌, List, [], ◌∷◌, ◌++◌, Bool, true, false, cond, not, ◌==◌, ◌||◌, length, filter, sym, ap, ◌∙◌, ⊎_elim}
use Rattle.std.specs.List.{flat_map}
use Rattle.std.proofs.lemmas.Bool.{eqb-true, cases_Bool, or_parts}
use Rattle.psdl_lineage.specs.Descent.{has}
use Rattle.psdl_lineage.specs.Graph.{parents_in, lines_in}
use Rattle.psdl_lineage.specs.inner.Walking.{upwards}
use Rattle.psdl_lineage.proofs.Repeats.{once, Within, has-append, has_once, has_here, has_later}

-- one that is on the way is passed over
pub passed_over : (graph : List (List ℕ)) (way : List ℕ) (p : ℕ) (ps : List ℕ) → has way p ≡ true → upwards graph way (p ∷ ps) ≡ upwards graph way ps
passed_over graph way p ps h =
    let f : ℕ → List ℕ = λ q. lines_in (length graph - length way) graph (q ∷ way) q in
    ap (λ v. flat_map f (cond (not v) (p ∷ filter (λ q. not (has way q)) ps) (filter (λ q. not (has way q)) ps))) h

pub taken_up : (graph : List (List ℕ)) (way : List ℕ) (p : ℕ) (ps : List ℕ) → has way p ≡ false
    → upwards graph way (p ∷ ps) ≡ lines_in (length graph - length way) graph (p ∷ way) p ++ upwards graph way ps
taken_up graph way p ps h =
    let f : ℕ → List ℕ = λ q. lines_in (length graph - length way) graph (q ∷ way) q in
    ap (λ v. flat_map f (cond (not v) (p ∷ filter (λ q. not (has way q)) ps) (filter (λ q. not (has way q)) ps))) h

pub lines_up : (graph : List (List ℕ)) (way : List ℕ) (n fuel : ℕ) → fuel ≡ suc (length graph - length way)
    → lines_in fuel graph way n ≡ once (upwards graph way (parents_in graph n) ++ n ∷ [])
lines_up graph way n fuel e = ap (λ k. lines_in k graph way n) e

-- ---- what was found with all that is behind it

within_append : (xs ys found : List ℕ) → Within xs found → Within ys found → Within (xs ++ ys) found
within_append xs ys found a b n h =
    ⊎_elim (λ t. a n t) (λ f. b n (ap (λ v. v || has ys n) (sym f) ∙ sym (has-append xs ys n) ∙ h)) (cases_Bool (has xs n))

within_one : (x : ℕ) (found : List ℕ) → has found x ≡ true → Within (x ∷ []) found
within_one x found there n h =
    ⊎_elim (λ t. ap (λ m. has found m) (sym (eqb-true x n t)) ∙ there) (λ f. absurd (cc (ap (λ v. v || false) f))) (cases_Bool (x == n))

within_all : (f : ℕ → List ℕ) (way ps found : List ℕ) → ((p : ℕ) → has ps p ≡ true → has way p ≡ false → Within (f p) found)
    → Within (flat_map f (filter (λ p. not (has way p)) ps)) found
within_all f way [] found each = λ n h. absurd (cc)
within_all f way (p ∷ ps) found each =
    let rest : Within (flat_map f (filter (λ q. not (has way q)) ps)) found = within_all f way ps found (λ q there off. each q (has_later p q ps there) off) in
    let all : Bool → List ℕ = λ v. flat_map f (cond (not v) (p ∷ filter (λ q. not (has way q)) ps) (filter (λ q. not (has way q)) ps)) in
    ⊎_elim
    (λ t. λ n h. rest n (ap (λ v. has (all v) n) (sym t) ∙ h))
    (λ off. λ n h. within_append (f p) (flat_map f (filter (λ q. not (has way q)) ps)) found (each p (has_here p ps) off) rest n (ap (λ v. has (all v) n) (sym off) ∙ h))
    (cases_Bool (has way p))

-- what is found holds all that it names, but what is on the way
abbrev pub IsClosed : List (List ℕ) → List ℕ → List ℕ → Type 0
IsClosed graph way found = (n p : ℕ) → has found n ≡ true → has (parents_in graph n) p ≡ true → has way p ≡ false → has found p ≡ true

pub lines_within : (fuel : ℕ) (graph : List (List ℕ)) (way found : List ℕ) (n : ℕ) → IsClosed graph way found → has found n ≡ true → Within (lines_in fuel graph way n) found
lines_within zero graph way found n closed there = within_one n found there
lines_within (suc fuel) graph way found n closed there =
    let f : ℕ → List ℕ = λ p. lines_in fuel graph (p ∷ way) p in
    let all : List ℕ = flat_map f (filter (λ p. not (has way p)) (parents_in graph n)) in
    let up : Within all found =
    within_all f way (parents_in graph n) found
    (λ p named off. lines_within fuel graph (p ∷ way) found p (λ m q a b c. closed m q a b (or_parts (p == q) (has way q) c).1) (closed n p there named off)) in
    λ m h. within_append all (n ∷ []) found up (within_one n found there) m (sym (has_once (all ++ n ∷ []) m) ∙ h)
