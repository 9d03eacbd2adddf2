-- A walk from its beginning to its end.
use Rattle.std.proofs.Common.{◌≡◌, ℕ, zero, suc, ◌-◌, ◌<◌, List, [], ◌∷◌, ◌++◌, Bool, true, false, cond, not, ◌==◌, ◌||◌, length, drop, filter, reverse, refl, sym, ap, ◌∙◌, arith, ⊎_elim, append-nil}
use Rattle.std.specs.List.{flat_map}
use Rattle.std.proofs.Math.ListN.{set}
use Rattle.std.proofs.lemmas.Bool.{cases_Bool, or_left, or_right}
use Rattle.psdl_lineage.specs.declared.walk.Step.{Step}
use Rattle.psdl_lineage.specs.Descent.{has}
use Rattle.psdl_lineage.specs.Graph.{parents_in, lines_in, ancestry_in}
use Rattle.psdl_lineage.specs.inner.Walking.{is_marked, way_of, upwards, ahead, outcome, IsWalk}
use Rattle.psdl_lineage.proofs.Repeats.{once, Within, has-append, has_once, has_later, once_absorbs, once_skips, once_distinct}
use Rattle.psdl_lineage.proofs.Counting.{marked_within}
use Rattle.psdl_lineage.proofs.Upwards.{lines_within}
use Rattle.psdl_lineage.proofs.Going.{one_at_most, line_of, drop_none, closed, found_marked, marked_found, steps_on}

has_drop : (k : ℕ) (xs : List ℕ) (n : ℕ) → has (drop k xs) n ≡ true → has xs n ≡ true
has_drop zero xs n h = ap (λ l. has l n) (sym (drop_none xs)) ∙ h
has_drop (suc k) [] n h = h
has_drop (suc k) (x ∷ xs) n h = has_later x n xs (has_drop k xs n h)

-- ---- a walk begins and ends

begins_marked : (graph : List (List ℕ)) (marks : List Bool) (found : List ℕ) (p : ℕ) → IsWalk graph marks [] found → is_marked marks p ≡ true
    → outcome graph [] found ≡ once (found ++ ancestry_in graph p)
unfolding outcome ancestry_in
begins_marked graph marks found p w m =
    let line : List ℕ = lines_in (length graph) graph (p ∷ []) p in
    let within : Within line found =
    lines_within (length graph) graph (p ∷ []) found p (λ n q a b c. closed graph marks [] found w n q a b refl) (marked_found graph marks [] found w p m refl) in
    sym (once_skips found line [] within) ∙ ap (λ l. once (found ++ l)) (append-nil line)

begins_new : (graph : List (List ℕ)) (found : List ℕ) (p : ℕ) → p < length graph → outcome graph (record { number = p; next = 0 } ∷ []) found ≡ once (found ++ ancestry_in graph p)
unfolding outcome ancestry_in
begins_new graph found p lt =
    let line : List ℕ = lines_in (length graph) graph (p ∷ []) p in
    let fuel : length graph ≡ suc (length graph - length (p ∷ [])) = omega arith in
    line_of graph (p ∷ []) p (length graph) fuel found [] ∙ ap (λ l. once (found ++ l)) (append-nil line)

pub begins : (graph : List (List ℕ)) (marks : List Bool) (way : List Step) (found : List ℕ) (p : ℕ) → way ≡ [] → IsWalk graph marks [] found → p < length graph
    → (marks' : List Bool) (way' : List Step) (found' : List ℕ) → (b : Bool) → is_marked marks p ≡ b → marks' ≡ cond b marks (set marks p true)
    → way' ≡ cond b way (way ++ record { number = p; next = 0 } ∷ []) → found' ≡ found
    → IsWalk graph marks' (reverse way') found' × (outcome graph (reverse way') found' ≡ once (found ++ ancestry_in graph p))
begins graph marks way found p none w lt marks' way' found' true m em e ef =
    let ew : reverse way' ≡ [] = ap (λ l. reverse l) (e ∙ none) in
    rw (em, ew, ef) (w, begins_marked graph marks found p w m)
begins graph marks way found p none w lt marks' way' found' false m em e ef =
    let t : Step = record { number = p; next = 0 } in
    let ew : reverse way' ≡ t ∷ [] = ap (λ l. reverse l) (e ∙ ap (λ l. l ++ t ∷ []) none) in
    rw (em, ew, ef)
    (steps_on graph marks [] found p (omega (arith, w.sized)) m w.sized w.marked w.counted w.behind tt, begins_new graph found p lt)

pub ended : (graph : List (List ℕ)) (marks : List Bool) (found : List ℕ) → IsWalk graph marks [] found → outcome graph [] found ≡ found
unfolding outcome
ended graph marks found w =
    ap (λ l. once l) (append-nil found)
    ∙ once_distinct found (λ n. omega (arith, w.marked n, one_at_most (is_marked marks n)))

pub finished : (graph : List (List ℕ)) (marks : List Bool) (way : List Step) (found result : List ℕ) → length way ≡ 0 → IsWalk graph marks (reverse way) found
    → outcome graph (reverse way) found ≡ result → found ≡ result
finished graph marks [] found result none w e = sym (ended graph marks found w) ∙ e
finished graph marks (s ∷ way) found result none w e = absurd (omega arith)

lines_once : (fuel : ℕ) (graph : List (List ℕ)) (way : List ℕ) (n : ℕ) → once (lines_in fuel graph way n) ≡ lines_in fuel graph way n
lines_once zero graph way n = refl
lines_once (suc fuel) graph way n =
    let all : List ℕ = flat_map (λ p. lines_in fuel graph (p ∷ way) p) (filter (λ p. not (has way p)) (parents_in graph n)) ++ n ∷ [] in
    sym (ap (λ l. once l) (append-nil (once all))) ∙ once_absorbs [] all [] ∙ ap (λ l. once l) (append-nil all)

-- with nothing found before
pub alone : (graph : List (List ℕ)) (found : List ℕ) (p : ℕ) → found ≡ [] → once (found ++ ancestry_in graph p) ≡ ancestry_in graph p
unfolding ancestry_in
alone graph found p none = ap (λ l. once (l ++ ancestry_in graph p)) none ∙ lines_once (length graph) graph (p ∷ []) p

-- ---- whether a walk comes to a definition

way_ahead : (graph : List (List ℕ)) (steps : List Step) (n : ℕ) → has (way_of steps) n ≡ true → has (ahead graph steps) n ≡ true
way_ahead graph [] n h = absurd (cc)
way_ahead graph (s ∷ steps) n h =
    let up : List ℕ = upwards graph (way_of (s ∷ steps)) (drop s.next (parents_in graph s.number)) in
    let rest : has (s.number ∷ ahead graph steps) n ≡ true =
    ⊎_elim (λ t. ap (λ v. v || has (ahead graph steps) n) t)
    (λ f. has_later s.number n (ahead graph steps) (way_ahead graph steps n (sym (ap (λ v. v || has (way_of steps) n) f) ∙ h)))
    (cases_Bool (s.number == n)) in
    has-append up (s.number ∷ ahead graph steps) n ∙ or_right (has up n) (has (s.number ∷ ahead graph steps) n) rest

-- what is marked will be found
pub reached : (graph : List (List ℕ)) (marks : List Bool) (steps : List Step) (found result : List ℕ) (n : ℕ) → IsWalk graph marks steps found → outcome graph steps found ≡ result
    → is_marked marks n ≡ true → has result n ≡ true
unfolding outcome
reached graph marks steps found result n w e m =
    let both : (has found n || has (ahead graph steps) n) ≡ true =
    ⊎_elim (λ t. or_right (has found n) (has (ahead graph steps) n) (way_ahead graph steps n t))
    (λ off. or_left (has found n) (has (ahead graph steps) n) (marked_found graph marks steps found w n m off))
    (cases_Bool (has (way_of steps) n)) in
    sym (ap (λ l. has l n) e) ∙ has_once (found ++ ahead graph steps) n ∙ has-append found (ahead graph steps) n ∙ both

-- once it ended, what is marked was found
pub all_reached : (graph : List (List ℕ)) (marks : List Bool) (found : List ℕ) → IsWalk graph marks [] found → (n : ℕ) → is_marked marks n ≡ has found n
all_reached graph marks found w n =
    ⊎_elim (λ t. t ∙ sym (marked_found graph marks [] found w n t refl))
    (λ f. f ∙ sym (⊎_elim (λ t. absurd (cc (found_marked graph marks [] found w n t))) (λ g. g) (cases_Bool (has found n))))
    (cases_Bool (is_marked marks n))

pub all_found : (graph : List (List ℕ)) (marks : List Bool) (way : List Step) (found result : List ℕ) (n : ℕ) → length way ≡ 0 → IsWalk graph marks (reverse way) found
    → outcome graph (reverse way) found ≡ result → is_marked marks n ≡ has result n
all_found graph marks [] found result n none w e = all_reached graph marks found w n ∙ ap (λ l. has l n) (sym (ended graph marks found w) ∙ e)
all_found graph marks (s ∷ way) found result n none w e = absurd (omega arith)

pub found_once : (graph : List (List ℕ)) (marks : List Bool) (steps : List Step) (found : List ℕ) → IsWalk graph marks steps found → once found ≡ found
found_once graph marks steps found w = once_distinct found (λ n. omega (arith, w.marked n, one_at_most (is_marked marks n)))

pub found_below : (graph : List (List ℕ)) (marks : List Bool) (steps : List Step) (found : List ℕ) (k : ℕ) → IsWalk graph marks steps found → (n : ℕ) → has (drop k found) n ≡ true → n < length graph
found_below graph marks steps found k w n h = omega (arith, marked_within marks n (found_marked graph marks steps found w n (has_drop k found n h)), w.sized)
