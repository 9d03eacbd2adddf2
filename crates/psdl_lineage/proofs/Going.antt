-- A walk goes on.
use Rattle.std.proofs.Common.{◌≡◌, ℕ, suc, ◌+◌, ◌-◌, ◌≤◌, ◌<◌, List, [], ◌∷◌, ◌++◌, Bool, true, false, cond, ◌==◌, ◌||◌, length, take, drop, reverse, get_or, Some, refl, sym, ap, ◌∙◌, arith, ⊎_elim, add-one, append_assoc, length-append, length-set}
use Rattle.std.specs.List.{slice_get}
use Rattle.std.proofs.Math.ListN.{set}
use Rattle.std.proofs.Math.Seq.{drop-cons, take-suc}
use Rattle.std.proofs.lemmas.List.{take_all, drop_all, reverse-append}
use Rattle.std.proofs.lemmas.Option.{slice_get_within, get_or_from_slice_get}
use Rattle.std.proofs.lemmas.Bool.{eqb-true, eq-eqb, cases_Bool, or_parts}
use Rattle.psdl_lineage.specs.declared.walk.Step.{Step}
use Rattle.psdl_lineage.specs.Descent.{has}
use Rattle.psdl_lineage.specs.Graph.{parents_in, lines_in}
use Rattle.psdl_lineage.specs.inner.Walking.{one_if, occurs, is_marked, count, way_of, upwards, ahead, outcome, AreMarked, AreTaken, IsWalk, work, Moved}
use Rattle.psdl_lineage.proofs.Repeats.{once, Within, has-append, once_absorbs, once_skips, occurs_none, occurs_some}
use Rattle.psdl_lineage.proofs.Counting.{occurs-append, marked_here, marked_other, marked_still, count_set, count_less, work_set}
use Rattle.psdl_lineage.proofs.Upwards.{passed_over, taken_up, lines_up, IsClosed, lines_within}

-- ---- what is marked is found or on the way

is_one : (b : Bool) (n : ℕ) → one_if b ≡ n → 1 ≤ n → b ≡ true
is_one true n e h = refl
is_one false n e h = absurd (omega arith)

is_none : (b : Bool) (n : ℕ) → n ≡ one_if b → b ≡ false → n ≡ 0
is_none true n e h = absurd (cc)
is_none false n e h = e

off_none : (b : Bool) (n : ℕ) (m : ℕ) → n + m ≡ one_if b → b ≡ true → n ≡ 0 → 1 ≤ m
off_none true n m e h z = omega arith
off_none false n m e h z = absurd (cc)

pub one_at_most : (b : Bool) → one_if b ≤ 1
one_at_most true = omega arith
one_at_most false = omega arith

has_from_occurs : (xs : List ℕ) (n : ℕ) → 1 ≤ occurs n xs → has xs n ≡ true
has_from_occurs xs n h = ⊎_elim (λ t. t) (λ f. absurd (omega (arith, occurs_none xs n f))) (cases_Bool (has xs n))

pub way_marked : (graph : List (List ℕ)) (marks : List Bool) (steps : List Step) (found : List ℕ) → IsWalk graph marks steps found → (n : ℕ) → has (way_of steps) n ≡ true → is_marked marks n ≡ true
way_marked graph marks steps found w n h = is_one (is_marked marks n) _ (sym (w.marked n)) (omega (arith, occurs_some (way_of steps) n h))

pub found_marked : (graph : List (List ℕ)) (marks : List Bool) (steps : List Step) (found : List ℕ) → IsWalk graph marks steps found → (n : ℕ) → has found n ≡ true → is_marked marks n ≡ true
found_marked graph marks steps found w n h = is_one (is_marked marks n) _ (sym (w.marked n)) (omega (arith, occurs_some found n h))

pub marked_found : (graph : List (List ℕ)) (marks : List Bool) (steps : List Step) (found : List ℕ) → IsWalk graph marks steps found → (n : ℕ) → is_marked marks n ≡ true → has (way_of steps) n ≡ false → has found n ≡ true
marked_found graph marks steps found w n m off =
    has_from_occurs found n (off_none (is_marked marks n) (occurs n (way_of steps)) (occurs n found) (w.marked n) m (occurs_none (way_of steps) n off))

pub off_way : (graph : List (List ℕ)) (marks : List Bool) (steps : List Step) (found : List ℕ) → IsWalk graph marks steps found → (n : ℕ) → is_marked marks n ≡ false → has (way_of steps) n ≡ false
off_way graph marks steps found w n m = ⊎_elim (λ t. absurd (cc (way_marked graph marks steps found w n t))) (λ f. f) (cases_Bool (has (way_of steps) n))

pub closed : (graph : List (List ℕ)) (marks : List Bool) (steps : List Step) (found : List ℕ) → IsWalk graph marks steps found → IsClosed graph (way_of steps) found
closed graph marks steps found w n p there named off = marked_found graph marks steps found w p (w.behind n there p named) off

pub drop_none : (xs : List ℕ) → drop 0 xs ≡ xs
drop_none [] = refl
drop_none (x ∷ xs) = refl

-- each of a list and one more
all_marked : (marks : List Bool) (xs : List ℕ) (p : ℕ) → AreMarked marks xs → is_marked marks p ≡ true → AreMarked marks (xs ++ p ∷ [])
all_marked marks xs p w here n h =
    ⊎_elim (λ t. w n t)
    (λ f.
    let there : has (p ∷ []) n ≡ true = ap (λ v. v || has (p ∷ []) n) (sym f) ∙ sym (has-append xs (p ∷ []) n) ∙ h in
    ⊎_elim (λ t. ap (λ m. is_marked marks m) (sym (eqb-true p n t)) ∙ here) (λ u. absurd (cc (ap (λ v. v || false) u))) (cases_Bool (p == n)))
    (cases_Bool (has xs n))

-- ---- a step is left

pub leaves : (graph : List (List ℕ)) (marks : List Bool) (s : Step) (steps : List Step) (found : List ℕ) → IsWalk graph marks (s ∷ steps) found
    → length (parents_in graph s.number) ≤ s.next → Moved graph marks (s ∷ steps) found marks steps (found ++ s.number ∷ [])
unfolding outcome work
leaves graph marks s steps found w past =
    let k : ℕ = s.number in
    let ps : List ℕ = parents_in graph k in
    let none : drop s.next ps ≡ [] = drop_all s.next ps past in
    let all : take s.next ps ≡ ps = take_all s.next ps past in
    record {
      on = record {
        sized = w.sized;
        marked = λ n. omega (arith, w.marked n, occurs-append n found (k ∷ []));
        counted = omega (arith, w.counted, length-append found (k ∷ []));
        behind = λ n h.
            ⊎_elim (λ t. w.behind n t)
            (λ f.
            let there : has (k ∷ []) n ≡ true = ap (λ v. v || has (k ∷ []) n) (sym f) ∙ sym (has-append found (k ∷ []) n) ∙ h in
            ⊎_elim
            (λ t. λ p named. w.taken.0 p (ap (λ l. has l p) all ∙ ap (λ m. has (parents_in graph m) p) (eqb-true k n t) ∙ named))
            (λ u. absurd (cc (ap (λ v. v || false) u)))
            (cases_Bool (k == n)))
            (cases_Bool (has found n));
        taken = w.taken.1;
      };
      same =
          ap (λ l. once l) (append_assoc found (k ∷ []) (ahead graph steps))
          ∙ sym (ap (λ l. once (found ++ (upwards graph (way_of (s ∷ steps)) l ++ k ∷ ahead graph steps))) none);
      less = omega arith;
    }

-- ---- the next that is named is taken

-- what is left at a step once one more is taken
onwards : (ps : List ℕ) (next p : ℕ) → slice_get ps next ≡ Some p → drop next ps ≡ p ∷ drop (next + 1) ps
onwards ps next p h =
    let lt : next < length ps = slice_get_within ps next p h in
    let here : get_or ps next 0 ≡ p = get_or_from_slice_get ps next p 0 h in
    let cons : drop next ps ≡ get_or ps next 0 ∷ drop (next + 1) ps = rw (add-one next) (drop-cons ps next 0 lt) in
    cons ∙ ap (λ x. x ∷ drop (next + 1) ps) here

so_far : (ps : List ℕ) (next p : ℕ) → slice_get ps next ≡ Some p → take (next + 1) ps ≡ take next ps ++ p ∷ []
so_far ps next p h =
    let lt : next < length ps = slice_get_within ps next p h in
    let here : get_or ps next 0 ≡ p = get_or_from_slice_get ps next p 0 h in
    let more : take (next + 1) ps ≡ take next ps ++ get_or ps next 0 ∷ [] = rw (add-one next) (take-suc ps next 0 lt) in
    more ∙ ap (λ x. take next ps ++ x ∷ []) here

taken_more : (marks : List Bool) (ps : List ℕ) (next p : ℕ) → slice_get ps next ≡ Some p → AreMarked marks (take next ps) → is_marked marks p ≡ true → AreMarked marks (take (next + 1) ps)
taken_more marks ps next p h w here n there = all_marked marks (take next ps) p w here n (ap (λ l. has l n) (sym (so_far ps next p h)) ∙ there)

skipped : (graph : List (List ℕ)) (marks : List Bool) (steps : List Step) (found : List ℕ) (p : ℕ) (ps rest : List ℕ) → IsWalk graph marks steps found → is_marked marks p ≡ true
    → once (found ++ (upwards graph (way_of steps) ps ++ rest)) ≡ once (found ++ (upwards graph (way_of steps) (p ∷ ps) ++ rest))
skipped graph marks steps found p ps rest w m =
    let way : List ℕ = way_of steps in
    let old : List ℕ = upwards graph way ps in
    let line : List ℕ = lines_in (length graph - length way) graph (p ∷ way) p in
    ⊎_elim
    (λ t. sym (ap (λ l. once (found ++ (l ++ rest))) (passed_over graph way p ps t)))
    (λ off.
    let there : has found p ≡ true = marked_found graph marks steps found w p m off in
    let within : Within line found =
    lines_within (length graph - length way) graph (p ∷ way) found p
    (λ n q a b c. closed graph marks steps found w n q a b (or_parts (p == q) (has way q) c).1) there in
    sym
    (ap (λ l. once (found ++ (l ++ rest))) (taken_up graph way p ps off)
    ∙ ap (λ l. once (found ++ l)) (append_assoc line old rest)
    ∙ once_skips found line (old ++ rest) within))
    (cases_Bool (has way p))

pub takes_marked : (graph : List (List ℕ)) (marks : List Bool) (s : Step) (steps : List Step) (found : List ℕ) (p : ℕ) → IsWalk graph marks (s ∷ steps) found
    → slice_get (parents_in graph s.number) s.next ≡ Some p → is_marked marks p ≡ true
    → Moved graph marks (s ∷ steps) found marks (record { number = s.number; next = s.next + 1 } ∷ steps) found
unfolding outcome work
takes_marked graph marks s steps found p w h m =
    let ps : List ℕ = parents_in graph s.number in
    let lt : s.next < length ps = slice_get_within ps s.next p h in
    record {
      on = record {
        sized = w.sized;
        marked = w.marked;
        counted = w.counted;
        behind = w.behind;
        taken = (taken_more marks ps s.next p h w.taken.0 m, w.taken.1);
      };
      same =
          skipped graph marks (s ∷ steps) found p (drop (s.next + 1) ps) (s.number ∷ ahead graph steps) w m
          ∙ ap (λ l. once (found ++ (upwards graph (way_of (s ∷ steps)) l ++ s.number ∷ ahead graph steps))) (sym (onwards ps s.next p h));
      less = omega arith;
    }

taken_still : (graph : List (List ℕ)) (marks : List Bool) (p : ℕ) (steps : List Step) → AreTaken graph marks steps → AreTaken graph (set marks p true) steps
taken_still graph marks p [] w = tt
taken_still graph marks p (s ∷ steps) w = (λ n h. marked_still marks p n (w.0 n h), taken_still graph marks p steps w.1)

marked_once : (marks : List Bool) (p n : ℕ) (others : ℕ) → p < length marks → is_marked marks p ≡ false → others ≡ one_if (is_marked marks n)
    → one_if (p == n) + others ≡ one_if (is_marked (set marks p true) n)
marked_once marks p n others lt m e =
    ⊎_elim
    (λ t.
    let same : p ≡ n = eqb-true p n t in
    let none : others ≡ 0 = is_none (is_marked marks n) others e (rw same at m) in
    let now : is_marked (set marks p true) n ≡ true = ap (λ k. is_marked (set marks p true) k) (sym same) ∙ marked_here marks p lt in
    let one : one_if (p == n) ≡ 1 = ap one_if t in
    let all : one_if (is_marked (set marks p true) n) ≡ 1 = ap one_if now in
    omega arith)
    (λ f.
    let other : is_marked (set marks p true) n ≡ is_marked marks n = marked_other marks p n (λ q. cc (eq-eqb p n (sym q))) in
    let zero' : one_if (p == n) ≡ 0 = ap one_if f in
    let all : one_if (is_marked (set marks p true) n) ≡ one_if (is_marked marks n) = ap one_if other in
    omega arith)
    (cases_Bool (p == n))

none_taken : (xs : List ℕ) (n : ℕ) → has (take 0 xs) n ≡ true → false ≡ true
none_taken [] n h = h
none_taken (x ∷ xs) n h = h

length-map_way : (steps : List Step) → length (way_of steps) ≡ length steps
length-map_way [] = refl
length-map_way (s ∷ steps) = omega (arith, length-map_way steps)

-- the line of one that is stepped on is that of what it names, and itself
pub line_of : (graph : List (List ℕ)) (way : List ℕ) (p fuel : ℕ) → fuel ≡ suc (length graph - length way) → (found rest : List ℕ)
    → once (found ++ (upwards graph way (drop 0 (parents_in graph p)) ++ p ∷ rest)) ≡ once (found ++ (lines_in fuel graph way p ++ rest))
line_of graph way p fuel e found rest =
    let up : List ℕ = upwards graph way (parents_in graph p) in
    ap (λ l. once (found ++ (upwards graph way l ++ p ∷ rest))) (drop_none (parents_in graph p))
    ∙ sym (ap (λ l. once (found ++ l)) (append_assoc up (p ∷ []) rest))
    ∙ sym (once_absorbs found (up ++ p ∷ []) rest)
    ∙ sym (ap (λ l. once (found ++ (l ++ rest))) (lines_up graph way p fuel e))

begun : (graph : List (List ℕ)) (way : List ℕ) (p : ℕ) (ps found rest : List ℕ) → has way p ≡ false → length way < length graph
    → once (found ++ (upwards graph (p ∷ way) (drop 0 (parents_in graph p)) ++ p ∷ (upwards graph way ps ++ rest))) ≡ once (found ++ (upwards graph way (p ∷ ps) ++ rest))
begun graph way p ps found rest off lt =
    let line : List ℕ = lines_in (length graph - length way) graph (p ∷ way) p in
    line_of graph (p ∷ way) p (length graph - length way) (omega arith) found (upwards graph way ps ++ rest)
    ∙ sym (ap (λ l. once (found ++ l)) (append_assoc line (upwards graph way ps) rest))
    ∙ sym (ap (λ l. once (found ++ (l ++ rest))) (taken_up graph way p ps off))

-- one that was not marked is stepped on
pub steps_on : (graph : List (List ℕ)) (marks : List Bool) (steps : List Step) (found : List ℕ) (p : ℕ) → p < length marks → is_marked marks p ≡ false
    → length marks ≡ length graph → ((n : ℕ) → occurs n (way_of steps) + occurs n found ≡ one_if (is_marked marks n)) → length steps + length found ≡ count marks
    → ((n : ℕ) → has found n ≡ true → AreMarked marks (parents_in graph n)) → AreTaken graph (set marks p true) steps
    → IsWalk graph (set marks p true) (record { number = p; next = 0 } ∷ steps) found
steps_on graph marks steps found p lt m sized marked counted behind taken =
    record {
      sized = length-set marks p true ∙ sized;
      marked = λ n. omega (arith, marked_once marks p n (occurs n (way_of steps) + occurs n found) lt m (marked n));
      counted = omega (arith, count_set marks p lt m, counted);
      behind = λ n there q named. marked_still marks p q (behind n there q named);
      taken = (λ n none. absurd (cc (none_taken (parents_in graph p) n none)), taken);
    }

pub takes_new : (graph : List (List ℕ)) (marks : List Bool) (s : Step) (steps : List Step) (found : List ℕ) (p : ℕ) → IsWalk graph marks (s ∷ steps) found
    → slice_get (parents_in graph s.number) s.next ≡ Some p → p < length marks → is_marked marks p ≡ false
    → Moved graph marks (s ∷ steps) found (set marks p true) (record { number = p; next = 0 } ∷ record { number = s.number; next = s.next + 1 } ∷ steps) found
unfolding outcome work
takes_new graph marks s steps found p w h lt m =
    let ps : List ℕ = parents_in graph s.number in
    let way : List ℕ = way_of (s ∷ steps) in
    let inside : s.next < length ps = slice_get_within ps s.next p h in
    let s' : Step = record { number = s.number; next = s.next + 1 } in
    let rest : List ℕ = upwards graph way (drop (s.next + 1) ps) ++ s.number ∷ ahead graph steps in
    record {
      on =
          steps_on graph marks (s' ∷ steps) found p lt m w.sized w.marked w.counted w.behind
          (taken_more (set marks p true) ps s.next p h (λ n t. marked_still marks p n (w.taken.0 n t)) (marked_here marks p lt), taken_still graph marks p steps w.taken.1);
      same =
          begun graph way p (drop (s.next + 1) ps) found (s.number ∷ ahead graph steps) (off_way graph marks (s ∷ steps) found w p m)
          (omega (arith, count_less marks p lt m, w.sized, w.counted, length-map_way steps))
          ∙ ap (λ l. once (found ++ (upwards graph way l ++ s.number ∷ ahead graph steps))) (sym (onwards ps s.next p h));
      less = omega (arith, work_set graph marks p w.sized lt m);
    }

moved_to : (graph : List (List ℕ)) (marks : List Bool) (steps : List Step) (found : List ℕ) (m m' : List Bool) (t t' : List Step) (f f' : List ℕ)
    → m' ≡ m → t' ≡ t → f' ≡ f → Moved graph marks steps found m t f → Moved graph marks steps found m' t' f'
moved_to graph marks steps found m m' t t' f f' em et ef h = rw (em, et, ef) h

-- what a step takes is stepped on, unless it is marked
pub takes : (graph : List (List ℕ)) (marks : List Bool) (s : Step) (way : List Step) (found : List ℕ) (p : ℕ) → IsWalk graph marks (s ∷ reverse way) found
    → slice_get (parents_in graph s.number) s.next ≡ Some p → p < length marks
    → (marks' : List Bool) (middle way' : List Step) (found' : List ℕ) → (b : Bool) → is_marked marks p ≡ b → marks' ≡ cond b marks (set marks p true)
    → middle ≡ way ++ record { number = s.number; next = s.next + 1 } ∷ [] → way' ≡ cond b middle (middle ++ record { number = p; next = 0 } ∷ []) → found' ≡ found
    → Moved graph marks (s ∷ reverse way) found marks' (reverse way') found'
takes graph marks s way found p w h lt marks' middle way' found' true m em ew e ef =
    let s' : Step = record { number = s.number; next = s.next + 1 } in
    moved_to graph marks (s ∷ reverse way) found marks marks' (s' ∷ reverse way) (reverse way') found found' em
    (ap (λ l. reverse l) (e ∙ ew) ∙ reverse-append way (s' ∷ []))
    ef (takes_marked graph marks s (reverse way) found p w h m)
takes graph marks s way found p w h lt marks' middle way' found' false m em ew e ef =
    let s' : Step = record { number = s.number; next = s.next + 1 } in
    let t : Step = record { number = p; next = 0 } in
    moved_to graph marks (s ∷ reverse way) found (set marks p true) marks' (t ∷ s' ∷ reverse way) (reverse way') found found' em
    (ap (λ l. reverse l) e ∙ reverse-append middle (t ∷ []) ∙ ap (λ l. t ∷ l) (ap (λ l. reverse l) ew ∙ reverse-append way (s' ∷ [])))
    ef (takes_new graph marks s (reverse way) found p w h lt m)
