-- Definitions below which all names lower ones: their lines depend on nothing else.
use Rattle.std.proofs.Common.{◌≡◌, ℕ, zero, suc, ◌≤◌, ◌<◌, List, [], ◌∷◌, ◌++◌, Bool, true, false, cond, not, ◌==◌, ◌||◌, length, filter, refl, sym, ap, ◌∙◌, arith, ⊎_elim}
use Rattle.std.specs.List.{flat_map}
use Rattle.std.proofs.lemmas.Bool.{eqb-true, cases_Bool}
use Rattle.psdl_lineage.specs.Descent.{has}
use Rattle.psdl_lineage.specs.Graph.{parents_in, lines_in, ancestry_in}
use Rattle.psdl_lineage.proofs.Repeats.{once, has_here, has_later}

-- each of these names ones of them with a lower rank
abbrev pub AreLow : List (List ℕ) → (ℕ → ℕ) → (ℕ → Bool) → Type 0
AreLow graph rank low = (n p : ℕ) → low n ≡ true → has (parents_in graph n) p ≡ true → (rank p < rank n) × (low p ≡ true)

abbrev IsUnder : (ℕ → ℕ) → ℕ → List ℕ → Type 0
IsUnder rank n way = (m : ℕ) → has way m ≡ true → rank n ≤ rank m

not_there : (rank : ℕ → ℕ) (n p : ℕ) (way : List ℕ) → IsUnder rank n way → rank p < rank n → has way p ≡ false
not_there rank n p way under lt = ⊎_elim (λ t. absurd (omega (arith, under p t, lt))) (λ f. f) (cases_Bool (has way p))

same_rank : (rank : ℕ → ℕ) (n m : ℕ) → n ≡ m → rank n ≤ rank m
same_rank rank n m e = let same : rank n ≡ rank m = ap rank e in omega (arith, same)

under_more : (rank : ℕ → ℕ) (n p : ℕ) (way : List ℕ) → IsUnder rank n way → rank p < rank n → IsUnder rank p (p ∷ way)
under_more rank n p way under lt m h =
    ⊎_elim (λ t. same_rank rank p m (eqb-true p m t)) (λ f. omega (arith, lt, under m (sym (ap (λ v. v || has way m) f) ∙ h))) (cases_Bool (p == m))

under_one : (rank : ℕ → ℕ) (n : ℕ) → IsUnder rank n (n ∷ [])
under_one rank n m h = ⊎_elim (λ t. same_rank rank n m (eqb-true n m t)) (λ f. absurd (cc (ap (λ v. v || false) f))) (cases_Bool (n == m))

-- none is on the way
all_kept : (g : ℕ → List ℕ) (way ps : List ℕ) → ((p : ℕ) → has ps p ≡ true → has way p ≡ false) → flat_map g (filter (λ p. not (has way p)) ps) ≡ flat_map g ps
all_kept g way [] off = refl
all_kept g way (p ∷ ps) off =
    ap (λ v. flat_map g (cond (not v) (p ∷ filter (λ q. not (has way q)) ps) (filter (λ q. not (has way q)) ps))) (off p (has_here p ps))
    ∙ ap (λ l. g p ++ l) (all_kept g way ps (λ q h. off q (has_later p q ps h)))

pub same_on : (f g : ℕ → List ℕ) (ps : List ℕ) → ((p : ℕ) → has ps p ≡ true → f p ≡ g p) → flat_map f ps ≡ flat_map g ps
same_on f g [] h = refl
same_on f g (p ∷ ps) h = ap (λ l. l ++ flat_map f ps) (h p (has_here p ps)) ∙ ap (λ l. g p ++ l) (same_on f g ps (λ q t. h q (has_later p q ps t)))

none_named : (ps : List ℕ) → ((p : ℕ) → has ps p ≡ true → ⊥) → ps ≡ []
none_named [] h = refl
none_named (p ∷ ps) h = absurd (h p (has_here p ps))

-- with no fuel left, it is the lowest
alone_at : (graph : List (List ℕ)) (rank : ℕ → ℕ) (low : ℕ → Bool) (fuel : ℕ) (way : List ℕ) (n : ℕ) → AreLow graph rank low → low n ≡ true → rank n ≤ 0 → lines_in fuel graph way n ≡ n ∷ []
alone_at graph rank low zero way n lows here lt = refl
alone_at graph rank low (suc fuel) way n lows here lt =
    let none : parents_in graph n ≡ [] = none_named (parents_in graph n) (λ p h. omega (arith, lt, (lows n p here h).0)) in
    ap (λ ps. once (flat_map (λ p. lines_in fuel graph (p ∷ way) p) (filter (λ p. not (has way p)) ps) ++ n ∷ [])) none

-- neither fuel nor way matter
agree : (f g : ℕ) (graph : List (List ℕ)) (rank : ℕ → ℕ) (low : ℕ → Bool) (v w : List ℕ) (n : ℕ) → AreLow graph rank low → low n ≡ true → IsUnder rank n v → IsUnder rank n w → rank n ≤ f → rank n ≤ g
    → lines_in f graph v n ≡ lines_in g graph w n
agree zero g graph rank low v w n lows here a b lf lg = sym (alone_at graph rank low g w n lows here lf)
agree (suc f) zero graph rank low v w n lows here a b lf lg = alone_at graph rank low (suc f) v n lows here lg
agree (suc f) (suc g) graph rank low v w n lows here a b lf lg =
    let ps : List ℕ = parents_in graph n in
    let r : ℕ → List ℕ = λ p. lines_in f graph (p ∷ v) p in
    let s : ℕ → List ℕ = λ p. lines_in g graph (p ∷ w) p in
    let each : (p : ℕ) → has ps p ≡ true → r p ≡ s p =
    λ p h.
    let lower : rank p < rank n = (lows n p here h).0 in
    agree f g graph rank low (p ∷ v) (p ∷ w) p lows (lows n p here h).1 (under_more rank n p v a lower) (under_more rank n p w b lower) (omega (arith, lower, lf)) (omega (arith, lower, lg)) in
    ap (λ l. once (l ++ n ∷ []))
    (all_kept r v ps (λ p h. not_there rank n p v a (lows n p here h).0) ∙ same_on r s ps each ∙ sym (all_kept s w ps (λ p h. not_there rank n p w b (lows n p here h).0)))

-- what names lower ones alone descends from what those descend from
pub joined_of : (graph : List (List ℕ)) (rank : ℕ → ℕ) (low : ℕ → Bool) (n : ℕ) → AreLow graph rank low → n < length graph → rank n ≤ length graph
    → ((p : ℕ) → has (parents_in graph n) p ≡ true → (rank p < rank n) × (low p ≡ true)) → ancestry_in graph n ≡ once (flat_map (ancestry_in graph) (parents_in graph n) ++ n ∷ [])
unfolding ancestry_in
joined_of graph rank low n lows lt fits lower = with_fuel graph rank low n lows lt fits lower (length graph) refl
  where
    with_fuel : (graph : List (List ℕ)) (rank : ℕ → ℕ) (low : ℕ → Bool) (n : ℕ) → AreLow graph rank low → n < length graph → rank n ≤ length graph
        → ((p : ℕ) → has (parents_in graph n) p ≡ true → (rank p < rank n) × (low p ≡ true)) → (fuel : ℕ) → fuel ≡ length graph
        → lines_in fuel graph (n ∷ []) n ≡ once (flat_map (λ p. lines_in (length graph) graph (p ∷ []) p) (parents_in graph n) ++ n ∷ [])
    with_fuel graph rank low n lows lt fits lower zero e = absurd (omega (arith, lt, e))
    with_fuel graph rank low n lows lt fits lower (suc fuel) e =
        let ps : List ℕ = parents_in graph n in
        let r : ℕ → List ℕ = λ p. lines_in fuel graph (p ∷ n ∷ []) p in
        let s : ℕ → List ℕ = λ p. lines_in (length graph) graph (p ∷ []) p in
        ap (λ l. once (l ++ n ∷ []))
        (all_kept r (n ∷ []) ps (λ p h. not_there rank n p (n ∷ []) (under_one rank n) (lower p h).0)
        ∙ same_on r s ps
        (λ p h.
        agree fuel (length graph) graph rank low (p ∷ n ∷ []) (p ∷ []) p lows (lower p h).1 (under_more rank n p (n ∷ []) (under_one rank n) (lower p h).0) (under_one rank p) (omega (arith, (lower p h).0, fits, e))
        (omega (arith, (lower p h).0, fits))))
