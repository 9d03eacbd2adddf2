-- What a home holds by those from which it derives: one that comes again brings nothing new.
use Rattle.std.proofs.Common.{◌≡◌, ℕ, zero, suc, ◌<◌, ◌≤◌, List, [], ◌∷◌, ◌++◌, Bool, true, false, cond, nat_lt, ◌==◌, ◌||◌, if◌then◌else◌, length, refl, sym, ap, subst, ◌∙◌, arith, ⊎_elim, append_assoc}
use Rattle.std.specs.Cmp.Lexicographic.{pointwise}
use Rattle.std.specs.List.{flat_map, list_any}
use Rattle.std.specs.Str.{bytes_eq}
use Rattle.std.proofs.lemmas.Bool.{cases_Bool, eqb-true, eq-eqb, ltb-true, ltb-false, or_right, and_from}
use Rattle.std.proofs.lemmas.List.{get_or_past}
use Rattle.std.proofs.lemmas.Slice.Eq.{bytes_eq-Decides}
use Rattle.type_layout.specs.declared.factories.DeclaredFactory.{DeclaredFactory}
use Rattle.type_layout.specs.Factories.{FactoryLines, declared_by, sources_below, sources_of, held_in, same_declared, first_of_each}
use Rattle.psdl_lineage.specs.Descent.{has}
use Rattle.psdl_lineage.specs.Graph.{ancestry_in, parents_in}
use Rattle.psdl_lineage.proofs.Low.{joined_of}
use Rattle.psdl_lineage.proofs.Past.{past_alone}
use Rattle.psdl_lineage.proofs.Repeats.{once, fresh, fresh_old, fresh_new, once_absorbs, has_here, has_later}
use Rattle.psdl_check.specs.inner.Rising.{IsRising}

-- ---- sources, each once

-- what is left out later need not be left out in each
once_in_all : (s a : ℕ → List ℕ) (ps found ys : List ℕ) → ((p : ℕ) → has ps p ≡ true → once (s p) ≡ a p) → once (found ++ (flat_map s ps ++ ys)) ≡ once (found ++ (flat_map a ps ++ ys))
once_in_all s a [] found ys same = refl
once_in_all s a (p ∷ ps) found ys same =
    ap (λ l. once (found ++ l)) (append_assoc (s p) (flat_map s ps) ys)
    ∙ sym (once_absorbs found (s p) (flat_map s ps ++ ys))
    ∙ ap (λ l. once (found ++ (l ++ (flat_map s ps ++ ys)))) (same p (has_here p ps))
    ∙ ap (λ l. once l) (sym (append_assoc found (a p) (flat_map s ps ++ ys)))
    ∙ once_in_all s a ps (found ++ a p) ys (λ q h. same q (has_later p q ps h))
    ∙ ap (λ l. once l) (append_assoc found (a p) (flat_map a ps ++ ys))
    ∙ ap (λ l. once (found ++ l)) (sym (append_assoc (a p) (flat_map a ps) ys))

module _ (lines : FactoryLines) (rising : IsRising lines.bases) where
  abbrev Each : ℕ → Type 0
  Each limit = (n : ℕ) → n < limit → once (sources_below lines limit n) ≡ ancestry_in lines.bases n

  one_more : (limit : ℕ) → Each limit → once (flat_map (sources_below lines limit) (parents_in lines.bases limit) ++ limit ∷ []) ≡ ancestry_in lines.bases limit
  one_more limit before =
      ⊎_elim
      (λ t.
      once_in_all (sources_below lines limit) (ancestry_in lines.bases) (parents_in lines.bases limit) [] (limit ∷ []) (λ p named. before p (rising limit p named))
      ∙ sym (joined_of lines.bases (λ m. m) (λ m. true) limit (λ m p on named. (rising m p named, refl)) (ltb-true limit (length lines.bases) t) (omega (arith, ltb-true limit (length lines.bases) t)) (λ p named. (rising limit p named, refl))))
      (λ f.
      let past : length lines.bases ≤ limit = omega (arith, ltb-false limit (length lines.bases) f) in
      ap (λ ps. once (flat_map (sources_below lines limit) ps ++ limit ∷ [])) (get_or_past lines.bases limit [] past) ∙ sym (past_alone lines.bases limit past))
      (cases_Bool (nat_lt limit (length lines.bases)))

  each : (limit : ℕ) → Each limit
  each zero n lt = absurd (omega (arith, lt))
  each (suc limit) n lt =
      ⊎_elim
      (λ t.
      let same : n ≡ limit = eqb-true n limit t in
      ap (λ b. once (cond b (flat_map (sources_below lines limit) (parents_in lines.bases n) ++ n ∷ []) (sources_below lines limit n))) t
      ∙ ap (λ m. once (flat_map (sources_below lines limit) (parents_in lines.bases m) ++ m ∷ [])) same
      ∙ one_more limit (each limit)
      ∙ ap (ancestry_in lines.bases) (sym same))
      (λ f.
      ap (λ b. once (cond b (flat_map (sources_below lines limit) (parents_in lines.bases n) ++ n ∷ []) (sources_below lines limit n))) f
      ∙ each limit n (⊎_elim (λ t. ltb-true n limit t) (λ u. absurd (cc (eq-eqb n limit (omega (arith, lt, ltb-false n limit u))))) (cases_Bool (nat_lt n limit))))
      (cases_Bool (n == limit))

  -- a home derives from what it descends from
  pub once_sources : (n : ℕ) → once (sources_of lines n) ≡ ancestry_in lines.bases n
  once_sources n = each (suc n) n (omega arith)

-- ---- the first of each

module _ {X : Type 0} (same : X → X → Bool) (reflexive : (x : X) → same x x ≡ true) where
  abbrev known_after : List X → List X → List X
  known_after known [] = known
  known_after known (x ∷ xs) = if list_any (same x) known then known_after known xs else known_after (x ∷ known) xs

  abbrev AreKnown : List X → List X → Type 0
  AreKnown known [] = Unit {0}
  AreKnown known (y ∷ ys) = (list_any (same y) known ≡ true) × AreKnown known ys

  after_old : (known : List X) (x : X) (xs : List X) → list_any (same x) known ≡ true → known_after known (x ∷ xs) ≡ known_after known xs
  after_old known x xs t = ap (λ b. cond b (known_after known xs) (known_after (x ∷ known) xs)) t

  after_new : (known : List X) (x : X) (xs : List X) → list_any (same x) known ≡ false → known_after known (x ∷ xs) ≡ known_after (x ∷ known) xs
  after_new known x xs f = ap (λ b. cond b (known_after known xs) (known_after (x ∷ known) xs)) f

  -- those that are known add nothing
  skips : (known ys zs : List X) → AreKnown known ys → first_of_each same known (ys ++ zs) ≡ first_of_each same known zs
  skips known [] zs h = refl
  skips known (y ∷ ys) zs h = ap (λ b. cond b (first_of_each same known (ys ++ zs)) (y ∷ first_of_each same (y ∷ known) (ys ++ zs))) h.0 ∙ skips known ys zs h.1

  behind : (known ys zs ws : List X) → first_of_each same (known_after known ys) zs ≡ first_of_each same (known_after known ys) ws → first_of_each same known (ys ++ zs) ≡ first_of_each same known (ys ++ ws)
  behind known [] zs ws h = h
  behind known (y ∷ ys) zs ws h =
      by (list_any (same y) known) refl (λ e. behind known ys zs ws (subst (λ k. first_of_each same k zs ≡ first_of_each same k ws) (after_old known y ys e) h))
      (λ e. behind (y ∷ known) ys zs ws (subst (λ k. first_of_each same k zs ≡ first_of_each same k ws) (after_new known y ys e) h))
    where
      by : (b : Bool) → list_any (same y) known ≡ b
          → (list_any (same y) known ≡ true → first_of_each same known (ys ++ zs) ≡ first_of_each same known (ys ++ ws))
          → (list_any (same y) known ≡ false → first_of_each same (y ∷ known) (ys ++ zs) ≡ first_of_each same (y ∷ known) (ys ++ ws))
          → cond b (first_of_each same known (ys ++ zs)) (y ∷ first_of_each same (y ∷ known) (ys ++ zs)) ≡ cond b (first_of_each same known (ys ++ ws)) (y ∷ first_of_each same (y ∷ known) (ys ++ ws))
      by true e old new = old e
      by false e old new = ap (λ l. y ∷ l) (new e)

  stays : (known ys : List X) (y : X) → list_any (same y) known ≡ true → list_any (same y) (known_after known ys) ≡ true
  stays known [] y h = h
  stays known (x ∷ xs) y h =
      ⊎_elim
      (λ t. ap (λ k. list_any (same y) k) (after_old known x xs t) ∙ stays known xs y h)
      (λ f. ap (λ k. list_any (same y) k) (after_new known x xs f) ∙ stays (x ∷ known) xs y (or_right (same y x) (list_any (same y) known) h))
      (cases_Bool (list_any (same x) known))

  all_stay : (known ys zs : List X) → AreKnown known zs → AreKnown (known_after known ys) zs
  all_stay known ys [] h = tt
  all_stay known ys (z ∷ zs) h = (stays known ys z h.0, all_stay known ys zs h.1)

  now_known : (known ys : List X) → AreKnown (known_after known ys) ys
  now_known known [] = tt
  now_known known (y ∷ ys) =
      ⊎_elim
      (λ t. subst (λ k. AreKnown k (y ∷ ys)) (sym (after_old known y ys t)) (stays known ys y t, now_known known ys))
      (λ f. subst (λ k. AreKnown k (y ∷ ys)) (sym (after_new known y ys f)) (stays (y ∷ known) ys y (ap (λ b. b || list_any (same y) known) (reflexive y)), now_known (y ∷ known) ys))
      (cases_Bool (list_any (same y) known))

  -- what one brings that came before is known
  once_is_enough : (f : ℕ → List X) (seen : List ℕ) (known : List X) (ns : List ℕ) → ((n : ℕ) → has seen n ≡ true → AreKnown known (f n)) → first_of_each same known (flat_map f ns) ≡ first_of_each same known (flat_map f (fresh seen ns))
  once_is_enough f seen known [] all = refl
  once_is_enough f seen known (n ∷ ns) all =
      ⊎_elim
      (λ t. skips known (f n) (flat_map f ns) (all n t) ∙ once_is_enough f seen known ns all ∙ sym (ap (λ l. first_of_each same known (flat_map f l)) (fresh_old seen n ns t)))
      (λ u.
      behind known (f n) (flat_map f ns) (flat_map f (fresh (n ∷ seen) ns)) (once_is_enough f (n ∷ seen) (known_after known (f n)) ns (more u))
      ∙ sym (ap (λ l. first_of_each same known (flat_map f l)) (fresh_new seen n ns u)))
      (cases_Bool (has seen n))
    where
      more : has seen n ≡ false → (m : ℕ) → has (n ∷ seen) m ≡ true → AreKnown (known_after known (f n)) (f m)
      more u m h =
          ⊎_elim
          (λ t. subst (λ k. AreKnown (known_after known (f n)) (f k)) (eqb-true n m t) (now_known known (f n)))
          (λ v. all_stay known (f n) (f m) (all m (sym (ap (λ b. b || has seen m) v) ∙ h)))
          (cases_Bool (n == m))

same_names : (xs : List (List ℕ)) → pointwise bytes_eq xs xs ≡ true
same_names [] = refl
same_names (x ∷ xs) = and_from (bytes_eq x x) (pointwise bytes_eq xs xs) ((bytes_eq-Decides x x).1 refl) (same_names xs)

same_itself : (f : DeclaredFactory) → same_declared f f ≡ true
same_itself f = and_from (bytes_eq f.name f.name) (pointwise bytes_eq f.members f.members) ((bytes_eq-Decides f.name f.name).1 refl) (same_names f.members)

-- the first of each that a home holds are those of what it descends from
pub first_held : (graph : List (List ℕ)) (lines : FactoryLines) → lines.bases ≡ graph → IsRising graph → (home : ℕ)
    → first_of_each same_declared [] (held_in lines home) ≡ first_of_each same_declared [] (flat_map (declared_by lines) (ancestry_in graph home))
unfolding held_in
first_held graph lines is rising home =
    once_is_enough same_declared same_itself (declared_by lines) [] [] (sources_of lines home) (λ n h. absurd (cc))
    ∙ ap (λ ns. first_of_each same_declared [] (flat_map (declared_by lines) ns)) (once_sources lines (subst IsRising (sym is) rising) home ∙ ap (λ g. ancestry_in g home) is)
