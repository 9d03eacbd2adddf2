-- A search for a factory finds the first of its name.
use Rattle.std.proofs.Common.{◌≡◌, ℕ, zero, suc, ◌+◌, ◌<◌, ◌≤◌, List, [], ◌∷◌, ◌++◌, Bool, true, false, cond, not, nat_lt, ◌&&◌, ◌==◌, length, drop, find, get_or, Option, Some, None, refl, sym, ap, subst, ◌∙◌, arith, ⊎_elim, append_assoc}
use Rattle.std.specs.List.{flat_map, slice_get}
use Rattle.std.specs.Option.{option_or}
use Rattle.std.proofs.lemmas.Bool.{cases_Bool, eq-eqb, eqb-true, ltb-true, ltb-false}
use Rattle.std.proofs.lemmas.Grind.{flat_map-append}
use Rattle.std.proofs.lemmas.List.{append-nil}
use Rattle.std.proofs.lemmas.List.Folds.{find-append}
use Rattle.type_layout.specs.declared.factories.DeclaredFactory.{DeclaredFactory}
use Rattle.type_layout.specs.declared.factory_search.Step.{Step}
use Rattle.type_layout.specs.Factories.{FactoryLines, bases_of, declared_by, sources_below, sources_of, held_in}
use Rattle.type_layout.specs.inner.Marks.{IsMarkedToo}
use Rattle.type_layout.specs.inner.Searches.{taken}
use Rattle.type_layout.proofs.Lookups.{drop_got}

-- ---- sources

pub sources_are : (g : FactoryLines) (n : ℕ) → sources_of g n ≡ flat_map (sources_below g n) (bases_of g n) ++ n ∷ []
sources_are g n = ap (λ b. cond b (flat_map (sources_below g n) (bases_of g n) ++ n ∷ []) (sources_below g n n)) (eq-eqb n n refl)

-- what is below a limit has the same sources by each limit
pub below_limit : (g : FactoryLines) (limit n : ℕ) → n < limit → sources_below g limit n ≡ sources_of g n
below_limit g zero n lt = absurd (omega (arith, lt))
below_limit g (suc limit) n lt =
    ⊎_elim
    (λ t. let same : n ≡ limit = eqb-true n limit t in ap (λ m. sources_below g (suc m) n) (sym same))
    (λ f.
    ap (λ b. cond b (flat_map (sources_below g limit) (bases_of g n) ++ n ∷ []) (sources_below g limit n)) f
    ∙ below_limit g limit n (lower f))
    (cases_Bool (n == limit))
  where
    lower : (n == limit) ≡ false → n < limit
    lower f = ⊎_elim (λ t. ltb-true n limit t) (λ u. absurd (cc (eq-eqb n limit (omega (arith, lt, ltb-false n limit u))))) (cases_Bool (nat_lt n limit))

-- what is not has none
pub past_limit : (g : FactoryLines) (limit n : ℕ) → limit ≤ n → sources_below g limit n ≡ []
past_limit g zero n le = refl
past_limit g (suc limit) n le =
    ⊎_elim
    (λ t. let same : n ≡ limit = eqb-true n limit t in absurd (omega (arith, same, le)))
    (λ f. ap (λ b. cond b (flat_map (sources_below g limit) (bases_of g n) ++ n ∷ []) (sources_below g limit n)) f ∙ past_limit g limit n (omega (arith, le)))
    (cases_Bool (n == limit))

-- ---- what is left to be walked

-- the sources still to come at a step
abbrev pub ahead : FactoryLines → Step → List ℕ
ahead g s = flat_map (sources_below g s.number) (drop s.next (bases_of g s.number))

abbrev weight : FactoryLines → List ℕ → ℕ
weight g [] = 0
weight g (n ∷ ns) = (1 + length (bases_of g n)) + weight g ns

weight-append : (g : FactoryLines) (xs ys : List ℕ) → weight g (xs ++ ys) ≡ weight g xs + weight g ys
weight-append g [] ys = omega arith
weight-append g (x ∷ xs) ys = omega (arith, weight-append g xs ys)

abbrev pub work : FactoryLines → List Step → ℕ
work g [] = 0
work g (s ∷ steps) = (1 + length (drop s.next (bases_of g s.number)) + weight g (ahead g s)) + work g steps

module _ (g : FactoryLines) (s : Step) (steps : List Step) (p : ℕ) (here : slice_get (bases_of g s.number) s.next ≡ Some p) where
  onwards : drop s.next (bases_of g s.number) ≡ p ∷ drop (s.next + 1) (bases_of g s.number)
  onwards = drop_got (bases_of g s.number) s.next p here

  ahead_of : ahead g s ≡ sources_below g s.number p ++ ahead g (record { number = s.number; next = s.next + 1 })
  ahead_of = ap (flat_map (sources_below g s.number)) onwards

  pub less : (left : ℕ → Bool) → work g (taken left s p steps) < work g (s ∷ steps)
  less left = by (nat_lt p s.number) (not (left p)) refl
    where
      rest : ℕ
      rest = length (drop (s.next + 1) (bases_of g s.number))

      later : ℕ
      later = weight g (ahead g (record { number = s.number; next = s.next + 1 }))

      count : length (drop s.next (bases_of g s.number)) ≡ suc rest
      count = ap (λ (l : List ℕ). length l) onwards

      all : weight g (ahead g s) ≡ weight g (sources_below g s.number p) + later
      all = ap (weight g) ahead_of ∙ weight-append g (sources_below g s.number p) (ahead g (record { number = s.number; next = s.next + 1 }))

      by : (a b : Bool) → nat_lt p s.number ≡ a
          → work g (cond (a && b) (record { number = p; next = 0 } ∷ record { number = s.number; next = s.next + 1 } ∷ steps) (record { number = s.number; next = s.next + 1 } ∷ steps)) < work g (s ∷ steps)
      by false b e = omega (arith, count, all)
      by true false e = omega (arith, count, all)
      by true true e =
          let one : weight g (sources_below g s.number p) ≡ weight g (flat_map (sources_below g p) (bases_of g p)) + ((1 + length (bases_of g p)) + 0) =
          ap (weight g) (below_limit g s.number p (ltb-true p s.number e) ∙ sources_are g p) ∙ weight-append g (flat_map (sources_below g p) (bases_of g p)) (p ∷ []) in
          omega (arith, count, all, one)

-- ---- what is found

module _ (g : FactoryLines) (test : DeclaredFactory → Bool) where
  abbrev pub within : List ℕ → Option DeclaredFactory
  within ns = find test (flat_map (declared_by g) ns)

  within-append : (xs ys : List ℕ) → within (xs ++ ys) ≡ option_or (within xs) (within ys)
  within-append xs ys = ap (find test) (flat_map-append (declared_by g) xs ys) ∙ find-append test (flat_map (declared_by g) xs) (flat_map (declared_by g) ys)

  alone : (n : ℕ) → within (n ∷ []) ≡ find test (declared_by g n)
  alone n = ap (find test) (append-nil (declared_by g n))

  -- a home that derives from nothing has what it declares itself
  pub bare : (n : ℕ) (bases : List ℕ) → bases ≡ bases_of g n → (length bases == 0) ≡ true → find test (declared_by g n) ≡ find test (held_in g n)
  unfolding held_in
  bare n bases is none = sym (ap within (sources_are g n ∙ ap (λ ps. flat_map (sources_below g n) ps ++ n ∷ []) (sym is ∙ empty bases (eqb-true (length bases) 0 none))) ∙ alone n)
    where
      empty : (xs : List ℕ) → length xs ≡ 0 → xs ≡ []
      empty [] h = refl
      empty (x ∷ xs) h = absurd (omega (arith, h))

  abbrev pub found : ℕ → Option DeclaredFactory
  found n = within (sources_of g n)

  abbrev seen : Step → Option DeclaredFactory
  seen s = within (ahead g s ++ s.number ∷ [])

  -- From the innermost step outwards: what a home has is what was found further in, or lies ahead. In front of the
  -- outermost it is what the first home has.
  abbrev pub Fits : Option DeclaredFactory → Option DeclaredFactory → List Step → Type 0
  Fits sought o [] = sought ≡ o
  Fits sought o (s ∷ steps) = (found s.number ≡ option_or o (seen s)) × Fits sought (found s.number) steps

  -- those that were left have none
  abbrev pub AreLeft : (ℕ → Bool) → Type 0
  AreLeft left = (n : ℕ) → left n ≡ true → found n ≡ None

  seen_first : (n : ℕ) → seen (record { number = n; next = 0 }) ≡ found n
  seen_first n = ap within (sym (sources_are g n))

  pub begins : (n : ℕ) → Fits (found n) None (record { number = n; next = 0 } ∷ [])
  begins n = (sym (seen_first n), refl)

  seen_next : (s : Step) (p : ℕ) → slice_get (bases_of g s.number) s.next ≡ Some p → seen s ≡ option_or (within (sources_below g s.number p)) (seen (record { number = s.number; next = s.next + 1 }))
  seen_next s p here =
      let s' : Step = record { number = s.number; next = s.next + 1 } in
      ap (λ l. within (l ++ s.number ∷ [])) (ahead_of g s [] p here)
      ∙ ap within (append_assoc (sources_below g s.number p) (ahead g s') (s.number ∷ []))
      ∙ within-append (sources_below g s.number p) (ahead g s' ++ s.number ∷ [])

  pub takes : (sought : Option DeclaredFactory) (left : ℕ → Bool) (s : Step) (p : ℕ) (steps : List Step) → slice_get (bases_of g s.number) s.next ≡ Some p → AreLeft left → Fits sought None (s ∷ steps)
      → Fits sought None (taken left s p steps)
  takes sought left s p steps here none fits = by (nat_lt p s.number) (left p) refl refl
    where
      s' : Step
      s' = record { number = s.number; next = s.next + 1 }

      next : found s.number ≡ option_or (within (sources_below g s.number p)) (seen s')
      next = fits.0 ∙ seen_next s p here

      skips : within (sources_below g s.number p) ≡ None → Fits sought None (s' ∷ steps)
      skips e = (next ∙ ap (λ o. option_or o (seen s')) e, fits.1)

      by : (a b : Bool) → nat_lt p s.number ≡ a → left p ≡ b → Fits sought None (cond (a && not b) (record { number = p; next = 0 } ∷ s' ∷ steps) (s' ∷ steps))
      by false b lower gone = skips (ap within (past_limit g s.number p (ltb-false p s.number lower)))
      by true true lower gone = skips (ap within (below_limit g s.number p (ltb-true p s.number lower)) ∙ none p gone)
      by true false lower gone = (sym (seen_first p), (next ∙ ap (λ ns. option_or (within ns) (seen s')) (below_limit g s.number p (ltb-true p s.number lower)), fits.1))

  pub of_held : (n : ℕ) → found n ≡ find test (held_in g n)
  unfolding held_in
  of_held n = refl

  -- with nothing left to take, a home has what it declares itself
  own : (s : Step) (sought : Option DeclaredFactory) (steps : List Step) → slice_get (bases_of g s.number) s.next ≡ None → Fits sought None (s ∷ steps) → found s.number ≡ find test (declared_by g s.number)
  own s sought steps over fits = fits.0 ∙ ap (λ ps. within (flat_map (sources_below g s.number) ps ++ s.number ∷ [])) (none_left (bases_of g s.number) s.next over) ∙ alone s.number
    where
      none_left : (xs : List ℕ) (i : ℕ) → slice_get xs i ≡ None → drop i xs ≡ []
      none_left [] zero h = refl
      none_left [] (suc i) h = refl
      none_left (x ∷ xs) zero h = absurd (cc)
      none_left (x ∷ xs) (suc i) h = none_left xs i h

  pub leaves : (sought : Option DeclaredFactory) (s : Step) (steps : List Step) → slice_get (bases_of g s.number) s.next ≡ None → None ≡ find test (declared_by g s.number) → Fits sought None (s ∷ steps) → Fits sought None steps
  leaves sought s steps over none fits = subst (λ o. Fits sought o steps) (own s sought steps over fits ∙ sym none) fits.1

  pub one_left : (sought : Option DeclaredFactory) (left after : ℕ → Bool) (s : Step) (steps : List Step) → slice_get (bases_of g s.number) s.next ≡ None → None ≡ find test (declared_by g s.number) → Fits sought None (s ∷ steps) → AreLeft left
      → IsMarkedToo left after s.number → AreLeft after
  one_left sought left after s steps over none fits are marked n gone =
      ⊎_elim (λ same. are n (sym same ∙ gone)) (λ it. ap found it ∙ own s sought steps over fits ∙ sym none) (marked n)

  module _ (first : ℕ) (none : (n : ℕ) → n < first → find test (declared_by g n) ≡ None) where
    nor_theirs : (limit : ℕ) → ((n : ℕ) → within (sources_below g limit n) ≡ None) → (ns : List ℕ) → within (flat_map (sources_below g limit) ns) ≡ None
    nor_theirs limit nothing [] = refl
    nor_theirs limit nothing (n ∷ ns) =
        within-append (sources_below g limit n) (flat_map (sources_below g limit) ns) ∙ ap (λ o. option_or o (within (flat_map (sources_below g limit) ns))) (nothing n) ∙ nor_theirs limit nothing ns

    nothing_below : (limit : ℕ) → limit ≤ first → (n : ℕ) → within (sources_below g limit n) ≡ None
    nothing_below zero le n = refl
    nothing_below (suc limit) le n = by (n == limit) refl (λ m. nothing_below limit (omega (arith, le)) m)
      where
        theirs : List ℕ
        theirs = flat_map (sources_below g limit) (bases_of g n)

        by : (b : Bool) → (n == limit) ≡ b → ((m : ℕ) → within (sources_below g limit m) ≡ None) → within (cond b (theirs ++ n ∷ []) (sources_below g limit n)) ≡ None
        by true e lower =
            let same : n ≡ limit = eqb-true n limit e in
            within-append theirs (n ∷ []) ∙ ap (λ o. option_or o (within (n ∷ []))) (nor_theirs limit lower (bases_of g n)) ∙ alone n ∙ none n (omega (arith, le, same))
        by false e lower = lower n

    -- where none in front of the first has it, what is in front of that has none
    pub in_front : (n : ℕ) → n < first → found n ≡ None
    in_front n lt = nothing_below (suc n) (omega (arith, lt)) n

  -- what was found further in is what is sought
  pub finds : (sought : Option DeclaredFactory) (f : DeclaredFactory) (o : Option DeclaredFactory) (steps : List Step) → o ≡ Some f → Fits sought o steps → sought ≡ Some f
  finds sought f o [] e fits = fits ∙ e
  finds sought f o (s ∷ steps) e fits = finds sought f (found s.number) steps (fits.0 ∙ ap (λ p. option_or p (seen s)) e) fits.1

  pub found_here : (sought : Option DeclaredFactory) (s : Step) (steps : List Step) (f : DeclaredFactory) → slice_get (bases_of g s.number) s.next ≡ None → Some f ≡ find test (declared_by g s.number) → Fits sought None (s ∷ steps) → sought ≡ Some f
  found_here sought s steps f over here fits = finds sought f (found s.number) steps (own s sought steps over fits ∙ sym here) fits.1

  -- ---- the turns of a search

  pub record IsSearch (sought : Option DeclaredFactory) (left : ℕ → Bool) (steps : List Step) : Type 0 where
    pub fits : Fits sought None steps
    pub are_left : AreLeft left

  pub goes_on : (sought : Option DeclaredFactory) (left before after : ℕ → Bool) (old steps new : List Step) (s : Step) (p : ℕ) (bases : List ℕ) → IsSearch sought left old → old ≡ s ∷ steps → before ≡ left
      → Some p ≡ slice_get bases s.next → bases ≡ bases_of g s.number → new ≡ taken before s p steps → after ≡ before → IsSearch sought after new
  goes_on sought left before after old steps new s p bases on is kept next own_bases went same =
      let are : AreLeft before = subst AreLeft (sym kept) on.are_left in
      record {
        fits = subst (Fits sought None) (sym went) (takes sought before s p steps (sym (next ∙ ap (λ l. slice_get l s.next) own_bases)) are (subst (Fits sought None) is on.fits));
        are_left = subst AreLeft (sym same) are;
      }

  pub goes_back : (sought : Option DeclaredFactory) (left before after : ℕ → Bool) (old steps new : List Step) (s : Step) (bases : List ℕ) → IsSearch sought left old → old ≡ s ∷ steps → before ≡ left
      → None ≡ slice_get bases s.next → bases ≡ bases_of g s.number → None ≡ find test (declared_by g s.number) → new ≡ steps → IsMarkedToo before after s.number → IsSearch sought after new
  goes_back sought left before after old steps new s bases on is kept over own_bases none went marked =
      let last : slice_get (bases_of g s.number) s.next ≡ None = sym (over ∙ ap (λ l. slice_get l s.next) own_bases) in
      let fits : Fits sought None (s ∷ steps) = subst (Fits sought None) is on.fits in
      record {
        fits = subst (Fits sought None) (sym went) (leaves sought s steps last none fits);
        are_left = one_left sought before after s steps last none fits (subst AreLeft (sym kept) on.are_left) marked;
      }

  pub told : (sought : Option DeclaredFactory) (left : ℕ → Bool) (old steps : List Step) (s : Step) (bases : List ℕ) (f : DeclaredFactory) → IsSearch sought left old → old ≡ s ∷ steps → None ≡ slice_get bases s.next → bases ≡ bases_of g s.number
      → Some f ≡ find test (declared_by g s.number) → Some f ≡ sought
  told sought left old steps s bases f on is over own_bases here =
      sym (found_here sought s steps f (sym (over ∙ ap (λ l. slice_get l s.next) own_bases)) here (subst (Fits sought None) is on.fits))

  pub nothing_left : (sought : Option DeclaredFactory) (left : ℕ → Bool) (old : List Step) → IsSearch sought left old → old ≡ [] → None ≡ sought
  nothing_left sought left old on is = sym (subst (Fits sought None) is on.fits)

  pub first_turn : (n : ℕ) (left : ℕ → Bool) (steps : List Step) (first : ℕ) → steps ≡ record { number = n; next = 0 } ∷ [] → ((m : ℕ) → m < first → find test (declared_by g m) ≡ None) → ((m : ℕ) → left m ≡ nat_lt m first) → IsSearch (found n) left steps
  first_turn n left steps first is none marked = record {
    fits = subst (Fits (found n) None) (sym is) (begins n);
    are_left = λ m gone. in_front first none m (ltb-true m first (sym (marked m) ∙ gone));
  }

pub smaller : (g : FactoryLines) (left : ℕ → Bool) (old steps new : List Step) (s : Step) (p : ℕ) (bases : List ℕ) → old ≡ s ∷ steps → Some p ≡ slice_get bases s.next → bases ≡ bases_of g s.number → new ≡ taken left s p steps → work g new < work g old
smaller g left old steps new s p bases is next own_bases went =
    subst (λ l. work g l < work g old) (sym went) (subst (λ l. work g (taken left s p steps) < work g l) (sym is) (less g s steps p (sym (next ∙ ap (λ l. slice_get l s.next) own_bases)) left))

-- a home that derives from nothing holds what it declares
pub held_alone : (lines : FactoryLines) (declared : List DeclaredFactory) → lines.bases ≡ [] → lines.declared ≡ declared ∷ [] → held_in lines 0 ≡ declared
unfolding held_in
held_alone lines declared none one =
    ap (λ bs. flat_map (declared_by lines) (flat_map (sources_below lines 0) (get_or bs 0 []) ++ 0 ∷ [])) none ∙ append-nil (declared_by lines 0) ∙ ap (λ ds. get_or ds 0 []) one
