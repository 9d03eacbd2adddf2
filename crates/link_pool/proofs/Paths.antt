-- Paths after a change of links.
use Rattle.std.proofs.Common.{ℕ, zero, suc, ◌≡◌, ◌≤◌, ◌⊎◌, inl, inr, ⊎_elim, List, [], ◌∷◌, ◌++◌, length, Bool, true, false, cond, nat_eq, refl, sym, ap, ◌∙◌, subst, append-nil, arith}
use Rattle.std.proofs.lemmas.Bool.{eqb-true, eq-eqb}
use Rattle.link_pool.specs.Linked.{In, Distinct, Path, walk}

pub in_front : (y : ℕ) (us vs : List ℕ) → In y us → In y (us ++ vs)
in_front y [] vs h = absurd h
in_front y (u ∷ us) vs h = ⊎_elim (λ e. inl e) (λ m. inr (in_front y us vs m)) h

pub in_back : (y : ℕ) (us vs : List ℕ) → In y vs → In y (us ++ vs)
in_back y [] vs h = h
in_back y (u ∷ us) vs h = inr (in_back y us vs h)

pub in_either : (y : ℕ) (us vs : List ℕ) → In y (us ++ vs) → In y us ⊎ In y vs
in_either y [] vs h = inr h
in_either y (u ∷ us) vs h = ⊎_elim (λ e. inl (inl e)) (λ m. ⊎_elim (λ a. inl (inr a)) (λ b. inr b) (in_either y us vs m)) h

pub apart : (y : ℕ) (us vs : List ℕ) → Distinct (us ++ vs) → In y us → In y vs → ⊥
apart y [] vs d a b = a
apart y (u ∷ us) vs d a b = ⊎_elim (λ e. d.0 (in_back u us vs (subst (λ z. In z vs) e b))) (λ m. apart y us vs d.1 m b) a

pub distinct_front : (us vs : List ℕ) → Distinct (us ++ vs) → Distinct us
distinct_front [] vs d = tt
distinct_front (u ∷ us) vs d = (λ m. d.0 (in_front u us vs m), distinct_front us vs d.1)

pub distinct_back : (us vs : List ℕ) → Distinct (us ++ vs) → Distinct vs
distinct_back [] vs d = d
distinct_back (u ∷ us) vs d = distinct_back us vs d.1

-- a list about one of its items
pub record Split (x : ℕ) (xs : List ℕ) : Type 0 where
  pub front : List ℕ
  pub back : List ℕ
  pub is : xs ≡ front ++ x ∷ back

pub split : (x : ℕ) (xs : List ℕ) → In x xs → Split x xs
split x [] h = absurd h
split x (y ∷ ys) h =
    ⊎_elim
    (λ e. record { front = []; back = ys; is = ap (λ z. z ∷ ys) (sym e) })
    (λ m. let s = split x ys m in record { front = y ∷ s.front; back = s.back; is = ap (λ l. y ∷ l) s.is })
    h

walk_end : (n : ℕ) (next : ℕ → ℕ) (r x : ℕ) → x ≡ r → walk n next r x ≡ []
walk_end zero next r x e = refl
walk_end (suc n) next r x e = ap (λ b. cond b [] (x ∷ walk n next r (next x))) (eq-eqb x r e)

pub not_equal : (a b : ℕ) → (a ≡ b → ⊥) → nat_eq a b ≡ false
not_equal a b ne = by (nat_eq a b) refl
  where
    by : (t : Bool) → nat_eq a b ≡ t → nat_eq a b ≡ false
    by true e = absurd (ne (eqb-true a b e))
    by false e = e

walk_more : (n : ℕ) (next : ℕ → ℕ) (r x : ℕ) → (x ≡ r → ⊥) → walk (suc n) next r x ≡ x ∷ walk n next r (next x)
walk_more n next r x ne = ap (λ b. cond b [] (x ∷ walk n next r (next x))) (not_equal x r ne)

-- the walk finds the path
pub walked : (next prev : ℕ → ℕ) (r : ℕ) (n a : ℕ) (xs : List ℕ) → Path next prev a xs r → (In r xs → ⊥) → length xs ≤ n → walk n next r (next a) ≡ xs
walked next prev r n a [] p none few = walk_end n next r (next a) p.0
walked next prev r zero a (x ∷ xs) p none few = absurd (omega (arith, few))
walked next prev r (suc n) a (x ∷ xs) p none few =
    ap (walk (suc n) next r) p.0 ∙ walk_more n next r x (λ e. none (inl (sym e))) ∙ ap (λ l. x ∷ l) (walked next prev r n x xs p.2 (λ m. none (inr m)) (omega (arith, few)))

pub length-walk : (n : ℕ) (next : ℕ → ℕ) (r x : ℕ) → length (walk n next r x) ≤ n
length-walk zero next r x = omega arith
length-walk (suc n) next r x = by (nat_eq x r) (length-walk n next r (next x))
  where
    by : (t : Bool) → length (walk n next r (next x)) ≤ n → length (cond t [] (x ∷ walk n next r (next x))) ≤ suc n
    by true few = omega arith
    by false few = omega (arith, few)

pub last_in : (next prev : ℕ → ℕ) (a b : ℕ) (xs : List ℕ) → Path next prev a xs b → In (prev b) (a ∷ xs)
last_in next prev a b [] p = inl p.1
last_in next prev a b (x ∷ xs) p = inr (last_in next prev x b xs p.2)

pub split_path : (next prev : ℕ → ℕ) (a x b : ℕ) (us vs : List ℕ) → Path next prev a (us ++ x ∷ vs) b → Path next prev a us x × Path next prev x vs b
split_path next prev a x b [] vs p = ((p.0, p.1), p.2)
split_path next prev a x b (u ∷ us) vs p = let s = split_path next prev u x b us vs p.2 in ((p.0, p.1, s.0), s.1)

pub join_path : (next prev : ℕ → ℕ) (a x b : ℕ) (us vs : List ℕ) → Path next prev a us x → Path next prev x vs b → Path next prev a (us ++ x ∷ vs) b
join_path next prev a x b [] vs p q = (p.0, p.1, q)
join_path next prev a x b (u ∷ us) vs p q = (p.0, p.1, join_path next prev u x b us vs p.2 q)

-- the link back from the end of a path is linked forth to it
pub last_next : (next prev : ℕ → ℕ) (a b : ℕ) (xs : List ℕ) → Path next prev a xs b → next (prev b) ≡ b
last_next next prev a b [] p = ap next p.1 ∙ p.0
last_next next prev a b (x ∷ xs) p = last_next next prev x b xs p.2

-- the link forth from the start of a path is linked back to it
pub first_prev : (next prev : ℕ → ℕ) (a b : ℕ) (xs : List ℕ) → Path next prev a xs b → prev (next a) ≡ a
first_prev next prev a b [] p = ap prev p.0 ∙ p.1
first_prev next prev a b (x ∷ xs) p = ap prev p.0 ∙ p.1

pub first_in : (next prev : ℕ → ℕ) (a b : ℕ) (xs : List ℕ) → Path next prev a xs b → (next a ≡ b) ⊎ In (next a) xs
first_in next prev a b [] p = inl p.0
first_in next prev a b (x ∷ xs) p = inr (inl p.0)

-- in the ring of r, between these places, a and b are neighbours
pub record IsGap (next prev : ℕ → ℕ) (r : ℕ) (us vs : List ℕ) (a b : ℕ) : Type 0 where
  pub before : Path next prev r us b
  pub behind : Path next prev a vs r
  pub forth : next a ≡ b
  pub back : prev b ≡ a

pub end_gap : (next prev : ℕ → ℕ) (r : ℕ) (xs : List ℕ) → Path next prev r xs r → IsGap next prev r xs [] (prev r) r
end_gap next prev r xs p = let e = last_next next prev r r xs p in record { before = p; behind = (e, refl); forth = e; back = refl }

pub front_gap : (next prev : ℕ → ℕ) (r : ℕ) (xs : List ℕ) → Path next prev r xs r → IsGap next prev r [] xs r (next r)
front_gap next prev r xs p = let e = first_prev next prev r r xs p in record { before = (refl, e); behind = p; forth = refl; back = e }

module _ (next prev : ℕ → ℕ) (r : ℕ) (us vs : List ℕ) (a b : ℕ) (gap : IsGap next prev r us vs a b) where
  -- the neighbour before is the head, or stands in front
  pub gap_prev : In a (r ∷ us)
  gap_prev = subst (λ z. In z (r ∷ us)) gap.back (last_in next prev r b us gap.before)

  -- the neighbour behind is the head, or stands at the back
  pub gap_next : (b ≡ r) ⊎ In b vs
  gap_next = subst (λ z. (z ≡ r) ⊎ In z vs) gap.forth (first_in next prev a r vs gap.behind)

module _ (next prev next' prev' : ℕ → ℕ) where
  -- links elsewhere change nothing
  pub frame : (a b : ℕ) (xs : List ℕ) → Path next prev a xs b → ((y : ℕ) → In y (a ∷ xs) → next' y ≡ next y) → ((y : ℕ) → In y xs → prev' y ≡ prev y) → prev' b ≡ prev b → Path next' prev' a xs b
  frame a b [] p forth back end = (forth a (inl refl) ∙ p.0, end ∙ p.1)
  frame a b (x ∷ xs) p forth back end =
      (forth a (inl refl) ∙ p.0, back x (inl refl) ∙ p.1, frame x b xs p.2 (λ y m. forth y (inr m)) (λ y m. back y (inr m)) end)

  -- a path that led to b leads to x
  pub retarget : (a b x : ℕ) (xs : List ℕ) → Path next prev a xs b → Distinct (a ∷ xs) → ((y : ℕ) → In y (a ∷ xs) → (y ≡ prev b → ⊥) → next' y ≡ next y) → next' (prev b) ≡ x
      → ((y : ℕ) → In y xs → prev' y ≡ prev y) → prev' x ≡ prev b → Path next' prev' a xs x
  retarget a b x [] p d forth end back here = (ap next' (sym p.1) ∙ end, here ∙ p.1)
  retarget a b x (y ∷ ys) p d forth end back here = (
    forth a (inl refl) (λ e. d.0 (subst (λ z. In z (y ∷ ys)) (sym e) (last_in next prev y b ys p.2))) ∙ p.0,
    back y (inl refl) ∙ p.1,
    retarget y b x ys p.2 d.1 (λ z m ne. forth z (inr m) ne) end (λ z m. back z (inr m)) here,
  )

  -- x goes out
  pub unlinked_path : (r x : ℕ) (us vs : List ℕ) → Path next prev r (us ++ x ∷ vs) r → Distinct (r ∷ (us ++ x ∷ vs))
      → ((y : ℕ) → (y ≡ x → ⊥) → (y ≡ prev x → ⊥) → next' y ≡ next y) → next' (prev x) ≡ next x
      → ((y : ℕ) → (y ≡ x → ⊥) → (y ≡ next x → ⊥) → prev' y ≡ prev y) → prev' (next x) ≡ prev x → Path next' prev' r (us ++ vs) r
  unlinked_path r x us [] p d forth across back under =
      let s = split_path next prev r x r us [] p in
      let out = λ (y : ℕ) (m : In y (r ∷ us)). λ (e : y ≡ x). apart y (r ∷ us) (x ∷ []) d m (inl e) in
      subst (λ l. Path next' prev' r l r) (sym (append-nil us))
      (retarget r x r us s.0 (distinct_front (r ∷ us) (x ∷ []) d) (λ y m ne. forth y (out y m) ne) (across ∙ s.1.0)
      (λ y m. back y (out y (inr m)) (λ e. d.0 (in_front r us (x ∷ []) (subst (λ z. In z us) (e ∙ s.1.0) m)))) (ap prev' (sym s.1.0) ∙ under))
  unlinked_path r x us (c ∷ cs) p d forth across back under =
      let s = split_path next prev r x r us (c ∷ cs) p in
      let out = λ (y : ℕ) (m : In y (r ∷ us)). λ (e : y ≡ x). apart y (r ∷ us) (x ∷ c ∷ cs) d m (inl e) in
      let behind = distinct_back (r ∷ us) (x ∷ c ∷ cs) d in
      join_path next' prev' r c r us cs
      (retarget r x c us s.0 (distinct_front (r ∷ us) (x ∷ c ∷ cs) d) (λ y m ne. forth y (out y m) ne) (across ∙ s.1.0)
      (λ y m. back y (out y (inr m)) (λ e. apart y (r ∷ us) (x ∷ c ∷ cs) d (inr m) (inr (inl (e ∙ s.1.0))))) (ap prev' (sym s.1.0) ∙ under))
      (frame c r cs s.1.2
      (λ y m. forth y (λ e. behind.0 (subst (λ z. In z (c ∷ cs)) e m)) (λ e. apart y (r ∷ us) (x ∷ c ∷ cs) d (subst (λ z. In z (r ∷ us)) (sym e) (last_in next prev r x us s.0)) (inr m)))
      (λ y m. back y (λ e. behind.0 (subst (λ z. In z (c ∷ cs)) e (inr m))) (λ e. behind.1.0 (subst (λ z. In z cs) (e ∙ s.1.0) m)))
      (back r (out r (inl refl)) (λ e. apart r (r ∷ us) (x ∷ c ∷ cs) d (inl refl) (inr (inl (e ∙ s.1.0))))))

  -- a path from a leads from x
  resource : (a x r : ℕ) (vs : List ℕ) → Path next prev a vs r → next' x ≡ next a → prev' (next a) ≡ x → ((y : ℕ) → In y vs → next' y ≡ next y)
      → ((y : ℕ) → (y ≡ r) ⊎ In y vs → (y ≡ next a → ⊥) → prev' y ≡ prev y) → Distinct (r ∷ vs) → Path next' prev' x vs r
  resource a x r [] p here end forth back d = (here ∙ p.0, ap prev' (sym p.0) ∙ end)
  resource a x r (v ∷ vs) p here end forth back d = (
    here ∙ p.0,
    ap prev' (sym p.0) ∙ end,
    frame v r vs p.2 forth (λ y m. back y (inr (inr m)) (λ e. d.1.0 (subst (λ z. In z vs) (e ∙ p.0) m))) (back r (inl refl) (λ e. d.0 (inl (e ∙ p.0)))),
  )

  -- x comes in between two neighbours
  pub inserted_path : (r x a b : ℕ) (us vs : List ℕ) → IsGap next prev r us vs a b → Distinct (r ∷ us ++ vs) → (In x (r ∷ us ++ vs) → ⊥)
      → ((y : ℕ) → (y ≡ x → ⊥) → (y ≡ a → ⊥) → next' y ≡ next y) → next' a ≡ x → next' x ≡ b
      → ((y : ℕ) → (y ≡ x → ⊥) → (y ≡ b → ⊥) → prev' y ≡ prev y) → prev' x ≡ a → prev' b ≡ x → Path next' prev' r (us ++ x ∷ vs) r
  inserted_path r x a b us vs gap d new forth across here back under end =
      let front = λ (y : ℕ) (m : In y (r ∷ us)). λ (e : y ≡ x). new (subst (λ z. In z (r ∷ us ++ vs)) e (in_front y (r ∷ us) vs m)) in
      let rear = λ (y : ℕ) (m : (y ≡ r) ⊎ In y vs). λ (e : y ≡ x). new (subst (λ z. In z (r ∷ us ++ vs)) e (⊎_elim (λ h. inl h) (λ k. in_back y (r ∷ us) vs k) m)) in
      join_path next' prev' r x r us vs
      (retarget r b x us gap.before (distinct_front (r ∷ us) vs d) (λ y m ne. forth y (front y m) (λ e. ne (e ∙ sym gap.back))) (ap next' gap.back ∙ across)
      (λ y m. back y (front y (inr m)) (λ e. ⊎_elim (λ h. d.0 (in_front r us vs (subst (λ z. In z us) (e ∙ h) m))) (λ k. apart y (r ∷ us) vs d (inr m) (subst (λ z. In z vs) (sym e) k)) (gap_next next prev r us vs a b gap)))
      (under ∙ sym gap.back))
      (resource a x r vs gap.behind (here ∙ sym gap.forth) (ap prev' gap.forth ∙ end)
      (λ y m. forth y (rear y (inr m)) (λ e. apart a (r ∷ us) vs d (gap_prev next prev r us vs a b gap) (subst (λ z. In z vs) e m)))
      (λ y m ne. back y (rear y m) (λ e. ne (e ∙ sym gap.forth))) (λ m. d.0 (in_back r us vs m), distinct_back (r ∷ us) vs d))
