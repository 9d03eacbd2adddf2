-- What a link answers.
use Rattle.std.proofs.Common.{ℕ, ◌≡◌, inl, inr, List, [], ◌∷◌, ◌++◌, Some, None, cond, slice_get, refl, sym, ap, ◌∙◌, subst}
use Rattle.std.proofs.lemmas.Bool.{eq-eqb}
use Rattle.link_pool.specs.Linked.{In, Distinct, Path, behind, link_to}
use Rattle.link_pool.proofs.Paths.{Split, split, split_path, not_equal, in_back}

pub first_is : (next prev : ℕ → ℕ) (a r : ℕ) (xs : List ℕ) → Path next prev a xs r → (In r xs → ⊥) → link_to r (next a) ≡ slice_get xs 0
first_is next prev a r [] p none = ap (λ b. cond b None (Some (next a))) (eq-eqb (next a) r p.0)
first_is next prev a r (x ∷ xs) p none = ap (λ b. cond b None (Some (next a))) (not_equal (next a) r (λ e. none (inl (sym e ∙ p.0)))) ∙ ap Some p.0

behind_split : (x : ℕ) (us vs : List ℕ) → Distinct (us ++ x ∷ vs) → behind x (us ++ x ∷ vs) ≡ slice_get vs 0
behind_split x [] vs d = ap (λ b. cond b (slice_get vs 0) (behind x vs)) (eq-eqb x x refl)
behind_split x (u ∷ us) vs d =
    ap (λ b. cond b (slice_get (us ++ x ∷ vs) 0) (behind x (us ++ x ∷ vs))) (not_equal u x (λ e. d.0 (in_back u us (x ∷ vs) (inl e)))) ∙ behind_split x us vs d.1

pub next_is : (next prev : ℕ → ℕ) (r x : ℕ) (xs : List ℕ) → Path next prev r xs r → Distinct (r ∷ xs) → In x xs → link_to r (next x) ≡ behind x xs
next_is next prev r x xs p d m = by (split x xs m)
  where
    by : Split x xs → link_to r (next x) ≡ behind x xs
    by s =
        let q = split_path next prev r x r s.front s.back (subst (λ l. Path next prev r l r) s.is p) in
        first_is next prev x r s.back q.1 (λ k. d.0 (subst (In r) (sym s.is) (in_back r s.front (x ∷ s.back) (inr k))))
        ∙ sym (ap (behind x) s.is ∙ behind_split x s.front s.back (subst Distinct s.is d.1))
