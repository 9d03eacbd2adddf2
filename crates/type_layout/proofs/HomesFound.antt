-- A home among homes whose numbers rise.
use Rattle.std.proofs.Common.{ℕ, suc, ◌-◌, ◌≡◌, ◌<◌, ◌≤◌, List, [], ◌∷◌, length, get_or, Some, Bool, true, false, refl, sym, ap, ◌∙◌, ◌||◌, ◌==◌, arith, ⊎_elim, nat_lt}
use Rattle.std.specs.List.{list_any, slice_get}
use Rattle.std.specs.List.Sorted.{IsNonDecreasingBy, IsPartitionPoint}
use Rattle.std.proofs.lemmas.Bool.{cases_Bool, cases_lt, eq-eqb, eqb-true, ltb-true, ltb-false}
use Rattle.std.proofs.lemmas.List.Folds.{list_any_at}
use Rattle.std.proofs.lemmas.Option.{slice_get-get_or}
use Rattle.type_layout.specs.declared.home.HomeNo.{HomeNo}
use Rattle.type_layout.specs.Values.{lists}

none_passes : {X : Type 0} (p : X → Bool) (d : X) (xs : List X) → ((k : ℕ) → k < length xs → p (get_or xs k d) ≡ false) → list_any p xs ≡ false
none_passes p d [] none = refl
none_passes p d (x ∷ xs) none = ap (λ b. b || list_any p xs) (none 0 (omega arith)) ∙ none_passes p d xs (λ k lt. none (suc k) (omega (arith, lt)))

apart : (x n : ℕ) → (x ≡ n → ⊥) → (x == n) ≡ false
apart x n other = ⊎_elim (λ t. absurd (other (eqb-true x n t))) (λ f. f) (cases_Bool (x == n))

nobody : HomeNo
nobody = record { 0 = 0 }

module _ (homes : List HomeNo) (number place : ℕ) (point : IsPartitionPoint (λ h. nat_lt h.0 number ≡ true) (λ h. nat_lt h.0 number ≡ false) homes place) where
  in_front : (k : ℕ) (d : HomeNo) → k < place → ((get_or homes k d).0 == number) ≡ false
  in_front k d lt = apart (get_or homes k d).0 number (λ e. absurd (omega (arith, e, ltb-true (get_or homes k d).0 number (point.0 k d (omega arith) lt))))

  pub none_there : false ≡ nat_lt place (length homes) → false ≡ lists homes number
  none_there past = sym (none_passes (λ h. h.0 == number) nobody homes (λ k lt. in_front k nobody (omega (arith, lt, ltb-false place (length homes) (sym past)))))

  pub one_there : IsNonDecreasingBy (λ h. h.0) homes → (h : HomeNo) → true ≡ nat_lt place (length homes) → h ≡ get_or homes place h → (h.0 == number) ≡ lists homes number
  one_there rise h there is = by (h.0 == number) refl
    where
      within : place < length homes
      within = ltb-true place (length homes) (sym there)

      least : nat_lt h.0 number ≡ false
      least = ap (λ x. nat_lt x.0 number) is ∙ point.1 place h (omega arith) within

      behind : (h.0 == number) ≡ false → (k : ℕ) → k < length homes → place ≤ k → ((get_or homes k h).0 == number) ≡ false
      behind e k lt le =
          apart (get_or homes k h).0 number (λ same. absurd (cc (e, eq-eqb h.0 number (omega (arith, same, ltb-false h.0 number least, ap (λ (x : HomeNo). x.0) is, rise place k h le lt)))))

      by : (b : Bool) → (h.0 == number) ≡ b → b ≡ lists homes number
      by true e = sym (list_any_at (λ x. x.0 == number) homes place h within (ap (λ x. x.0 == number) (sym is) ∙ e))
      by false e = sym (none_passes (λ x. x.0 == number) h homes (λ k lt. ⊎_elim (in_front k h) (behind e k lt) (cases_lt k place)))

-- where the last has at most this number, it may be put behind
pub last_is_at_most : (homes : List HomeNo) (last home d : HomeNo) → Some last ≡ slice_get homes (length homes - 1) → last.0 ≤ home.0 → 0 < length homes → (get_or homes (length homes - 1) d).0 ≤ home.0
last_is_at_most homes last home d at le some =
    let both : Some last ≡ Some (get_or homes (length homes - 1) d) = at ∙ slice_get-get_or homes (length homes - 1) d (omega (arith, some)) in
    let same : last ≡ get_or homes (length homes - 1) d = cc in
    omega (arith, le, ap (λ (h : HomeNo). h.0) same)
