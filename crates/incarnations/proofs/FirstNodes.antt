-- Lists of which the first so many pass a test, and no others.
use Rattle.std.proofs.Common.{ℕ, zero, suc, ◌≡◌, ◌+◌, ◌<◌, ◌⊎◌, inl, inr, ⊎_elim, get_or, List, [], ◌∷◌, ◌++◌, length, Bool, true, false, refl, sym, ap, ◌∙◌, subst, arith}
use Rattle.std.specs.Prelude.{Contains}
use Rattle.incarnations.specs.Stock.{AreFirst}

pub Contains-cons : {X : Type 0} (head x : X) (rest : List X) → Contains rest x → Contains (head ∷ rest) x
Contains-cons head x rest m = (suc m.0, omega (arith, m.1), m.2)

pub Contains-cons_cases : {X : Type 0} (head x : X) (rest : List X) → Contains (head ∷ rest) x → (head ≡ x) ⊎ Contains rest x
Contains-cons_cases {X} head x rest m = by m.0 m.1 m.2
  where
    by : (k : ℕ) → k < suc (length rest) → get_or (head ∷ rest) k x ≡ x → (head ≡ x) ⊎ Contains rest x
    by zero within found = inl found
    by (suc k) within found = inr (k, omega arith, found)

unlike : {A : Type 0} {b : Bool} → b ≡ true → b ≡ false → A
unlike p q = absurd (cc)

-- ---- what such a list has

-- of which the others are the rest
pub record IsParted {X : Type 0} (test : X → Bool) (n : ℕ) (xs : List X) : Type 0 where
  pub front : List X
  pub back : List X
  pub is : xs ≡ front ++ back
  pub size : length front ≡ n
  pub none : (x : X) → Contains back x → test x ≡ false

module _ {X : Type 0} (test : X → Bool) where
  none_pass : (xs : List X) → AreFirst test zero xs → (x : X) → Contains xs x → test x ≡ false
  none_pass [] h x m = absurd (omega (arith, m.1))
  none_pass (y ∷ ys) h x m = ⊎_elim (λ e. ap test (sym e) ∙ h.0) (λ k. none_pass ys h.1 x k) (Contains-cons_cases y x ys m)

  pub parted : (n : ℕ) (xs : List X) → AreFirst test n xs → IsParted test n xs
  parted zero xs h = record { front = []; back = xs; is = refl; size = refl; none = none_pass xs h }
  parted (suc n) [] h = absurd h
  parted (suc n) (x ∷ xs) h = let p = parted n xs h.1 in record { front = x ∷ p.front; back = p.back; is = ap (λ l. x ∷ l) p.is; size = omega (arith, p.size); none = p.none }

  -- one of them passes
  pub first_some : (us vs : List X) (n : ℕ) (x : X) → test x ≡ true → AreFirst test n (us ++ x ∷ vs) → 0 < n
  first_some [] vs zero x is h = unlike is h.0
  first_some (u ∷ us) vs zero x is h = first_some us vs zero x is h.1
  first_some us vs (suc n) x is h = omega arith

  -- one of them does not
  pub first_fewer : (us vs : List X) (n : ℕ) (x : X) → test x ≡ false → AreFirst test n (us ++ x ∷ vs) → n < length (us ++ x ∷ vs)
  first_fewer us vs zero x is h = some us
    where
      some : (l : List X) → 0 < length (l ++ x ∷ vs)
      some [] = omega arith
      some (y ∷ ys) = omega arith
  first_fewer [] vs (suc n) x is h = unlike h.0 is
  first_fewer (u ∷ us) vs (suc n) x is h = omega (arith, first_fewer us vs n x is h.1)

  -- ---- one comes

  pub first_behind : (n : ℕ) (xs : List X) (x : X) → test x ≡ false → AreFirst test n xs → AreFirst test n (xs ++ x ∷ [])
  first_behind zero [] x is h = (is, h)
  first_behind (suc n) [] x is h = absurd h
  first_behind zero (y ∷ ys) x is h = (h.0, first_behind zero ys x is h.1)
  first_behind (suc n) (y ∷ ys) x is h = (h.0, first_behind n ys x is h.1)

  pub first_before : (n : ℕ) (xs : List X) (x : X) → test x ≡ true → AreFirst test n xs → AreFirst test (n + 1) (x ∷ xs)
  first_before n xs x is h = let more : suc n ≡ n + 1 = omega arith in subst (λ k. AreFirst test k (x ∷ xs)) more (is, h)

  -- ---- one goes

  pub first_out : (us vs : List X) (n : ℕ) (x : X) → test x ≡ true → AreFirst test (suc n) (us ++ x ∷ vs) → AreFirst test n (us ++ vs)
  first_out [] vs n x is h = h.1
  first_out (u ∷ us) vs zero x is h = absurd (omega (arith, first_some us vs zero x is h.1))
  first_out (u ∷ us) vs (suc n) x is h = (h.0, first_out us vs n x is h.1)

  pub others_out : (us vs : List X) (n : ℕ) (x : X) → test x ≡ false → AreFirst test n (us ++ x ∷ vs) → AreFirst test n (us ++ vs)
  others_out [] vs zero x is h = h.1
  others_out [] vs (suc n) x is h = unlike h.0 is
  others_out (u ∷ us) vs zero x is h = (h.0, others_out us vs zero x is h.1)
  others_out (u ∷ us) vs (suc n) x is h = (h.0, others_out us vs n x is h.1)

-- another test, alike on what the list has
pub first_alike : {X : Type 0} (f g : X → Bool) (n : ℕ) (xs : List X) → ((x : X) → Contains xs x → g x ≡ f x) → AreFirst f n xs → AreFirst g n xs
first_alike f g zero [] same h = h
first_alike f g (suc n) [] same h = absurd h
first_alike f g zero (x ∷ xs) same h = (same x (0, omega arith, refl) ∙ h.0, first_alike f g zero xs (λ y m. same y (Contains-cons x y xs m)) h.1)
first_alike f g (suc n) (x ∷ xs) same h = (same x (0, omega arith, refl) ∙ h.0, first_alike f g n xs (λ y m. same y (Contains-cons x y xs m)) h.1)
