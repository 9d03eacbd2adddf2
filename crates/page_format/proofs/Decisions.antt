-- What is decided: it holds, or it does not.
use Rattle.std.proofs.Common.{ℕ, zero, suc, ◌≡◌, ◌⊎◌, inl, inr, ⊎_elim, ◌<◌, ◌≤◌, List, Bool, true, false, refl, sym, ◌∙◌, subst, arith}
use Rattle.std.proofs.lemmas.Bool.{cases_lt, true≢false}
use Rattle.std.proofs.lemmas.Slice.Eq.{bytes_eq-Decides}
use Rattle.std.specs.Str.{bytes_eq}
use Rattle.pss_disk.specs.Octets.{octets_in, range_of}
use Rattle.pss_disk.specs.Parts.{Stands}

abbrev pub IsDecided : Type 0 → Type 0
IsDecided P = P ⊎ (P → ⊥)

pub one_of : (P Q : Type 0) → IsDecided P → IsDecided Q → IsDecided (P ⊎ Q)
one_of P Q (inl p) q = inl (inl p)
one_of P Q (inr never) (inl q) = inl (inr q)
one_of P Q (inr never) (inr nor) = inr (λ either. ⊎_elim never nor either)

pub both_of : (P Q : Type 0) → IsDecided P → IsDecided Q → IsDecided (P × Q)
both_of P Q (inl p) (inl q) = inl (p, q)
both_of P Q (inl p) (inr never) = inr (λ both. never both.1)
both_of P Q (inr never) q = inr (λ both. never both.0)

pub most_decided : (m n : ℕ) → IsDecided (m ≤ n)
most_decided m n = ⊎_elim (λ more. inr (λ le. omega (arith, more, le))) (λ le. inl le) (cases_lt n m)

pub less_decided : (m n : ℕ) → IsDecided (m < n)
less_decided m n = ⊎_elim (λ lt. inl lt) (λ le. inr (λ lt. omega (arith, le, lt))) (cases_lt m n)

pub stands_decided : (image : List ℕ) (at : ℕ) (octets : List ℕ) → IsDecided (Stands image at octets)
stands_decided image at octets = by (bytes_eq (octets_in (range_of at octets) image) octets) refl
  where
    by : (b : Bool) → bytes_eq (octets_in (range_of at octets) image) octets ≡ b → IsDecided (Stands image at octets)
    by true e = inl ((bytes_eq-Decides (octets_in (range_of at octets) image) octets).0 e)
    by false e = inr (λ h. absurd (true≢false (sym ((bytes_eq-Decides (octets_in (range_of at octets) image) octets).1 h) ∙ e)))

-- the least number that has P
pub record IsLeast (P : ℕ → Type 0) (n : ℕ) : Type 0 where
  pub has : P n
  pub least : (k : ℕ) → k < n → P k → ⊥

module _ (P : ℕ → Type 0) (decided : (k : ℕ) → IsDecided (P k)) where
  -- below a bound there is a least number that has P, or none has it
  pub least_below : (n : ℕ) → ((k : ℕ) × (k < n) × IsLeast P k) ⊎ ((k : ℕ) → k < n → P k → ⊥)
  least_below zero = inr (λ k lt p. omega (arith, lt))
  least_below (suc n) = ⊎_elim (λ found. inl (found.0, omega (arith, found.1), found.2)) (λ none. ⊎_elim (λ p. inl (n, omega arith, record { has = p; least = none })) (λ never. inr (λ k lt p. ⊎_elim (λ less. none k less p) (λ more. never (subst P (let e : k ≡ n = omega (arith, lt, more) in e) p)) (cases_lt k n))) (decided n)) (least_below n)

  pub some_below : (n : ℕ) → IsDecided ((k : ℕ) × (k < n) × P k)
  some_below n = ⊎_elim (λ found. inl (found.0, found.1, found.2.has)) (λ none. inr (λ some. none some.0 some.1 some.2)) (least_below n)
