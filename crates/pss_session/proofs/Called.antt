-- Names, of which it is known when two are one.
use Rattle.std.proofs.Common.{ℕ, ◌≡◌, List, Option, Bool, true, false, cond, refl, sym, ap, ◌∙◌}
use Rattle.std.specs.Str.{bytes_eq}
use Rattle.std.specs.Map.{KeepsOthers}
use Rattle.std.proofs.lemmas.Slice.Eq.{bytes_eq-Decides}
use Rattle.std.specs.declared.vec.Vec.{Vec}
use Rattle.pss_base.specs.declared.session.SessionNo.{SessionNo}
use Rattle.pss_session.specs.inner.Names.{number_at, Turns}

pub same_bytes : (xs ys : List ℕ) → bytes_eq xs ys ≡ true → xs ≡ ys
same_bytes xs ys h = (bytes_eq-Decides xs ys).0 h

pub bytes_same : (xs : List ℕ) → bytes_eq xs xs ≡ true
bytes_same xs = (bytes_eq-Decides xs xs).1 refl

pub by_test : (P : Bool → Type 0) (b : Bool) → (b ≡ true → P true) → (b ≡ false → P false) → P b
by_test P true f g = f refl
by_test P false f g = g refl

module _ {Z : Type 0} where
  pub turned : (name : List ℕ) (old new : List (Vec ℕ Z × SessionNo)) (n : Option SessionNo) → number_at new name ≡ n → KeepsOthers (λ x y. bytes_eq x.items y.items) (λ k. bytes_eq name k.items) old new → Turns old new name n
  unfolding KeepsOthers
  turned name old new n here others q =
      by_test (λ b. bytes_eq q name ≡ b → number_at new q ≡ cond b n (number_at old q)) (bytes_eq q name)
      (λ e same. ap (λ (l : List ℕ). number_at new l) (same_bytes q name same) ∙ here)
      (λ e apart. others (λ k. bytes_eq q k.items) (λ x y at. ap (λ (l : List ℕ). bytes_eq l y.items) (same_bytes q x.items at)) (λ k at. ap (bytes_eq q) (sym (same_bytes name k.items at)) ∙ apart))
      refl
