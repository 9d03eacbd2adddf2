-- Lists cut at one place.
use Rattle.std.proofs.Common.{ℕ, ◌≡◌, List, ◌++◌, length, take, drop, sym, ap, ◌∙◌}
use Rattle.std.proofs.Math.Seq.{take-append_seam, drop-append_seam}

-- fronts of one length
pub cut_same : {A : Type 0} (a b x y : List A) → length a ≡ length b → a ++ x ≡ b ++ y → (a ≡ b) × (x ≡ y)
cut_same a b x y len e = (
  sym (take-append_seam a x) ∙ ap (take (length a)) e ∙ ap (λ n. take n (b ++ y)) len ∙ take-append_seam b y,
  sym (drop-append_seam a x) ∙ ap (drop (length a)) e ∙ ap (λ n. drop n (b ++ y)) len ∙ drop-append_seam b y,
)

-- what is in front of the cut, and what is behind it
pub front_of : {A : Type 0} (n : ℕ) (a x : List A) → length a ≡ n → take n (a ++ x) ≡ a
front_of n a x len = ap (λ m. take m (a ++ x)) (sym len) ∙ take-append_seam a x

pub rest_of : {A : Type 0} (n : ℕ) (a x : List A) → length a ≡ n → drop n (a ++ x) ≡ x
rest_of n a x len = ap (λ m. drop m (a ++ x)) (sym len) ∙ drop-append_seam a x
