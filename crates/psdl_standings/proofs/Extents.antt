-- Lengths one behind the other, cut at one over the limit.
use Rattle.std.proofs.Common.{◌≡◌, ℕ, zero, suc, ◌+◌, ◌%◌, ◌/◌, ◌<◌, ◌≤◌, List, get_or, refl, sym, ap, ◌∙◌, arith, inl, inr}
use mathlib.Core.Path.{fun_ext}
use Rattle.std.proofs.lemmas.Bool.{cases_lt}
use Rattle.std.proofs.lemmas.Nat.{mod_below}
use Rattle.std.proofs.Math.Nat.{mod-mod, mod-add-mod}
use Rattle.psdl_standings.specs.declared.extent.Extent.{Extent as ExtentNode}
use Rattle.psdl_standings.specs.Extents.{Extent, cut, nothing, followed, repeated, extent_view}

-- ---- what is cut

pub cut_again : (n : ℕ) → cut (cut n) ≡ cut n
cut_again n = omega arith

cut_within : (a b x : ℕ) → cut ((a + b) + x) ≡ cut (a + cut (b + x))
cut_within a b x = omega arith

cut_over : (a b x y : ℕ) → 8001 ≤ a + b → cut (cut (a + b) + x) ≡ cut (a + cut (b + y))
cut_over a b x y le = omega (arith, le)

-- a third behind two
third : (h : Extent) (at a b : ℕ) → cut (cut (a + b) + h (at + cut (a + b))) ≡ cut (a + cut (b + h ((at + a) + b)))
third h at a b = elim (cases_lt (a + b) 8001) [
  | inl lt ↦ (let whole : cut (a + b) ≡ a + b = omega (arith, lt) in
      let place : at + (a + b) ≡ (at + a) + b = omega arith in
      ap (λ (n : ℕ). cut (n + h (at + n))) whole ∙ ap (λ (p : ℕ). cut ((a + b) + h p)) place ∙ cut_within a b (h ((at + a) + b)))
  | inr le ↦ cut_over a b (h (at + cut (a + b))) (h ((at + a) + b)) le
]

pub followed-assoc : (f g h : Extent) → followed (followed f g) h ≡ followed f (followed g h)
followed-assoc f g h = fun_ext (λ at. third h at (f at) (g (at + f at)))

-- ---- so many times

repeated_cut : (f : Extent) (n at : ℕ) → cut (repeated f n at) ≡ repeated f n at
repeated_cut f zero at = refl
repeated_cut f (suc n) at = cut_again (f at + repeated f n (at + f at))

nothing_followed : (f : Extent) → ((at : ℕ) → cut (f at) ≡ f at) → followed nothing f ≡ f
nothing_followed f is_cut = fun_ext (λ at. let same : at + 0 ≡ at = omega arith in ap (λ (p : ℕ). cut (0 + f p)) same ∙ ap cut (omega arith) ∙ is_cut at)

pub repeated-add : (f : Extent) (m n : ℕ) → repeated f (m + n) ≡ followed (repeated f m) (repeated f n)
repeated-add f zero n = let same : 0 + n ≡ n = omega arith in ap (repeated f) same ∙ sym (nothing_followed (repeated f n) (repeated_cut f n))
repeated-add f (suc m) n =
    let same : suc m + n ≡ suc (m + n) = omega arith in
    ap (repeated f) same ∙ ap (followed f) (repeated-add f m n) ∙ sym (followed-assoc f (repeated f m) (repeated f n))

pub repeated_even : (f : Extent) (n : ℕ) → n % 2 ≡ 0 → followed (repeated f (n / 2)) (repeated f (n / 2)) ≡ repeated f n
repeated_even f n even = sym (repeated-add f (n / 2) (n / 2)) ∙ ap (repeated f) (omega (arith, even))

pub repeated_odd : (f : Extent) (n : ℕ) → 0 < n % 2 → followed f (followed (repeated f (n / 2)) (repeated f (n / 2))) ≡ repeated f n
repeated_odd f n odd = ap (followed f) (sym (repeated-add f (n / 2) (n / 2))) ∙ ap (repeated f) (same)
  where
    same : suc (n / 2 + n / 2) ≡ n
    same = omega (arith, odd)

-- ---- by the eight places

pub view_again : (l : ExtentNode) (at : ℕ) → extent_view l (at % 8) ≡ extent_view l at
view_again l at = ap (λ (p : ℕ). get_or l.0 p 0) (mod-mod at 8)

followed_again : (f g : ExtentNode) (at : ℕ) → followed (extent_view f) (extent_view g) (at % 8) ≡ followed (extent_view f) (extent_view g) at
followed_again f g at =
    ap (λ (n : ℕ). cut (n + extent_view g (at % 8 + n))) (view_again f at)
    ∙ ap (λ (p : ℕ). cut (extent_view f at + get_or g.0 p 0)) (mod-add-mod at 8 (extent_view f at))

pub followed_by_places : (both : List ℕ) (f g : ExtentNode) → ((k : ℕ) → k < 8 → get_or both k 0 ≡ followed (extent_view f) (extent_view g) k) → extent_view (record { 0 = both }) ≡ followed (extent_view f) (extent_view g)
followed_by_places both f g each = fun_ext (λ at. each (at % 8) (mod_below at 8 (omega arith)) ∙ followed_again f g at)
