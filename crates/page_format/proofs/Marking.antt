-- Flags of slots are set and read.
use Rattle.std.proofs.Common.{ℕ, zero, suc, ◌≡◌, ⊎_elim, ◌+◌, ◌<◌, ◌≤◌, ◌||◌, Bool, true, false, cond, List, [], ◌∷◌, ◌++◌, length, get_or, set, take, drop, refl, sym, ap, ◌∙◌, subst, arith, length-append}
use Rattle.std.proofs.lemmas.Bool.{cases_eq, cases_lt, true≢false}
use Rattle.std.proofs.Math.Seq.{take-append_seam}
use Rattle.std.proofs.lemmas.List.Sums.{count_by_more_no, count_by_more_yes, sum_by-set}
use Rattle.page_format.specs.Packing.{AreLeastFree, is_among}
use Rattle.page_format.specs.inner.Freeing.{AreLeastUnmarked, AreUnmarkedBelow}
use Rattle.page_format.specs.inner.Marks.{count_marked}

pub one_marked : (marks : List Bool) (i : ℕ) → i < length marks → count_marked (set marks i true) ≤ count_marked marks + 1
one_marked marks i lt = let h = sum_by-set (λ (b : Bool). cond b 1 0) marks i true false lt in omega arith

pub none_marked : (marks : List Bool) → ((k : ℕ) → get_or marks k false ≡ false) → count_marked marks ≡ 0
none_marked [] none = refl
none_marked (true ∷ marks) none = absurd (true≢false (none 0))
none_marked (false ∷ marks) none = none_marked marks (λ k. none (suc k))

module _ (marks : List Bool) (s : ℕ) (free : List ℕ) (so_far : AreUnmarkedBelow marks s free) (lt : s < length marks) where
  -- the next slot is marked
  pub marked_next : get_or marks s false ≡ true → AreUnmarkedBelow marks (s + 1) free
  marked_next is = record {
    count_ = let h = count_by_more_yes (λ flag. flag) marks s false lt is in omega (arith, so_far.count_);
    below = λ k few. let h = so_far.below k few in omega arith;
    unmarked = so_far.unmarked;
    rising = so_far.rising;
    all = λ q less none. ⊎_elim (λ same. absurd (true≢false (sym is ∙ ap (λ i. get_or marks i false) (sym same) ∙ none))) (λ other. so_far.all q (omega (arith, less, other)) none) (cases_eq q s);
  }

  at_end : (k : ℕ) → k ≡ length free → get_or (free ++ s ∷ []) k 0 ≡ s
  at_end k e = ap (λ j. get_or (free ++ s ∷ []) j 0) e ∙ last free
    where
      last : (l : List ℕ) → get_or (l ++ s ∷ []) (length l) 0 ≡ s
      last [] = refl
      last (x ∷ l) = last l

  before_end : (k : ℕ) → k < length free → get_or (free ++ s ∷ []) k 0 ≡ get_or free k 0
  before_end k few = front free k few
    where
      front : (l : List ℕ) (k : ℕ) → k < length l → get_or (l ++ s ∷ []) k 0 ≡ get_or l k 0
      front [] k none = absurd (omega (arith, none))
      front (x ∷ l) zero some = refl
      front (x ∷ l) (suc k) some = front l k (omega (arith, some))

  longer : length (free ++ s ∷ []) ≡ length free + 1
  longer = length-append free (s ∷ [])

  each : (P : ℕ → Type 0) → ((k : ℕ) → k < length free → P (get_or free k 0)) → P s → (k : ℕ) → k < length (free ++ s ∷ []) → P (get_or (free ++ s ∷ []) k 0)
  each P old here k few = ⊎_elim (λ less. subst P (sym (before_end k less)) (old k less)) (λ more. subst P (sym (at_end k (omega (arith, few, more, longer)))) here) (cases_lt k (length free))

  -- the next slot is not
  pub unmarked_next : get_or marks s false ≡ false → AreUnmarkedBelow marks (s + 1) (free ++ s ∷ [])
  unmarked_next is = record {
    count_ = let h = count_by_more_no (λ flag. flag) marks s false lt is in omega (arith, so_far.count_, longer);
    below = each (λ f. f < s + 1) (λ k few. let h = so_far.below k few in omega arith) (omega arith);
    unmarked = each (λ f. get_or marks f false ≡ false) so_far.unmarked is;
    rising = λ j k less few.
        let j_few : j < length free = omega (arith, few, less, longer) in
        subst (λ (n : ℕ). n < get_or (free ++ s ∷ []) k 0) (sym (before_end j j_few))
        (⊎_elim (λ k_few. subst (λ (n : ℕ). get_or free j 0 < n) (sym (before_end k k_few)) (so_far.rising j k less k_few))
        (λ more. subst (λ (n : ℕ). get_or free j 0 < n) (sym (at_end k (omega (arith, few, more, longer)))) (so_far.below j j_few)) (cases_lt k (length free)));
    all = λ q less none. ⊎_elim {A = q ≡ s} {B = q ≡ s → ⊥} {C = (j : ℕ) × (j < length (free ++ s ∷ [])) × (get_or (free ++ s ∷ []) j 0 ≡ q)}
        (λ same. (length free, omega (arith, longer), at_end (length free) refl ∙ sym same))
        (λ other. let old = so_far.all q (omega (arith, less, other)) none in (old.0, omega (arith, old.1, longer), before_end old.0 old.1 ∙ old.2)) (cases_eq q s);
  }

none_of : (a b c : Bool) → c ≡ (a || b) → b ≡ false → c ≡ false → a ≡ false
none_of true b c e f g = sym e ∙ g
none_of false b c e f g = refl

unset : (a b c : Bool) → c ≡ (a || b) → b ≡ false → a ≡ false → c ≡ false
unset true b c e f g = absurd (true≢false g)
unset false b c e f g = e ∙ f

pub least_free : (slots : List ℕ) (marks none : List Bool) (count : ℕ) (free : List ℕ) → ((s : ℕ) → s < 16384 → get_or marks s false ≡ (is_among s slots || get_or none s false)) → ((s : ℕ) → get_or none s false ≡ false) → AreLeastUnmarked marks count free → AreLeastFree slots count free
least_free slots marks none count free marked unset_ is = record {
  count_ = is.count_;
  below = is.below;
  none = λ k lt. let s = get_or free k 0 in none_of (is_among s slots) (get_or none s false) (get_or marks s false) (marked s (is.below k lt)) (unset_ s) (is.unmarked k lt);
  rising = is.rising;
  least = λ s k free_ lt less. is.least s k (unset (is_among s slots) (get_or none s false) (get_or marks s false) (marked s (let h = is.below k lt in omega arith)) (unset_ s) free_) lt less;
}

-- a slice that was lent and is back
pub given_back : (n : ℕ) (new old : List Bool) → n ≡ length new → take n (new ++ old) ≡ new
given_back n new old e = ap (λ k. take k (new ++ old)) e ∙ take-append_seam new old

or_none : (a b c : Bool) → c ≡ (a || b) → b ≡ false → c ≡ a
or_none true b c e f = e
or_none false b c e f = e ∙ f

-- the flags that were set where none was
pub marked_as : (p : ℕ → Bool) (marks new before items : List Bool) → marks ≡ new → ((s : ℕ) → s < 16384 → get_or new s false ≡ (p s || get_or before s false)) → before ≡ items → ((s : ℕ) → get_or items s false ≡ false) → (s : ℕ) → s < 16384 → get_or marks s false ≡ p s
marked_as p marks new before items same is from none s lt =
    ap (λ (l : List Bool). get_or l s false) same ∙ or_none (p s) (get_or before s false) (get_or new s false) (is s lt) (ap (λ (l : List Bool). get_or l s false) from ∙ none s)

-- a slice that was lent is what it was made
pub lent_back : (len : ℕ) (items before new after : List Bool) → before ≡ items → length before ≡ len → length items ≡ 16384 → length new ≡ 16384 → after ≡ take len (new ++ drop (length new) items) → after ≡ new
lent_back len items before new after from long all new_all is = is ∙ given_back len new (drop (length new) items) (let e = ap length from in omega arith)
