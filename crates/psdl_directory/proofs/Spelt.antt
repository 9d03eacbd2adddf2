-- Spellings that are noted.
use Rattle.std.proofs.Common.{◌≡◌, ℕ, ◌+◌, ◌<◌, List, Bool, true, false, cond, Option, Some, None, is_some, Result, Ok, Err, Ordering, refl, sym, ap, ◌∙◌, arith, if◌then◌else◌}
use Rattle.std.specs.BTreeMap.{BTreeMap, get, btree_map_len, IsUnchanged, Updates}
use Rattle.std.specs.Result.{IfOk, OnOk, OnErr}
use Rattle.std.specs.Cmp.Lexicographic.{slice_cmp}
use Rattle.std.specs.Map.{lookup, KeepsOthers}
use Rattle.std.specs.Ordering.{is_eq, nat_cmp, eq_by_cmp}
use Rattle.std.specs.Str.{bytes_eq}
use Rattle.std.specs.declared.vec.Vec.{Vec}
use Rattle.std.proofs.lemmas.Map.Text.{is_eq-slice_cmp}
use Rattle.std.proofs.lemmas.Slice.Eq.{bytes_eq-Decides}
use Rattle.psdl_directory.specs.inner.Spelt.{number_in, AreDistinct}

same_bytes : (xs ys : List ℕ) → bytes_eq xs ys ≡ true → xs ≡ ys
same_bytes xs ys h = (bytes_eq-Decides xs ys).0 h

same_order : (xs ys : List ℕ) → is_eq (slice_cmp nat_cmp xs ys) ≡ true → xs ≡ ys
same_order xs ys h = same_bytes xs ys (sym (is_eq-slice_cmp xs ys) ∙ h)

by_test : (P : Bool → Type 0) (b : Bool) → (b ≡ true → P true) → (b ≡ false → P false) → P b
by_test P true f g = f refl
by_test P false f g = g refl

module _ {Z : Type 0} (old new : BTreeMap (Vec ℕ Z) ℕ) (name : List ℕ) (v : ℕ) (here : number_in new name ≡ Some v)
    (others : KeepsOthers (eq_by_cmp (λ x y. slice_cmp nat_cmp x.items y.items)) (λ k. is_eq (slice_cmp nat_cmp name k.items)) old.entries new.entries) where
  -- one spelling is entered
  pub noted : (q : List ℕ) → number_in new q ≡ cond (bytes_eq q name) (Some v) (number_in old q)
  unfolding KeepsOthers
  noted q =
      by_test (λ b. bytes_eq q name ≡ b → number_in new q ≡ cond b (Some v) (number_in old q)) (bytes_eq q name)
      (λ e same. ap (λ (l : List ℕ). number_in new l) (same_bytes q name same) ∙ here)
      (λ e apart. others (λ k. is_eq (slice_cmp nat_cmp q k.items)) (λ x y at. ap (λ (l : List ℕ). is_eq (slice_cmp nat_cmp l y.items)) (same_order q x.items at))
      (λ k at. is_eq-slice_cmp q k.items ∙ ap (bytes_eq q) (sym (same_order name k.items at)) ∙ apart))
      refl

  pub kept : number_in old name ≡ None → (q : List ℕ) (n : ℕ) → number_in old q ≡ Some n → number_in new q ≡ Some n
  kept absent q n is =
      noted q ∙ by_test (λ b. bytes_eq q name ≡ b → cond b (Some v) (number_in old q) ≡ Some n) (bytes_eq q name)
      (λ e same. let both : None ≡ Some n = sym absent ∙ ap (λ (l : List ℕ). number_in old l) (sym (same_bytes q name same)) ∙ is in absurd (cc))
      (λ e apart. is)
      refl

  -- what a spelling has: the new number, or the one that it had
  at_each : (q : List ℕ) (n : ℕ) (P : Type 0) → number_in new q ≡ Some n → (q ≡ name → n ≡ v → P) → (number_in old q ≡ Some n → P) → P
  at_each q n P is f g =
      by_test (λ b. bytes_eq q name ≡ b → cond b (Some v) (number_in old q) ≡ Some n → P) (bytes_eq q name) (λ e same h. f (same_bytes q name same) (cc)) (λ e apart h. g h) refl (sym (noted q) ∙ is)

  pub distinct : AreDistinct old → v ≡ btree_map_len old → btree_map_len new ≡ btree_map_len old + 1 → AreDistinct new
  distinct was next longer = record {
    below = λ q n is. at_each q n (n < btree_map_len new) is (λ _ e. omega (arith, e, next, longer)) (λ h. omega (arith, was.below q n h, longer));
    one = λ q r n is also. at_each q n (q ≡ r) is
        (λ e k. at_each r n (q ≡ r) also (λ f l. e ∙ sym f) (λ h. absurd (omega (arith, was.below r n h, k, next))))
        (λ h. at_each r n (q ≡ r) also (λ f l. absurd (omega (arith, was.below q n h, l, next))) (λ g. was.one q r n h g));
  }

pub unchanged : {Z : Type 0} (old new : BTreeMap (Vec ℕ Z) ℕ) → IsUnchanged old new → AreDistinct old → AreDistinct new
unchanged {Z} old new same was =
    let is : (q : List ℕ) → number_in old q ≡ number_in new q = λ q. ap (λ (es : List (Vec ℕ Z × ℕ)). lookup (λ k. is_eq (slice_cmp nat_cmp q k.items)) es) (sym same) in
    let len : btree_map_len new ≡ btree_map_len old = rw same refl in
    record {
      below = λ q n e. omega (arith, was.below q n (is q ∙ e), len);
      one = λ q r n e f. was.one q r n (is q ∙ e) (is r ∙ f);
    }

abbrev by_items : {Z : Type 0} → Vec ℕ Z → Vec ℕ Z → Ordering
by_items x y = slice_cmp nat_cmp x.items y.items

-- whatever an insertion answers
pub distinct_after : {Z E : Type 0} (old new : BTreeMap (Vec ℕ Z) ℕ) (key : Vec ℕ Z) (v : ℕ) (r : Result (Option ℕ) E) → number_in old key.items ≡ None → v ≡ btree_map_len old → OnOk r (Updates by_items old new key (Some v))
    → IfOk r (λ o. o ≡ get by_items old key) → IfOk r (λ o. btree_map_len new ≡ btree_map_len old + (if is_some o then 0 else 1)) → OnErr r (IsUnchanged old new) → AreDistinct old → AreDistinct new
distinct_after {Z} {E} old new key v (Ok o) absent next updates was longer err before =
    let none : o ≡ None = was ∙ absent in
    distinct old new key.items v updates.1 updates.3 before next (longer ∙ ap (λ (p : Option ℕ). btree_map_len old + (if is_some p then 0 else 1)) none)
distinct_after {Z} {E} old new key v (Err e) absent next updates was longer err before = unchanged old new err before
