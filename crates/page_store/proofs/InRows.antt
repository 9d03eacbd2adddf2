-- The objects of a page whose serials stand in a row.
use Rattle.std.proofs.Common.{ℕ, zero, suc, ◌≡◌, ◌==◌, ◌+◌, ◌||◌, ◌∙◌, Bool, true, false, cond, List, [], ◌∷◌, length, refl, sym, ap, arith}
use Rattle.page_format.specs.Packing.{AreInARow}
use Rattle.page_format.specs.Pages.{Entry}
use Rattle.page_store.specs.Placed.{is_object}
use Rattle.page_store.specs.inner.Rows.{is_in_row}

or_joined : (a b c : Bool) → (a || (b || c)) ≡ ((a || b) || c)
or_joined true b c = refl
or_joined false b c = refl

or_none : (b : Bool) → (b || false) ≡ b
or_none true = refl
or_none false = refl

row_more : (first count q : ℕ) → is_in_row first (suc count) q ≡ (is_in_row first count q || ((first + count) == q))
row_more first zero q = or_none (first == q) ∙ ap (λ (n : ℕ). n == q) (let h : first ≡ first + 0 = omega arith in h)
row_more first (suc count) q =
    ap (λ b. (first == q) || b) (row_more (suc first) count q) ∙ or_joined (first == q) (is_in_row (suc first) count q) ((suc first + count) == q)
    ∙ ap (λ (n : ℕ). is_in_row first (suc count) q || (n == q)) (let h : suc first + count ≡ first + suc count = omega arith in h)

put_both : {X : Type 0} (b c : Bool) (x o : X) → cond c x (cond b x o) ≡ cond (b || c) x o
put_both true true x o = refl
put_both true false x o = refl
put_both false c x o = refl

-- one more object was put into the page
pub row_put : {X : Type 0} (first count q : ℕ) (x o : X) → cond ((first + count) == q) x (cond (is_in_row first count q) x o) ≡ cond (is_in_row first (suc count) q) x o
row_put first count q x o = put_both (is_in_row first count q) ((first + count) == q) x o ∙ ap (λ b. cond b x o) (sym (row_more first count q))

pub row_objects : (first q : ℕ) (es : List Entry) → AreInARow first es → is_object q es ≡ is_in_row first (length es) q
row_objects first q [] are = refl
row_objects first q (e ∷ es) are = ap (λ (n : ℕ). (n == q) || is_object q es) are.0 ∙ ap (λ b. (first == q) || b) (row_objects (suc first) q es are.1)
