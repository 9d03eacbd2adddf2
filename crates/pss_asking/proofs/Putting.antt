-- Values that are put one by one into the places of members.
use Rattle.std.proofs.Common.{◌≡◌, ℕ, zero, suc, ◌<◌, List, [], ◌∷◌, length, drop, Option, Some, None, refl, sym, ap, ◌∙◌, subst, arith}
use Rattle.std.specs.Prelude.{slice_index_or}
use Rattle.std.specs.List.{slice_get}
use Rattle.type_layout.specs.Schemas.{given}
use Rattle.type_layout.specs.Types.{PlainValue}
use Rattle.pss_machine.specs.Values.{with_values}
use Rattle.pss_asking.specs.Given.{put_in}

-- the first so many of the given values are put, and the rest of them is untouched
pub record ArePut (numbers : List ℕ) (given values : List PlainValue) (at : ℕ) (left now : List PlainValue) : Type 0 where
  pub left_is : drop at left ≡ drop at given
  pub will_be : with_values (drop at numbers) (drop at given) now ≡ with_values numbers given values

drop_front : {A : Type 0} (xs : List A) (i : ℕ) (d : A) → i < length xs → drop i xs ≡ slice_index_or xs i d ∷ drop (suc i) xs
drop_front [] i d lt = absurd (omega (arith, lt))
drop_front (x ∷ xs) zero d lt = refl
drop_front (x ∷ xs) (suc i) d lt = drop_front xs i d (omega (arith, lt))

drop_next : {A : Type 0} (xs ys : List A) (i : ℕ) → drop i xs ≡ drop i ys → drop (suc i) xs ≡ drop (suc i) ys
drop_next xs ys i e = sym (more xs i) ∙ ap (drop 1) e ∙ more ys i
  where
    more : {A : Type 0} (xs : List A) (i : ℕ) → drop 1 (drop i xs) ≡ drop (suc i) xs
    more [] zero = refl
    more [] (suc i) = refl
    more (x ∷ xs) zero = refl
    more (x ∷ xs) (suc i) = more xs i

same_first : {A : Type 0} (xs ys : List A) (i : ℕ) → drop i xs ≡ drop i ys → slice_get xs i ≡ slice_get ys i
same_first xs ys i e = sym (first xs i) ∙ ap (λ l. slice_get l 0) e ∙ first ys i
  where
    first : {A : Type 0} (xs : List A) (i : ℕ) → slice_get (drop i xs) 0 ≡ slice_get xs i
    first [] zero = refl
    first [] (suc i) = refl
    first (x ∷ xs) zero = refl
    first (x ∷ xs) (suc i) = first xs i

-- what is given from a place on
from_place : {A : Type 0} (xs : List A) (i : ℕ) → (drop i xs ≡ given (slice_get xs i) [] (λ x. x ∷ drop (suc i) xs)) × (slice_get xs i ≡ None → drop (suc i) xs ≡ [])
from_place [] zero = (refl, λ e. refl)
from_place [] (suc i) = (refl, λ e. refl)
from_place (x ∷ xs) zero = (refl, λ e. absurd cc)
from_place (x ∷ xs) (suc i) = from_place xs i

with_none : (is : List ℕ) (values : List PlainValue) → with_values is [] values ≡ values
with_none [] values = refl
with_none (i ∷ is) values = refl

-- one more is put
pub one_put : (numbers : List ℕ) (all values : List PlainValue) (at k n : ℕ) (left now later new : List PlainValue) → k ≡ suc at → at < length numbers → n ≡ slice_index_or numbers at 0
    → new ≡ put_in now n (slice_get left at) → drop k later ≡ drop k left → ArePut numbers all values at left now → ArePut numbers all values k later new
one_put numbers all values at k n left now later new next lt is put rest before = subst (λ k. ArePut numbers all values k later new) (sym next) (record {
  left_is = ap (λ k. drop k later) (sym next) ∙ rest ∙ ap (λ k. drop k left) next ∙ drop_next left all at before.left_is;
  will_be = ap (with_values (drop (suc at) numbers) (drop (suc at) all)) (put ∙ ap (put_in now n) (same_first left all at before.left_is)) ∙ by (slice_get all at) refl ∙ before.will_be;
})
  where
    front : drop at numbers ≡ n ∷ drop (suc at) numbers
    front = drop_front numbers at 0 lt ∙ ap (λ m. m ∷ drop (suc at) numbers) (sym is)

    by : (o : Option PlainValue) → slice_get all at ≡ o → with_values (drop (suc at) numbers) (drop (suc at) all) (put_in now n o) ≡ with_values (drop at numbers) (drop at all) now
    by None e =
        let end : drop (suc at) all ≡ [] = (from_place all at).1 e in
        let here : drop at all ≡ [] = (from_place all at).0 ∙ ap (λ q. given q [] (λ x. x ∷ drop (suc at) all)) e in
        ap (λ l. with_values (drop (suc at) numbers) l now) end ∙ with_none (drop (suc at) numbers) now ∙ sym (with_none (drop at numbers) now) ∙ ap (λ l. with_values (drop at numbers) l now) (sym here)
    by (Some v) e =
        let here : drop at all ≡ v ∷ drop (suc at) all = (from_place all at).0 ∙ ap (λ q. given q [] (λ x. x ∷ drop (suc at) all)) e in
        sym (ap (λ l. with_values l (v ∷ drop (suc at) all) now) front) ∙ ap (λ l. with_values (drop at numbers) l now) (sym here)
