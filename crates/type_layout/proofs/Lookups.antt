-- What `get` found, in the list of what the items stand for.
use Rattle.std.proofs.Common.{ℕ, zero, suc, ◌≡◌, ◌+◌, ◌<◌, ◌≤◌, List, [], ◌∷◌, length, map, drop, get_or, Some, None, false, refl, sym, ap, ◌∙◌, arith}
use Rattle.std.specs.List.{slice_get}
use Rattle.std.specs.Option.{option_map}
use Rattle.std.specs.Prelude.{nat_lt}
use Rattle.std.proofs.lemmas.Bool.Decides.{nat_tests}
use Rattle.std.proofs.lemmas.List.{drop_more}
use Rattle.std.proofs.lemmas.Option.{slice_get-map, slice_get_read, slice_get-get_or, slice_get_within}

pub got : {A : Type 0} (xs : List A) (i : ℕ) (x : A) → i < length xs → x ≡ get_or xs i x → slice_get xs i ≡ Some x
got xs i x lt is = slice_get_read xs (length xs) i x refl lt is

pub got_mapped : {A B : Type 0} (f : A → B) (xs : List A) (i : ℕ) (x : A) → i < length xs → x ≡ get_or xs i x → slice_get (map f xs) i ≡ Some (f x)
got_mapped f xs i x lt is = slice_get-map f xs i ∙ ap (option_map f) (got xs i x lt is)

-- past the end there is nothing
pub nothing_mapped : {A B : Type 0} (f : A → B) (xs : List A) (i : ℕ) → length xs ≤ i → slice_get (map f xs) i ≡ None
nothing_mapped f [] i le = refl
nothing_mapped f (x ∷ xs) zero le = absurd (omega arith)
nothing_mapped f (x ∷ xs) (suc i) le = nothing_mapped f xs i (omega arith)

pub drop_got : {A : Type 0} (xs : List A) (i : ℕ) (x : A) → slice_get xs i ≡ Some x → drop i xs ≡ x ∷ drop (i + 1) xs
drop_got xs i x h =
    let lt = slice_get_within xs i x h in
    let both : Some x ≡ Some (get_or xs i x) = sym h ∙ slice_get-get_or xs i x lt in
    let is : get_or xs i x ≡ x = cc in
    drop_more xs i x lt ∙ ap (λ z. z ∷ drop (i + 1) xs) is

pub past_end : (i n : ℕ) → false ≡ nat_lt i n → n ≤ i
past_end i n h = grind (arith, nat_tests)
