-- What declarations of a text have by descent, over the numbers alone.
use Rattle.std.proofs.Common.{◌≡◌, ℕ, ◌<◌, List, [], ◌∷◌, ◌++◌, Bool, true, false, cond, length, filter, Some, refl, sym, ap, ◌∙◌, arith, ⊎_elim}
use Rattle.std.specs.List.{flat_map, find, range_with_len}
use Rattle.std.proofs.lemmas.Bool.{cases_Bool}
use Rattle.psdl_directory.specs.Declarations.{Declaration}
use Rattle.psdl_directory.specs.Parts.{is_concrete_home}
use Rattle.psdl_directory.specs.Lookup.{at}
use Rattle.psdl_lineage.specs.Descent.{has, ancestry, concrete_homes, provider}
use Rattle.psdl_lineage.specs.Graph.{ancestry_in, first_descendant, graph_of}
use Rattle.psdl_lineage.specs.Sources.{is_own, sources_in}
use Rattle.psdl_lineage.proofs.Texts.{ancestry_is}
use Rattle.psdl_lineage.proofs.Kept.{range_has}
use Rattle.psdl_lineage.proofs.Repeats.{has_kept}

find_same : (f g : ℕ → Bool) → ((n : ℕ) → f n ≡ g n) → (xs : List ℕ) → find f xs ≡ find g xs
find_same f g h [] = refl
find_same f g h (x ∷ xs) = ap (λ v. cond v (Some x) (find f xs)) (h x) ∙ ap (λ o. cond (g x) (Some x) o) (find_same f g h xs)

-- the home that provides another is the first that descends from it
pub provider_is : (all : List Declaration) (home : ℕ) → provider all home ≡ first_descendant (graph_of all) (concrete_homes all) home
provider_is all home =
    find_same (λ h. has (ancestry all h) home) (λ h. has (ancestry_in (graph_of all) h) home) (λ h. ap (λ l. has l home) (ancestry_is all h)) (concrete_homes all)

pub homes_below : (all : List Declaration) (n : ℕ) → has (concrete_homes all) n ≡ true → n < length all
unfolding concrete_homes
homes_below all n h = omega (arith, range_has 0 (length all) n (has_kept (λ m. is_concrete_home (at all m).what) (range_with_len 0 (length all)) n h))

-- those that have nothing may be left out
pub only_owners : {A : Type 0} (g : ℕ → List A) (own : List Bool) → ((n : ℕ) → is_own own n ≡ false → g n ≡ []) → (xs : List ℕ) → flat_map g xs ≡ flat_map g (filter (is_own own) xs)
only_owners g own h [] = refl
only_owners g own h (x ∷ xs) =
    ⊎_elim
    (λ t. ap (λ l. g x ++ l) (only_owners g own h xs) ∙ sym (ap (λ v. flat_map g (cond v (x ∷ filter (is_own own) xs) (filter (is_own own) xs))) t))
    (λ f.
    ap (λ l. l ++ flat_map g xs) (h x f) ∙ only_owners g own h xs
    ∙ sym (ap (λ v. flat_map g (cond v (x ∷ filter (is_own own) xs) (filter (is_own own) xs))) f))
    (cases_Bool (is_own own x))

-- all of what declarations have by descent, from those alone that have some of their own
pub inherited : {A : Type 0} (g : ℕ → List A) (all : List Declaration) (own : List Bool) (n : ℕ) → ((m : ℕ) → is_own own m ≡ false → g m ≡ [])
    → flat_map g (ancestry all n) ≡ flat_map g (sources_in (graph_of all) own n)
inherited g all own n h = ap (λ l. flat_map g l) (ancestry_is all n) ∙ only_owners g own h (ancestry_in (graph_of all) n)
