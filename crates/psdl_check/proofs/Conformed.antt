-- Homes that pass a test, one by one.
use Rattle.std.proofs.Common.{◌≡◌, ℕ, ◌+◌, ◌<◌, List, [], ◌∷◌, ◌++◌, Bool, true, false, cond, length, filter, map, take, get_or, Some, refl, sym, ap, ◌∙◌}
use Rattle.std.specs.List.{slice_get}
use Rattle.std.proofs.lemmas.List.{append-nil, map-append}
use Rattle.std.proofs.lemmas.List.Elements.{filter-append}
use Rattle.std.proofs.lemmas.Option.{slice_get-get_or}
use Rattle.type_layout.specs.declared.home.HomeNo.{HomeNo}
use Rattle.psdl_lineage.proofs.Listing.{take_more}

abbrev last_if : Bool → HomeNo → List HomeNo
last_if b home = cond b (home ∷ []) []

-- ---- home by home

filtered : (f : ℕ → HomeNo) (test : ℕ → Bool) (h : ℕ) (b : Bool) → test h ≡ b → map f (filter test (h ∷ [])) ≡ last_if b (f h)
filtered f test h true e = ap (λ (v : Bool). map f (cond v (h ∷ []) [])) e
filtered f test h false e = ap (λ (v : Bool). map f (cond v (h ∷ []) [])) e

-- one home more
pub one_home_more_in : (f : ℕ → HomeNo) (test : ℕ → Bool) (homes : List ℕ) (i : ℕ) (number : HomeNo) (old new : List HomeNo) → i < length homes → number ≡ f (get_or homes i 0)
    → old ≡ map f (filter test (take i homes)) → new ≡ old ++ cond (test (get_or homes i 0)) (number ∷ []) [] → new ≡ map f (filter test (take (i + 1) homes))
one_home_more_in f test homes i number old new lt is so_far step =
    let h : ℕ = get_or homes i 0 in
    let front : List ℕ = take i homes in
    step
    ∙ ap (λ (l : List HomeNo). l ++ last_if (test h) number) so_far
    ∙ ap (λ (k : HomeNo). map f (filter test front) ++ last_if (test h) k) is
    ∙ ap (λ (l : List HomeNo). map f (filter test front) ++ l) (sym (filtered f test h (test h) refl))
    ∙ sym (map-append f (filter test front) (filter test (h ∷ [])))
    ∙ ap (λ (l : List ℕ). map f l) (sym (filter-append test front (h ∷ [])))
    ∙ ap (λ (l : List ℕ). map f (filter test l)) (sym (take_more homes i 0 lt))

-- what stands there
pub stands_there : (xs : List ℕ) (i h : ℕ) → i < length xs → Some h ≡ slice_get xs i → h ≡ get_or xs i 0
stands_there xs i h lt e = let same : Some h ≡ Some (get_or xs i 0) = e ∙ slice_get-get_or xs i 0 lt in cc

-- a home that passes is put last
pub home_put : (f : ℕ → HomeNo) (test : ℕ → Bool) (homes : List ℕ) (i h : ℕ) (number : HomeNo) (old new : List HomeNo) → i < length homes → h ≡ get_or homes i 0 → number ≡ f h → old ≡ map f (filter test (take i homes)) → test h ≡ true
    → new ≡ old ++ number ∷ [] → new ≡ map f (filter test (take (i + 1) homes))
home_put f test homes i h number old new lt at is so_far on step =
    one_home_more_in f test homes i number old new lt (is ∙ ap f at) so_far (step ∙ ap (λ (b : Bool). old ++ cond b (number ∷ []) []) (sym on ∙ ap test at))

-- one that does not is left out
pub home_left : (f : ℕ → HomeNo) (test : ℕ → Bool) (homes : List ℕ) (i h : ℕ) (old new : List HomeNo) → i < length homes → h ≡ get_or homes i 0 → old ≡ map f (filter test (take i homes)) → test h ≡ false → new ≡ old
    → new ≡ map f (filter test (take (i + 1) homes))
home_left f test homes i h old new lt at so_far off step =
    one_home_more_in f test homes i (f (get_or homes i 0)) old new lt refl so_far (step ∙ sym (append-nil old) ∙ ap (λ (b : Bool). old ++ cond b (f (get_or homes i 0) ∷ []) []) (sym off ∙ ap test at))
