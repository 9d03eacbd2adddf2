-- States and operations, one by one.
use Rattle.std.proofs.Common.{◌≡◌, ℕ, ◌+◌, ◌<◌, ◌≤◌, List, [], ◌∷◌, ◌++◌, length, get_or, map, take, refl, sym, ap, ◌∙◌}
use Rattle.std.specs.List.{flat_map}
use Rattle.std.proofs.lemmas.Grind.{flat_map-append}
use Rattle.std.proofs.lemmas.List.{map-append, take_all}
use Rattle.psdl_standings.specs.declared.spot.Spot.{Spot}
use Rattle.psdl_standings.specs.declared.walk.Walk.{Walk}
use Rattle.psdl_standings.specs.Uses.{Use, Bound}
use Rattle.psdl_standings.specs.inner.Entries.{Notes}
use Rattle.psdl_standings.specs.inner.Walked.{noted_in}
use Rattle.psdl_standings.proofs.Goings.{goes_on, noted_on, take_one}
use Rattle.psdl_standings.proofs.Operands.{append_none}

pub notes_then : (a b d : Walk) (spot : Spot) (us vs : List Use) (bs cs : List Bound) → Notes a b spot us bs → Notes b d spot vs cs → Notes a d spot (us ++ vs) (bs ++ cs)
notes_then a b d spot us vs bs cs x y = record { goes = goes_on a b d x.goes y.goes; noted = noted_on a b spot us vs bs cs d.faults x.goes x.noted y.noted }

notes_at : (a b : Walk) (spot : Spot) (us vs : List Use) (bs cs : List Bound) → us ≡ vs → bs ≡ cs → Notes a b spot us bs → Notes a b spot vs cs
notes_at a b spot us vs bs cs p q x =
    record { goes = x.goes; noted = x.noted ∙ ap (λ (l : List Use). noted_in a spot l bs) p ∙ ap (λ (l : List Bound). noted_in a spot vs l) q }

pub list_more : {N X Y : Type 0} (f : X → List Y) (view : N → X) (xs : List N) (i : ℕ) (x : N) → i < length xs → x ≡ get_or xs i x → flat_map f (map view (take i xs)) ++ f (view x) ≡ flat_map f (map view (take (i + 1) xs))
list_more {N} {X} {Y} f view xs i x lt at =
    sym (ap (λ (l : List N). flat_map f (map view l)) (take_one xs i x lt at)
    ∙ ap (λ (l : List X). flat_map f l) (map-append view (take i xs) (x ∷ []))
    ∙ flat_map-append f (map view (take i xs)) (view x ∷ [])
    ∙ ap (λ (l : List Y). flat_map f (map view (take i xs)) ++ l) (append_none (f (view x))))

pub notes_more : {N X : Type 0} (f : X → List Use) (g : X → List Bound) (view : N → X) (a b d : Walk) (spot : Spot) (xs : List N) (i : ℕ) (x : N) → i < length xs → x ≡ get_or xs i x
    → Notes a b spot (flat_map f (map view (take i xs))) (flat_map g (map view (take i xs))) → Notes b d spot (f (view x)) (g (view x)) → Notes a d spot (flat_map f (map view (take (i + 1) xs))) (flat_map g (map view (take (i + 1) xs)))
notes_more f g view a b d spot xs i x lt at p q =
    notes_at a d spot (flat_map f (map view (take i xs)) ++ f (view x)) (flat_map f (map view (take (i + 1) xs))) (flat_map g (map view (take i xs)) ++ g (view x)) (flat_map g (map view (take (i + 1) xs))) (list_more f view xs i x lt at)
    (list_more g view xs i x lt at) (notes_then a b d spot (flat_map f (map view (take i xs))) (f (view x)) (flat_map g (map view (take i xs))) (g (view x)) p q)

pub notes_end : {N X : Type 0} (f : X → List Use) (g : X → List Bound) (view : N → X) (a b : Walk) (spot : Spot) (xs : List N) (i : ℕ) → length xs ≤ i → Notes a b spot (flat_map f (map view (take i xs))) (flat_map g (map view (take i xs)))
    → Notes a b spot (flat_map f (map view xs)) (flat_map g (map view xs))
notes_end {N} f g view a b spot xs i past x =
    notes_at a b spot (flat_map f (map view (take i xs))) (flat_map f (map view xs)) (flat_map g (map view (take i xs))) (flat_map g (map view xs)) (ap (λ (l : List N). flat_map f (map view l)) (take_all i xs past))
    (ap (λ (l : List N). flat_map g (map view l)) (take_all i xs past)) x

-- ---- members that are states or operations

flat_flat : {M X Y : Type 0} (f : X → List Y) (g : M → List X) (ms : List M) → flat_map (λ m. flat_map f (g m)) ms ≡ flat_map f (flat_map g ms)
flat_flat f g [] = refl
flat_flat {M} {X} {Y} f g (m ∷ ms) = ap (λ (l : List Y). flat_map f (g m) ++ l) (flat_flat f g ms) ∙ sym (flat_map-append f (g m) (flat_map g ms))

-- member by member
pub notes_of : {M X : Type 0} (f : X → List Use) (g : X → List Bound) (part : M → List X) (a b : Walk) (spot : Spot) (ms : List M) → Notes a b spot (flat_map (λ m. flat_map f (part m)) ms) (flat_map (λ m. flat_map g (part m)) ms)
    → Notes a b spot (flat_map f (flat_map part ms)) (flat_map g (flat_map part ms))
notes_of f g part a b spot ms x =
    notes_at a b spot (flat_map (λ m. flat_map f (part m)) ms) (flat_map f (flat_map part ms)) (flat_map (λ m. flat_map g (part m)) ms) (flat_map g (flat_map part ms)) (flat_flat f part ms) (flat_flat g part ms) x
