-- Rows that stand one behind the other.
use Rattle.std.proofs.Common.{◌≡◌, ℕ, zero, suc, ◌+◌, ◌<◌, ◌≤◌, List, [], ◌∷◌, ◌++◌, length, map, get_or, Option, Some, refl, sym, ap, ◌∙◌, arith, nat_lt, ⊎_elim}
use Rattle.std.specs.List.{flat_map}
use Rattle.std.proofs.lemmas.Bool.{cases_Bool, ltb-true, ltb-false}
use Rattle.std.proofs.lemmas.List.{map-append}
use Rattle.psdl_directory.proofs.Ranged.{each_more}
use Rattle.psdl_members.specs.inner.Flat.{flat, begins, piece, piece_of}
use Rattle.psdl_members.proofs.Cutting.{flat_more, piece_is, map_piece, length-map_is, is_piece, no_piece}

-- one row more
pub items_next : {A : Type 0} (g : ℕ → List A) (items row new : List A) (i : ℕ) → items ≡ flat g i → row ≡ g i → new ≡ items ++ row → new ≡ flat g (i + 1)
items_next {A} g items row new i so_far is push = push ∙ ap (λ (l : List A). l ++ row) so_far ∙ ap (λ (l : List A). flat g i ++ l) is ∙ sym (flat_more g i)

pub starts_next : {A : Type 0} (g : ℕ → List A) (items : List A) (starts new : List ℕ) (k i : ℕ) → items ≡ flat g i → k ≡ length items → new ≡ starts ++ k ∷ [] → starts ≡ begins g i → new ≡ begins g (i + 1)
starts_next {A} g items starts new k i so_far many push e = each_more (λ j. length (flat g j)) starts new k i push e (many ∙ ap (λ (l : List A). length l) so_far)

-- each row is there, and no other
pub rows_are : {A : Type 0} (g : ℕ → List A) (count : ℕ) (items : List A) (starts : List ℕ) → items ≡ flat g count → starts ≡ begins g (count + 1) → ((n : ℕ) → count ≤ n → g n ≡ []) → (n : ℕ) → piece_of starts n items ≡ g n
rows_are {A} g count items starts whole e past n =
    ap (λ (l : List ℕ). piece_of l n items) e
    ∙ ap (λ (l : List A). piece_of (begins g (count + 1)) n l) whole
    ∙ ⊎_elim
    (λ t. let lt : n < count = ltb-true n count t in is_piece g count n (flat g count) lt refl ∙ piece_is g count n lt)
    (λ f. let beyond : count ≤ n = ltb-false n count f in no_piece g count n (flat g count) beyond ∙ sym (past n beyond))
    (cases_Bool (nat_lt n count))

-- the same of what the items are by number
pub numbered_row : {A X : Type 0} (f : A → Option X) (g : ℕ → List A) (count : ℕ) (items : List X) (starts : List ℕ) → map (λ x. Some x) items ≡ map f (flat g count) → starts ≡ begins g (count + 1) → ((n : ℕ) → count ≤ n → g n ≡ [])
    → (n : ℕ) → map (λ x. Some x) (piece_of starts n items) ≡ map f (g n)
numbered_row {A} {X} f g count items starts are e past n =
    ap (λ (l : List ℕ). map (λ (x : X). Some x) (piece_of l n items)) e
    ∙ ⊎_elim
    (λ t.
    let lt : n < count = ltb-true n count t in
    let sized : length items ≡ length (flat g count) = length-map_is (λ (x : X). Some x) f items (flat g count) are in
    ap (λ (l : List X). map (λ (x : X). Some x) l) (is_piece g count n items lt sized)
    ∙ map_piece (λ (x : X). Some x) (begins g (count + 1)) n items
    ∙ ap (λ (l : List (Option X)). piece (begins g (count + 1)) n l) are
    ∙ sym (map_piece f (begins g (count + 1)) n (flat g count))
    ∙ ap (λ (l : List A). map f l) (piece_is g count n lt))
    (λ u.
    let beyond : count ≤ n = ltb-false n count u in
    ap (λ (l : List X). map (λ (x : X). Some x) l) (no_piece g count n items beyond) ∙ sym (ap (λ (l : List A). map f l) (past n beyond)))
    (cases_Bool (nat_lt n count))

pub numbered_rows : {A X : Type 0} (f : A → Option X) (g : ℕ → List A) (h : ℕ → List X) → ((n : ℕ) → map (λ x. Some x) (h n) ≡ map f (g n)) → (ns : List ℕ) → map (λ x. Some x) (flat_map h ns) ≡ map f (flat_map g ns)
numbered_rows f g h each [] = refl
numbered_rows {A} {X} f g h each (n ∷ ns) =
    map-append (λ (x : X). Some x) (h n) (flat_map h ns)
    ∙ ap (λ (l : List (Option X)). l ++ map (λ (x : X). Some x) (flat_map h ns)) (each n)
    ∙ ap (λ (l : List (Option X)). map f (g n) ++ l) (numbered_rows f g h each ns)
    ∙ sym (map-append f (g n) (flat_map g ns))

pub flat_same : {A : Type 0} (g h : ℕ → List A) → ((n : ℕ) → g n ≡ h n) → (ns : List ℕ) → flat_map g ns ≡ flat_map h ns
flat_same g h each [] = refl
flat_same {A} g h each (n ∷ ns) = ap (λ (l : List A). l ++ flat_map g ns) (each n) ∙ ap (λ (l : List A). h n ++ l) (flat_same g h each ns)

-- what is read does not depend on what there would be past the end
pub get_or_any : {A : Type 0} (xs : List A) (i : ℕ) (a b : A) → i < length xs → get_or xs i a ≡ get_or xs i b
get_or_any [] i a b lt = absurd (omega (arith, lt))
get_or_any (x ∷ xs) zero a b lt = refl
get_or_any (x ∷ xs) (suc i) a b lt = get_or_any xs i a b (omega (arith, lt))
