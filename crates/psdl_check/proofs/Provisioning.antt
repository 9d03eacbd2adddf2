-- What the catalogs of a text provide, name by name.
use Rattle.std.proofs.Common.{◌≡◌, ℕ, zero, suc, ◌+◌, ◌<◌, ◌≤◌, List, [], ◌∷◌, ◌++◌, length, map, take, get_or, refl, sym, ap, ◌∙◌, arith, append_assoc}
use Rattle.std.specs.List.{flat_map}
use Rattle.std.proofs.lemmas.List.{append-nil, take_all}
use Rattle.psdl_tree.specs.Trees.{Provision}
use Rattle.psdl_directory.specs.declared.uses.Use.{Use}
use Rattle.psdl_directory.specs.Declarations.{Declaration}
use Rattle.psdl_directory.specs.Headers.{used}
use Rattle.psdl_directory.specs.Lookup.{at, defined}
use Rattle.psdl_directory.specs.Parts.{provided}
use Rattle.psdl_lineage.proofs.Listing.{map_more}

map-length : {X Y : Type 0} (f : X → Y) (xs : List X) → length (map f xs) ≡ length xs
map-length f [] = refl
map-length f (x ∷ xs) = ap suc (map-length f xs)

module _ {X : Type 0} (view : X → Provision) (all : List Declaration) (n : ℕ) (ps : List X) (us : List Use) (is : map view ps ≡ provided (at all n).what) (meant : us ≡ map (λ p. used all (n + 1) n p.home) (provided (at all n).what)) where
  uses_are : us ≡ map (λ p. used all (n + 1) n p.home) (map view ps)
  uses_are = meant ∙ ap (map (λ p. used all (n + 1) n p.home)) (sym is)

  pub as_many : length us ≡ length ps
  as_many = ap length uses_are ∙ map-length (λ p. used all (n + 1) n p.home) (map view ps) ∙ map-length view ps

  use_at : (qs : List X) (i : ℕ) (p : X) (u : Use) → i < length qs → get_or (map (λ q. used all (n + 1) n q.home) (map view qs)) i u ≡ used all (n + 1) n (view (get_or qs i p)).home
  use_at [] i p u lt = absurd (omega (arith, lt))
  use_at (q ∷ qs) zero p u lt = refl
  use_at (q ∷ qs) (suc i) p u lt = use_at qs i p u (omega (arith, lt))

  -- what the name of a provision means
  pub meant_at : (i : ℕ) (p : X) (u : Use) → i < length ps → p ≡ get_or ps i p → u ≡ get_or us i u → u.defined ≡ defined all n (view p).home
  meant_at i p u lt pis uis =
      ap (λ (v : Use). v.defined) (uis ∙ ap (λ l. get_or l i u) uses_are ∙ use_at ps i p u lt) ∙ ap (λ (q : X). defined all n (view q).home) (sym pis)

-- one more
pub one_more : {X Y Z : Type 0} (view : X → Y) (each : Y → List Z) (xs : List X) (i : ℕ) (x : X) (first old new : List Z) → i < length xs → x ≡ get_or xs i x → old ≡ first ++ flat_map each (map view (take i xs)) → new ≡ old ++ each (view x)
    → new ≡ first ++ flat_map each (map view (take (i + 1) xs))
one_more {X} {Y} {Z} view each xs i x first old new lt is so_far step =
    step ∙ ap (λ l. l ++ each (view x)) so_far ∙ append_assoc first (flat_map each (map view (take i xs))) (each (view x))
    ∙ ap (λ l. first ++ l) (sym (flat_one (map view (take i xs)) (view x)) ∙ ap (λ (y : X). flat_map each (map view (take i xs) ++ view y ∷ [])) is ∙ ap (flat_map each) (sym (map_more view xs i x lt)))
  where
    flat_one : (ys : List Y) (y : Y) → flat_map each (ys ++ y ∷ []) ≡ flat_map each ys ++ each y
    flat_one [] y = append-nil (each y)
    flat_one (z ∷ ys) y = ap (λ l. each z ++ l) (flat_one ys y) ∙ sym (append_assoc (each z) (flat_map each ys) (each y))

-- all of them
pub all_more : {X Y Z : Type 0} (view : X → Y) (each : Y → List Z) (xs : List X) (ys : List Y) (i : ℕ) (first new : List Z) → length xs ≤ i → map view xs ≡ ys → new ≡ first ++ flat_map each (map view (take i xs)) → new ≡ first ++ flat_map each ys
all_more {X} {Y} {Z} view each xs ys i first new le is so_far = so_far ∙ ap (λ (l : List X). first ++ flat_map each (map view l)) (take_all i xs le) ∙ ap (λ l. first ++ flat_map each l) is
