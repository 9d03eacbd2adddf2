-- The factories that bodies declare, and those that a home has.
use Rattle.std.proofs.Common.{◌≡◌, ℕ, zero, suc, ◌+◌, ◌≤◌, ◌<◌, List, [], ◌∷◌, ◌++◌, Bool, true, false, ◌||◌, map, length, take, take-suc, get_or, refl, sym, ap, ◌∙◌, arith, if◌then◌else◌}
use Rattle.std.specs.List.{flat_map, list_any, range_with_len}
use Rattle.std.proofs.lemmas.List.{map-append}
use Rattle.std.proofs.lemmas.List.FromFn.{get_or-map-range_with_len, length-map-range_with_len, map-range_with_len_more}
use Rattle.type_layout.specs.declared.factories.DeclaredFactory.{DeclaredFactory}
use Rattle.type_layout.specs.Factories.{FactoryLines, declared_by, same_declared, first_of_each, held_in}
use Rattle.psdl_directory.specs.Declarations.{Declaration}
use Rattle.psdl_directory.specs.Lookup.{at}
use Rattle.psdl_directory.specs.Parts.{factories}
use Rattle.psdl_lineage.specs.Descent.{Listed, ancestry, home_factories, listed_factory, same_listed, without_known}
use Rattle.psdl_lineage.specs.Graph.{graph_of}
use Rattle.psdl_lineage.proofs.Texts.{ancestry_is}
use Rattle.psdl_members.specs.declared.list_kind.ListKind.TheVariants as kinds
use Rattle.psdl_members.specs.inner.Listing.{own_lists}
use Rattle.psdl_members.proofs.Listing.{factories_in, no_lists}
use Rattle.psdl_check.specs.inner.Declaring.{declared_as, AreDeclared}
use Rattle.psdl_check.specs.inner.Rising.{IsRising}
use Rattle.psdl_check.proofs.KeyRowing.{by_test}
use Rattle.psdl_check.proofs.Sourced.{first_held}

pub one_list_more : {X Y : Type 0} (g : X → Y) (each : ℕ → Y) (old new : List X) (x : X) (i : ℕ) → map g old ≡ map each (range_with_len 0 i) → new ≡ old ++ x ∷ [] → g x ≡ each i → map g new ≡ map each (range_with_len 0 (i + 1))
one_list_more g each old new x i so_far push here =
    ap (map g) push ∙ map-append g old (x ∷ []) ∙ ap (λ l. l ++ g x ∷ []) so_far ∙ ap (λ y. map each (range_with_len 0 i) ++ y ∷ []) here
    ∙ sym (map-range_with_len_more each 0 i i (omega arith))

pub one_row_more : {X : Type 0} (g : X → List ℕ) (graph : List (List ℕ)) (i : ℕ) (old new : List X) (x : X) → i < length graph → map g old ≡ take i graph → new ≡ old ++ x ∷ [] → g x ≡ get_or graph i [] → map g new ≡ take (i + 1) graph
one_row_more g graph i old new x lt so_far push here =
    ap (map g) push ∙ map-append g old (x ∷ []) ∙ ap (λ l. l ++ g x ∷ []) so_far ∙ ap (λ y. take i graph ++ y ∷ []) here
    ∙ sym (take-suc graph i [] lt) ∙ ap (λ k. take k graph) (next i)
  where
    next : (n : ℕ) → suc n ≡ n + 1
    next n = omega arith

past : {Y : Type 0} (ls : List (List Y)) (n : ℕ) → length ls ≤ n → get_or ls n [] ≡ []
past [] n le = refl
past (l ∷ ls) zero le = absurd (omega (arith, le))
past (l ∷ ls) (suc n) le = past ls n (omega (arith, le))

-- what all bodies declare
pub are_declared : (all : List Declaration) (lines : FactoryLines) → lines.bases ≡ graph_of all → lines.declared ≡ map (λ n. map declared_as (own_lists kinds.Factory all n)) (range_with_len 0 (length all)) → AreDeclared all lines
are_declared all lines bases lists =
    let each : ℕ → List DeclaredFactory = λ n. map declared_as (own_lists kinds.Factory all n) in
    record {
      bases = bases;
      each = λ n.
          ap (λ l. get_or l n []) lists
          ∙ by_test (length all) n
          (λ le. past (map each (range_with_len 0 (length all))) n (omega (arith, le, length-map-range_with_len each 0 (length all))) ∙ ap (map declared_as) (sym (no_lists kinds.Factory all n le)))
          (λ lt. get_or-map-range_with_len each 0 (length all) n n [] lt (omega arith));
    }

map_flat : (f : ℕ → List Listed) (ns : List ℕ) → flat_map (λ n. map declared_as (f n)) ns ≡ map declared_as (flat_map f ns)
map_flat f [] = refl
map_flat f (n ∷ ns) = ap (λ l. map declared_as (f n) ++ l) (map_flat f ns) ∙ sym (map-append declared_as (f n) (flat_map f ns))

flat_same : {Y : Type 0} (f g : ℕ → List Y) → ((n : ℕ) → f n ≡ g n) → (ns : List ℕ) → flat_map f ns ≡ flat_map g ns
flat_same f g same [] = refl
flat_same f g same (n ∷ ns) = ap (λ l. l ++ flat_map f ns) (same n) ∙ ap (λ l. g n ++ l) (flat_same f g same ns)

known_alike : (x : Listed) (known : List Listed) → list_any (same_declared (declared_as x)) (map declared_as known) ≡ list_any (same_listed x) known
known_alike x [] = refl
known_alike x (y ∷ known) = ap (λ (b : Bool). same_listed x y || b) (known_alike x known)

first_are : (known xs : List Listed) → first_of_each same_declared (map declared_as known) (map declared_as xs) ≡ map declared_as (without_known same_listed known xs)
first_are known [] = refl
first_are known (x ∷ xs) = by (list_any (same_listed x) known) refl (first_are known xs) (first_are (x ∷ known) xs)
  where
    by : (b : Bool) → list_any (same_listed x) known ≡ b
        → first_of_each same_declared (map declared_as known) (map declared_as xs) ≡ map declared_as (without_known same_listed known xs)
        → first_of_each same_declared (map declared_as (x ∷ known)) (map declared_as xs) ≡ map declared_as (without_known same_listed (x ∷ known) xs)
        → first_of_each same_declared (map declared_as known) (map declared_as (x ∷ xs)) ≡ map declared_as (if b then without_known same_listed known xs else x ∷ without_known same_listed (x ∷ known) xs)
    by true e same more = rw (known_alike x known, e) same
    by false e same more = rw (known_alike x known, e) (ap (λ l. declared_as x ∷ l) more)

-- those that a home has
pub held_are : (all : List Declaration) (lines : FactoryLines) (home : ℕ) → AreDeclared all lines → IsRising (graph_of all) → first_of_each same_declared [] (held_in lines home) ≡ map declared_as (home_factories all home)
held_are all lines home are rising =
    let all_of : List ℕ → List Listed = λ ns. flat_map (λ a. map listed_factory (factories (at all a).what)) ns in
    first_held (graph_of all) lines are.bases rising home
    ∙ ap (first_of_each same_declared [])
    (ap (flat_map (declared_by lines)) (sym (ancestry_is all home))
    ∙ flat_same (declared_by lines) (λ n. map declared_as (map listed_factory (factories (at all n).what))) (λ n. are.each n ∙ ap (map declared_as) (factories_in (at all n).what)) (ancestry all home)
    ∙ map_flat (λ n. map listed_factory (factories (at all n).what)) (ancestry all home))
    ∙ first_are [] (all_of (ancestry all home))
