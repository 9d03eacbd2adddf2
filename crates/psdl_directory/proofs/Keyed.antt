-- Keys of declarations, one behind the other.
use Rattle.std.proofs.Common.{◌≡◌, ℕ, zero, suc, ◌+◌, ◌<◌, List, [], ◌∷◌, ◌++◌, length, take, get_or, map, Option, Some, refl, sym, ap, ◌∙◌, arith, add-one}
use Rattle.psdl_directory.specs.declared.kind.KindNo.{KindNo}
use Rattle.psdl_directory.specs.declared.scoped.Scoped.{Scoped}
use Rattle.psdl_directory.specs.declared.declaration.Declaration.{Declaration as DeclarationNode}
use Rattle.psdl_directory.specs.declared.spellings.Spellings.{Spellings}
use Rattle.psdl_directory.specs.Declarations.{What}
use Rattle.psdl_directory.specs.Spelled.{number_of, Keeps}
use Rattle.psdl_directory.specs.inner.Keys.{parts, parts_of, AreKeys}
use Rattle.psdl_directory.specs.inner.Nodes.{what_view}

pub map-push : {X Y : Type 0} (f : X → Y) (xs : List X) (x : X) → map f (xs ++ x ∷ []) ≡ map f xs ++ f x ∷ []
map-push f [] x = refl
map-push f (y ∷ ys) x = ap (λ l. f y ∷ l) (map-push f ys x)

map_more : {X Y : Type 0} (f : X → Y) (xs : List X) (i : ℕ) (d : X) → i < length xs → map f (take (i + 1) xs) ≡ map f (take i xs) ++ f (get_or xs i d) ∷ []
map_more {X} f [] i d lt = absurd (omega (arith, lt))
map_more {X} f (x ∷ xs) zero d lt = refl
map_more f (x ∷ xs) (suc i) d lt =
    let more : map f (take (suc i) xs) ≡ map f (take i xs) ++ f (get_or xs i d) ∷ [] = rw add-one at (map_more f xs i d (omega (arith, lt))) in
    rw (add-one (suc i)) (ap (λ l. f x ∷ l) more)

module _ (spelled : List ℕ → List ℕ) (kinds : What → Option KindNo) where
  pub keys_kept : (old new : Spellings) (keys : List Scoped) (ds : List DeclarationNode) → Keeps old new → AreKeys spelled kinds old keys ds → AreKeys spelled kinds new keys ds
  keys_kept old new [] [] keeps e = refl
  keys_kept old new [] (d ∷ ds) keeps e = absurd (cc)
  keys_kept old new (k ∷ ks) [] keeps e = absurd (cc)
  keys_kept old new (k ∷ ks) (d ∷ ds) keeps e =
      let heads : parts k ≡ parts_of spelled kinds old d = cc in
      let tails : AreKeys spelled kinds old ks ds = cc in
      let scope : k.scope ≡ d.scope = ap (λ (p : ℕ × Option KindNo × Option ℕ). p.0) heads in
      let kind : k.kind ≡ kinds (what_view d.what) = ap (λ (p : ℕ × Option KindNo × Option ℕ). p.1) heads in
      let number : number_of new (spelled d.name.now) ≡ Some k.spelling = keeps (spelled d.name.now) k.spelling (sym (ap (λ (p : ℕ × Option KindNo × Option ℕ). p.2) heads)) in
      let head : parts k ≡ parts_of spelled kinds new d = rw (scope, kind, number) refl in
      ap (λ (x : ℕ × Option KindNo × Option ℕ). x ∷ map parts ks) head ∙ ap (λ (l : List (ℕ × Option KindNo × Option ℕ)). parts_of spelled kinds new d ∷ l) (keys_kept old new ks ds keeps tails)

  pub keys_more : (old new : Spellings) (keys : List Scoped) (k : Scoped) (ds : List DeclarationNode) (i : ℕ) (d : DeclarationNode) → i < length ds → Keeps old new → AreKeys spelled kinds old keys (take i ds)
      → parts k ≡ parts_of spelled kinds new (get_or ds i d) → AreKeys spelled kinds new (keys ++ k ∷ []) (take (i + 1) ds)
  keys_more old new keys k ds i d lt keeps so_far here =
      map-push parts keys k ∙ ap (λ (l : List (ℕ × Option KindNo × Option ℕ)). l ++ parts k ∷ []) (keys_kept old new keys (take i ds) keeps so_far) ∙ ap (λ (x : ℕ × Option KindNo × Option ℕ). map (parts_of spelled kinds new) (take i ds) ++ x ∷ []) here
      ∙ sym (map_more (parts_of spelled kinds new) ds i d lt)

  pub key_at : (s : Spellings) (keys : List Scoped) (ds : List DeclarationNode) (i : ℕ) (k : Scoped) (d : DeclarationNode) → i < length ds → AreKeys spelled kinds s keys ds → parts (get_or keys i k) ≡ parts_of spelled kinds s (get_or ds i d)
  key_at s [] [] i k d lt e = absurd (omega (arith, lt))
  key_at s [] (x ∷ xs) i k d lt e = absurd (cc)
  key_at s (k ∷ ks) [] i y d lt e = absurd (omega (arith, lt))
  key_at s (k ∷ ks) (x ∷ xs) zero y d lt e = cc
  key_at s (k ∷ ks) (x ∷ xs) (suc i) y d lt e =
      let tails : AreKeys spelled kinds s ks xs = cc in
      key_at s ks xs i y d (omega (arith, lt)) tails

-- a key with the kind of the declaration beside it
pub with_kind : (spelled : List ℕ → List ℕ) (kinds others : What → Option KindNo) (s : Spellings) (k : Scoped) (d : DeclarationNode) → parts k ≡ parts_of spelled kinds s d
    → parts (record { scope = k.scope; kind = others (what_view d.what); spelling = k.spelling }) ≡ parts_of spelled others s d
with_kind spelled kinds others s k d e =
    let scope : k.scope ≡ d.scope = ap (λ (p : ℕ × Option KindNo × Option ℕ). p.0) e in
    let number : Some k.spelling ≡ number_of s (spelled d.name.now) = ap (λ (p : ℕ × Option KindNo × Option ℕ). p.2) e in
    rw (scope, number) refl
