-- What tables by numbers have is what the definitions find by paths and names.
use Rattle.std.proofs.Common.{◌≡◌, ℕ, zero, suc, ◌+◌, ◌<◌, List, [], ◌∷◌, length, get_or, map, Bool, true, false, Option, Some, None, refl, sym, ap, ◌∙◌, arith, ◌==◌, ◌&&◌}
use Rattle.std.specs.List.{position_from}
use Rattle.std.specs.BTreeMap.{BTreeMap}
use Rattle.std.specs.Bool.{Decides}
use Rattle.std.specs.Str.{bytes_eq}
use Rattle.std.proofs.lemmas.Bool.Decides.{same_from_decides, Decides-eqb}
use Rattle.std.proofs.lemmas.Slice.Eq.{bytes_eq-Decides, slice_eq-Decides}
use Rattle.psdl_directory.specs.declared.kind.KindNo.{KindNo}
use Rattle.psdl_directory.specs.declared.scoped.Scoped.{Scoped}
use Rattle.psdl_directory.specs.declared.declaration.Declaration.{Declaration as DeclarationNode}
use Rattle.psdl_directory.specs.declared.spellings.Spellings.{Spellings}
use Rattle.psdl_directory.specs.Declarations.{Path, What}
use Rattle.psdl_directory.specs.Lookup.{same_path, is_named, first, at}
use Rattle.psdl_directory.specs.Spelled.{number_of}
use Rattle.psdl_directory.specs.inner.Keys.{plain, parts, parts_of, AreKeys}
use Rattle.psdl_directory.specs.inner.Named.{has_key, found_in, Indexes}
use Rattle.psdl_directory.specs.inner.Nodes.{declaration_view}
use Rattle.psdl_directory.specs.inner.Placed.{ArePlaced}
use Rattle.psdl_directory.specs.inner.Scopes.{path_at, AreDistinct}
use Rattle.psdl_directory.proofs.Indexed.{in_both}

pub same_path-Decides : (p q : Path) → Decides (same_path p q) (p ≡ q)
same_path-Decides p q = slice_eq-Decides bytes_eq-Decides p q (same_path p q) refl

pub same_scope : (paths : List Path) (i j : ℕ) → AreDistinct paths → i < length paths → j < length paths → (i == j) ≡ same_path (path_at paths i) (path_at paths j)
same_scope paths i j distinct li lj =
    let by_path = same_path-Decides (path_at paths i) (path_at paths j) in
    let as_numbers : Decides (same_path (path_at paths i) (path_at paths j)) (i ≡ j) = (λ t. distinct i j li lj (by_path.0 t), λ e. by_path.1 (ap (λ (n : ℕ). path_at paths n) e)) in
    same_from_decides (i == j) (same_path (path_at paths i) (path_at paths j)) (Decides-eqb i j) as_numbers

module _ (spelled : List ℕ → List ℕ) (paths : List Path) (distinct : AreDistinct paths) (scope : ℕ) (lt : scope < length paths) (name : List ℕ) where
  found_alike : (ds : List DeclarationNode) (i : ℕ) → ArePlaced paths ds → position_from (has_key spelled plain scope None (spelled name)) i ds ≡ position_from (is_named spelled (path_at paths scope) name) i (map (declaration_view paths) ds)
  found_alike [] i placed = refl
  found_alike (d ∷ ds) i placed =
      let in_scope : (scope == d.scope) ≡ same_path (path_at paths scope) (path_at paths d.scope) = same_scope paths scope d.scope distinct lt (placed 0 d (omega arith)).within in
      let test : has_key spelled plain scope None (spelled name) d ≡ is_named spelled (path_at paths scope) name (declaration_view paths d) = rw in_scope refl in
      in_both i _ _ _ _ test (found_alike ds (i + 1) (λ k x l. placed (suc k) x (omega (arith, l))))

  pub agreeing : (s : Spellings) (table : BTreeMap Scoped ℕ) (ds : List DeclarationNode) → ArePlaced paths ds → Indexes spelled plain s table ds
      → found_in table scope None (number_of s (spelled name)) ≡ first spelled (map (declaration_view paths) ds) (path_at paths scope) name
  agreeing s table ds placed indexes = indexes scope None (spelled name) ∙ found_alike ds 0 placed

not_named : (b c : Bool) → c ≡ false → b && c ≡ false
not_named true c h = h
not_named false c h = refl

-- a name without a number is that of no declaration
pub unspelled : (spelled : List ℕ → List ℕ) (kinds : What → Option KindNo) (paths : List Path) (s : Spellings) (name : List ℕ) → number_of s (spelled name) ≡ None → (p : Path) (keys : List Scoped) (ds : List DeclarationNode) (i : ℕ) → AreKeys spelled kinds s keys ds
    → position_from (is_named spelled p name) i (map (declaration_view paths) ds) ≡ None
unspelled spelled kinds paths s name is p keys [] i e = refl
unspelled spelled kinds paths s name is p [] (d ∷ ds) i e = absurd (cc)
unspelled spelled kinds paths s name is p (k ∷ ks) (d ∷ ds) i e =
    let heads : parts k ≡ parts_of spelled kinds s d = cc in
    let tails : AreKeys spelled kinds s ks ds = cc in
    let number : Some k.spelling ≡ number_of s (spelled d.name.now) = ap (λ (x : ℕ × Option KindNo × Option ℕ). x.2) heads in
    let other : bytes_eq (spelled name) (spelled d.name.now) ≡ false = differs (bytes_eq (spelled name) (spelled d.name.now)) refl k.spelling number in
    let test : is_named spelled p name (declaration_view paths d) ≡ false = not_named (same_path p (path_at paths d.scope)) (bytes_eq (spelled name) (spelled d.name.now)) other in
    rw test (unspelled spelled kinds paths s name is p ks ds (i + 1) tails)
  where
    differs : (b : Bool) → bytes_eq (spelled name) (spelled d.name.now) ≡ b → (n : ℕ) → Some n ≡ number_of s (spelled d.name.now) → b ≡ false
    differs true t n h = let both : Some n ≡ None = h ∙ ap (λ (l : List ℕ). number_of s l) (sym ((bytes_eq-Decides (spelled name) (spelled d.name.now)).0 t)) ∙ is in absurd (cc)
    differs false t n h = refl

pub at-view : (paths : List Path) (ds : List DeclarationNode) (n : ℕ) (d : DeclarationNode) → n < length (map (declaration_view paths) ds) → at (map (declaration_view paths) ds) n ≡ declaration_view paths (get_or ds n d)
at-view paths [] n d lt = absurd (omega (arith, lt))
at-view paths (x ∷ xs) zero d lt = refl
at-view paths (x ∷ xs) (suc n) d lt = at-view paths xs n d (omega (arith, lt))
