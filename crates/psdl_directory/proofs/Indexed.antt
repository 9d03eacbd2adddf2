-- What tables of keys have of names.
use Rattle.std.specs.Result.{IfOk}
use Rattle.std.proofs.Common.{Result, Ok, Err, ◌≡◌, ℕ, ◌+◌, List, [], ◌∷◌, Bool, true, false, cond, Option, Some, None, refl, sym, ap, ◌∙◌, ◌==◌, ◌&&◌}
use Rattle.std.specs.List.{position_from}
use Rattle.std.specs.BTreeMap.{BTreeMap}
use Rattle.std.specs.Bool.{Decides}
use Rattle.std.specs.Str.{bytes_eq}
use Rattle.std.proofs.lemmas.Bool.Decides.{same_from_decides, Decides-eqb}
use Rattle.std.proofs.lemmas.Slice.Eq.{bytes_eq-Decides}
use Rattle.psdl_directory.specs.declared.kind.KindNo.{KindNo}
use Rattle.psdl_directory.specs.declared.scoped.Scoped.{Scoped}
use Rattle.psdl_directory.specs.declared.declaration.Declaration.{Declaration as DeclarationNode}
use Rattle.psdl_directory.specs.declared.spellings.Spellings.{Spellings}
use Rattle.psdl_directory.specs.Declarations.{What}
use Rattle.psdl_directory.specs.Spelled.{number_of}
use Rattle.psdl_directory.specs.inner.Keys.{parts, parts_of, AreKeys}
use Rattle.psdl_directory.specs.inner.Named.{has_key, found_in, Indexes}
use Rattle.psdl_directory.specs.inner.Nodes.{what_view}
use Rattle.psdl_directory.specs.inner.Tables.{same_kinds, same_scoped, Tabulates}

pub in_both : (i : ℕ) (b c : Bool) (x y : Option ℕ) → b ≡ c → x ≡ y → cond b (Some i) x ≡ cond c (Some i) y
in_both i b c x y e f = rw (e, f) refl

-- numbers are equal exactly where the spellings are
pub same_number : (s : Spellings) (a b : List ℕ) (m n : ℕ) → number_of s a ≡ Some m → number_of s b ≡ Some n → (m == n) ≡ bytes_eq a b
same_number s a b m n am bn =
    let by_bytes = bytes_eq-Decides a b in
    let as_numbers : Decides (bytes_eq a b) (m ≡ n) =
    (λ t. let both : Some m ≡ Some n = sym am ∙ ap (λ (l : List ℕ). number_of s l) (by_bytes.0 t) ∙ bn in cc, λ e. by_bytes.1 (s.distinct.one a b m am (bn ∙ ap (λ (k : ℕ). Some k) (sym e)))) in
    same_from_decides (m == n) (bytes_eq a b) (Decides-eqb m n) as_numbers

never : (a b : Bool) → a && (b && false) ≡ false
never true true = refl
never true false = refl
never false b = refl

module _ (spelled : List ℕ → List ℕ) (kinds : What → Option KindNo) (s : Spellings) (scope : ℕ) (kind : Option KindNo) (name : List ℕ) where
  found_some : (m : ℕ) → number_of s name ≡ Some m → (keys : List Scoped) (ds : List DeclarationNode) (i : ℕ) → AreKeys spelled kinds s keys ds
      → position_from (same_scoped (record { scope = scope; kind = kind; spelling = m })) i keys ≡ position_from (has_key spelled kinds scope kind name) i ds
  found_some m is [] [] i e = refl
  found_some m is [] (d ∷ ds) i e = absurd (cc)
  found_some m is (k ∷ ks) [] i e = absurd (cc)
  found_some m is (k ∷ ks) (d ∷ ds) i e =
      let heads : parts k ≡ parts_of spelled kinds s d = cc in
      let tails : AreKeys spelled kinds s ks ds = cc in
      let at_scope : k.scope ≡ d.scope = ap (λ (p : ℕ × Option KindNo × Option ℕ). p.0) heads in
      let at_kind : k.kind ≡ kinds (what_view d.what) = ap (λ (p : ℕ × Option KindNo × Option ℕ). p.1) heads in
      let number : (m == k.spelling) ≡ bytes_eq name (spelled d.name.now) = same_number s name (spelled d.name.now) m k.spelling is (sym (ap (λ (p : ℕ × Option KindNo × Option ℕ). p.2) heads)) in
      let test : same_scoped (record { scope = scope; kind = kind; spelling = m }) k ≡ has_key spelled kinds scope kind name d = rw (at_scope, at_kind, number) refl in
      in_both i _ _ _ _ test (found_some m is ks ds (i + 1) tails)

  found_none : number_of s name ≡ None → (keys : List Scoped) (ds : List DeclarationNode) (i : ℕ) → AreKeys spelled kinds s keys ds → None ≡ position_from (has_key spelled kinds scope kind name) i ds
  found_none is keys [] i e = refl
  found_none is [] (d ∷ ds) i e = absurd (cc)
  found_none is (k ∷ ks) (d ∷ ds) i e =
      let heads : parts k ≡ parts_of spelled kinds s d = cc in
      let tails : AreKeys spelled kinds s ks ds = cc in
      let number : Some k.spelling ≡ number_of s (spelled d.name.now) = ap (λ (p : ℕ × Option KindNo × Option ℕ). p.2) heads in
      let other : bytes_eq name (spelled d.name.now) ≡ false = differs (bytes_eq name (spelled d.name.now)) refl k.spelling number in
      let test : has_key spelled kinds scope kind name d ≡ false = rw other (never (scope == d.scope) (same_kinds kind (kinds (what_view d.what)))) in
      rw test (found_none is ks ds (i + 1) tails)
    where
      differs : (b : Bool) → bytes_eq name (spelled d.name.now) ≡ b → (n : ℕ) → Some n ≡ number_of s (spelled d.name.now) → b ≡ false
      differs true t n h = let both : Some n ≡ None = h ∙ ap (λ (l : List ℕ). number_of s l) (sym ((bytes_eq-Decides name (spelled d.name.now)).0 t)) ∙ is in absurd (cc)
      differs false t n h = refl

  found_by : (o : Option ℕ) → number_of s name ≡ o → (table : BTreeMap Scoped ℕ) (keys : List Scoped) (ds : List DeclarationNode) → Tabulates table keys → AreKeys spelled kinds s keys ds
      → found_in table scope kind o ≡ position_from (has_key spelled kinds scope kind name) 0 ds
  found_by (Some m) is table keys ds tabulates e = tabulates (record { scope = scope; kind = kind; spelling = m }) ∙ found_some m is keys ds 0 e
  found_by None is table keys ds tabulates e = found_none is keys ds 0 e

pub indexes : (spelled : List ℕ → List ℕ) (kinds : What → Option KindNo) (s : Spellings) (table : BTreeMap Scoped ℕ) (keys : List Scoped) (ds : List DeclarationNode) → Tabulates table keys → AreKeys spelled kinds s keys ds
    → Indexes spelled kinds s table ds
indexes spelled kinds s table keys ds tabulates e scope kind name = found_by spelled kinds s scope kind name (number_of s name) refl table keys ds tabulates e

pub if_ok : {A E : Type 0} (r : Result A E) (P Q : A → Type 0) → ((x : A) → P x → Q x) → IfOk r P → IfOk r Q
if_ok (Ok x) P Q f h = f x h
if_ok (Err e) P Q f h = tt
