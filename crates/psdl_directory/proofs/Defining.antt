-- What tables have of the declarations themselves.
use Rattle.std.proofs.Common.{◌≡◌, ℕ, suc, ◌+◌, ◌<◌, List, [], ◌∷◌, length, map, get_or, Bool, true, false, Option, Some, None, refl, sym, ap, ◌∙◌, arith, ◌==◌, ◌&&◌, not, cond}
use Rattle.std.specs.List.{position_from}
use Rattle.std.proofs.lemmas.List.{length-map}
use Rattle.std.specs.BTreeMap.{BTreeMap}
use Rattle.std.specs.Option.{option_eq}
use Rattle.std.specs.Str.{bytes_eq}
use Rattle.psdl_directory.specs.declared.kind.KindNo.{KindNo}
use Rattle.psdl_directory.specs.declared.scoped.Scoped.{Scoped}
use Rattle.psdl_directory.specs.declared.declaration.Declaration.{Declaration as DeclarationNode}
use Rattle.psdl_directory.specs.declared.declaration.What.TheVariants as nodes
use Rattle.psdl_directory.specs.declared.spellings.Spellings.{Spellings}
use Rattle.psdl_directory.specs.Declarations.{Path, Declaration}
use Rattle.psdl_directory.specs.Lookup.{as_is, same_path, first, at, defines, definition}
use Rattle.psdl_directory.specs.Parts.{kind, is_forward}
use Rattle.psdl_directory.specs.Spelled.{number_of}
use Rattle.psdl_directory.specs.inner.Keys.{plain, whole, parts, parts_of, AreKeys}
use Rattle.psdl_directory.specs.inner.Named.{has_key, found_in, Indexes}
use Rattle.psdl_directory.specs.inner.Nodes.{what_view, declaration_view}
use Rattle.psdl_directory.specs.inner.Placed.{ArePlaced}
use Rattle.psdl_directory.specs.inner.Scopes.{path_at, AreDistinct}
use Rattle.psdl_directory.specs.inner.Tables.{found}
use Rattle.psdl_directory.proofs.Agreeing.{agreeing, at-view, same_scope}
use Rattle.psdl_directory.proofs.Indexed.{in_both}
use Rattle.psdl_directory.proofs.Keyed.{key_at}

-- a declaration of no text
pub some_node : DeclarationNode
some_node = record { scope = 0; name = record { ref_ptr = (0, 0); now = [] }; place = record { line = 0; column = 0; offset = 0 }; what = nodes.Enumerator }

module _ (spelled : List ℕ → List ℕ) (paths : List Path) (distinct : AreDistinct paths) (s : Spellings) (keys : List Scoped) (ds : List DeclarationNode) (placed : ArePlaced paths ds) (are : AreKeys spelled plain s keys ds) (n : ℕ) (k : Scoped) (is : k ≡ get_or keys n k)
    (lt : n < length (map (declaration_view paths) ds)) where
  abbrev d : DeclarationNode
  d = get_or ds n some_node

  pub lt0 : n < length ds
  lt0 = rw length-map at lt

  both : parts k ≡ parts_of spelled plain s d
  both = ap parts is ∙ key_at spelled plain s keys ds n k some_node lt0 are

  abbrev all : List Declaration
  all = map (declaration_view paths) ds

  pub scope_is : k.scope ≡ d.scope
  scope_is = ap (λ (p : ℕ × Option KindNo × Option ℕ). p.0) both

  pub kind_is : k.kind ≡ None
  kind_is = ap (λ (p : ℕ × Option KindNo × Option ℕ). p.1) both

  pub number_is : Some k.spelling ≡ number_of s (spelled d.name.now)
  number_is = ap (λ (p : ℕ × Option KindNo × Option ℕ). p.2) both

  pub key_is : k ≡ record { scope = d.scope; kind = None; spelling = k.spelling }
  key_is = ap (λ (x : ℕ). record { scope = x; kind = k.kind; spelling = k.spelling }) scope_is ∙ ap (λ (o : Option KindNo). record { scope = d.scope; kind = o; spelling = k.spelling }) kind_is

  -- the first of its name in its scope
  pub keyed_first : (table : BTreeMap Scoped ℕ) → Indexes spelled plain s table ds → found table k ≡ first spelled all (at all n).path (at all n).name
  keyed_first table indexes =
      ap (λ (x : Scoped). found table x) key_is ∙ ap (λ (o : Option ℕ). found_in table d.scope None o) number_is ∙ agreeing spelled paths distinct d.scope (placed n some_node lt0).within d.name.now s table ds placed indexes
      ∙ ap (λ (x : Declaration). first spelled all x.path x.name) (sym (at-view paths ds n some_node lt))

turned : (a k n : Bool) → a && (k && n) ≡ k && (a && n)
turned true k n = refl
turned false true n = refl
turned false false n = refl

never : (a n : Bool) → a && (false && n) ≡ false
never true n = refl
never false n = refl

-- one declaration defines another exactly where the keys agree
by_forward : (a n : Bool) (k m : ℕ) (f : Bool) → a && (option_eq {T = KindNo} (λ i j. i.0 == j.0) (Some (record { 0 = k })) (cond f None (Some (record { 0 = m }))) && n) ≡ not f && (k == m) && (a && n)
by_forward a n k m true = never a n
by_forward a n k m false = turned a (k == m) n

defined_alike : (paths : List Path) (distinct : AreDistinct paths) (scope : ℕ) (lt : scope < length paths) (name : List ℕ) (D : Declaration) → path_at paths scope ≡ D.path → name ≡ D.name → (ds : List DeclarationNode) (i : ℕ) → ArePlaced paths ds
    → position_from (has_key as_is whole scope (Some (record { 0 = kind D.what })) name) i ds ≡ position_from (defines D) i (map (declaration_view paths) ds)
defined_alike paths distinct scope lt name D path called [] i placed = refl
defined_alike paths distinct scope lt name D path called (d ∷ ds) i placed =
    let in_scope : (scope == d.scope) ≡ same_path D.path (path_at paths d.scope) = same_scope paths scope d.scope distinct lt (placed 0 d (omega arith)).within ∙ ap (λ (p : Path). same_path p (path_at paths d.scope)) path in
    let test : has_key as_is whole scope (Some (record { 0 = kind D.what })) name d ≡ defines D (declaration_view paths d) =
    rw (in_scope, called) (by_forward (same_path D.path (path_at paths d.scope)) (bytes_eq D.name d.name.now) (kind D.what) (kind (what_view d.what)) (is_forward (what_view d.what))) in
    in_both i _ _ _ _ test (defined_alike paths distinct scope lt name D path called ds (i + 1) (λ j x l. placed (suc j) x (omega (arith, l))))

-- the definition of a declaration
pub keyed_definition : (paths : List Path) (distinct : AreDistinct paths) (s : Spellings) (keys : List Scoped) (ds : List DeclarationNode) (placed : ArePlaced paths ds) (are : AreKeys as_is plain s keys ds) (n : ℕ) (k : Scoped)
    → k ≡ get_or keys n k → n < length (map (declaration_view paths) ds) → (table : BTreeMap Scoped ℕ) → Indexes as_is whole s table ds → (kno : KindNo) → kno.0 ≡ kind (at (map (declaration_view paths) ds) n).what
    → found table (record { scope = k.scope; kind = Some kno; spelling = k.spelling }) ≡ definition (map (declaration_view paths) ds) n
keyed_definition paths distinct s keys ds placed are n k is lt table indexes kno kinds =
    let d : DeclarationNode = get_or ds n some_node in
    let D : Declaration = at (map (declaration_view paths) ds) n in
    let seen : declaration_view paths d ≡ D = sym (at-view paths ds n some_node lt) in
    let number : Some k.spelling ≡ number_of s d.name.now = number_is as_is paths distinct s keys ds placed are n k is lt in
    let scope : k.scope ≡ d.scope = scope_is as_is paths distinct s keys ds placed are n k is lt in
    let kind_no : Some kno ≡ Some (record { 0 = kind D.what }) = ap (λ (m : ℕ). Some (record { 0 = m })) kinds in
    ap (λ (x : ℕ). found table (record { scope = x; kind = Some kno; spelling = k.spelling })) scope ∙ ap (λ (o : Option KindNo). found table (record { scope = d.scope; kind = o; spelling = k.spelling })) kind_no
    ∙ ap (λ (o : Option ℕ). found_in table d.scope (Some (record { 0 = kind D.what })) o) number ∙ indexes d.scope (Some (record { 0 = kind D.what })) d.name.now
    ∙ defined_alike paths distinct d.scope (placed n some_node (lt0 as_is paths distinct s keys ds placed are n k is lt)).within d.name.now D (ap (λ (x : Declaration). x.path) seen) (ap (λ (x : Declaration). x.name) seen) ds 0 placed
