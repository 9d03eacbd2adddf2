-- Keys and factories in bodies, and by descent.
use Rattle.std.proofs.Common.{◌≡◌, ℕ, ◌≤◌, List, [], ◌∷◌, ◌++◌, Bool, true, false, not, ◌&&◌, length, map, Some, None, refl, sym, ap, ◌∙◌, arith}
use Rattle.std.specs.List.{flat_map}
use Rattle.std.specs.Str.{bytes_eq}
use Rattle.std.specs.Bool.{Decides}
use Rattle.std.proofs.lemmas.Bool.Decides.{same_from_decides}
use Rattle.std.proofs.lemmas.List.{get_or_past, map-append}
use Rattle.std.proofs.lemmas.Simd.{map-map}
use Rattle.std.proofs.lemmas.Slice.Eq.{bytes_eq-Decides, slice_eq-Decides}
use Rattle.type_layout.specs.Sound.{are_distinct}
use Rattle.psdl_tree.specs.declared.names.Identifier.{Identifier}
use Rattle.psdl_tree.specs.Trees.{AbstractHomeMember, KeyMember, FactoryMember, HomeOperation, HomeMember, PlainKey, PrimaryKey, HomeFactory}
use Rattle.psdl_directory.specs.Declarations.{What, IsModule, IsConstant, IsAlias, IsStruct, IsEnumeration, IsEnumerator, IsAbstractType, IsConcreteType, IsAbstractHome, IsConcreteHome, IsCatalog, Declaration}
use Rattle.psdl_directory.specs.Parts.{abstract_key, abstract_factory, concrete_key, concrete_factory, keys, factories}
use Rattle.psdl_directory.specs.Lookup.{at, nothing, lower}
use Rattle.psdl_lineage.specs.Descent.{ancestry, Listed, same_list, same_listed, without_repeats}
use Rattle.psdl_lineage.specs.Graph.{graph_of, ancestry_in}
use Rattle.psdl_lineage.specs.Sources.{is_own, sources_in}
use Rattle.psdl_lineage.proofs.Inherited.{inherited}
use Rattle.psdl_lineage.proofs.Texts.{ancestry_is}
use Rattle.psdl_members.specs.declared.entry.Entry.{Entry}
use Rattle.psdl_members.specs.declared.list_kind.ListKind.{ListKind}
use Rattle.psdl_members.specs.declared.list_kind.ListKind.TheVariants as kinds
use Rattle.psdl_members.specs.declared.listed.Listed.{Listed as ListedNode}
use Rattle.psdl_members.specs.declared.rows.Rows.{Rows}
use Rattle.psdl_members.specs.Clashes.{lists_clash}
use Rattle.psdl_members.specs.Listings.{listed_views, identifiers_of_each, identifiers_of, lists_of, home_lists}
use Rattle.psdl_members.specs.inner.Clashing.{some_clash, entries_clash, ClashAlike}
use Rattle.psdl_members.specs.inner.Listing.{Whole, whole_view, whole_views, whole_key, whole_factory, of_abstract, of_concrete, whole_in, listed_of, listed_in, own_lists}
use Rattle.psdl_members.specs.inner.Rowed.{row_of}
use Rattle.psdl_members.proofs.Pairs.{clash_is, repeats_clash, both, and_false}
use Rattle.psdl_members.proofs.Rowing.{flat_same}

pub length-listed : (ls : List ListedNode) → length (listed_views ls) ≡ length ls
length-listed [] = refl
length-listed (l ∷ ls) = omega (arith, length-listed ls)

-- ---- in bodies

abstract_keys : (ms : List AbstractHomeMember) → flat_map (of_abstract kinds.Key) ms ≡ map whole_key (flat_map abstract_key ms)
abstract_keys [] = refl
abstract_keys (KeyMember key ∷ ms) = ap (λ (l : List Whole). whole_key key ∷ l) (abstract_keys ms)
abstract_keys (FactoryMember factory ∷ ms) = abstract_keys ms
abstract_keys (HomeOperation operation ∷ ms) = abstract_keys ms

concrete_keys : (ms : List HomeMember) → flat_map (of_concrete kinds.Key) ms ≡ map whole_key (flat_map concrete_key ms)
concrete_keys [] = refl
concrete_keys (PlainKey key ∷ ms) = ap (λ (l : List Whole). whole_key key ∷ l) (concrete_keys ms)
concrete_keys (PrimaryKey key ∷ ms) = ap (λ (l : List Whole). whole_key key ∷ l) (concrete_keys ms)
concrete_keys (HomeFactory factory ∷ ms) = concrete_keys ms

abstract_factories : (ms : List AbstractHomeMember) → flat_map (of_abstract kinds.Factory) ms ≡ map whole_factory (flat_map abstract_factory ms)
abstract_factories [] = refl
abstract_factories (KeyMember key ∷ ms) = abstract_factories ms
abstract_factories (FactoryMember factory ∷ ms) = ap (λ (l : List Whole). whole_factory factory ∷ l) (abstract_factories ms)
abstract_factories (HomeOperation operation ∷ ms) = abstract_factories ms

concrete_factories : (ms : List HomeMember) → flat_map (of_concrete kinds.Factory) ms ≡ map whole_factory (flat_map concrete_factory ms)
concrete_factories [] = refl
concrete_factories (PlainKey key ∷ ms) = concrete_factories ms
concrete_factories (PrimaryKey key ∷ ms) = concrete_factories ms
concrete_factories (HomeFactory factory ∷ ms) = ap (λ (l : List Whole). whole_factory factory ∷ l) (concrete_factories ms)

whole_keys : (what : What) → whole_in kinds.Key what ≡ map whole_key (keys what)
whole_keys (IsAbstractHome (Some body)) = abstract_keys body.members
whole_keys (IsAbstractHome None) = refl
whole_keys (IsConcreteHome home) = concrete_keys home.members
whole_keys IsModule = refl
whole_keys (IsConstant constant) = refl
whole_keys (IsAlias before spec dimensions) = refl
whole_keys (IsStruct struct) = refl
whole_keys (IsEnumeration enumerators) = refl
whole_keys IsEnumerator = refl
whole_keys (IsAbstractType body) = refl
whole_keys (IsConcreteType body) = refl
whole_keys (IsCatalog provisions) = refl

whole_factories : (what : What) → whole_in kinds.Factory what ≡ map whole_factory (factories what)
whole_factories (IsAbstractHome (Some body)) = abstract_factories body.members
whole_factories (IsAbstractHome None) = refl
whole_factories (IsConcreteHome home) = concrete_factories home.members
whole_factories IsModule = refl
whole_factories (IsConstant constant) = refl
whole_factories (IsAlias before spec dimensions) = refl
whole_factories (IsStruct struct) = refl
whole_factories (IsEnumeration enumerators) = refl
whole_factories IsEnumerator = refl
whole_factories (IsAbstractType body) = refl
whole_factories (IsConcreteType body) = refl
whole_factories (IsCatalog provisions) = refl

pub keys_in : (what : What) → listed_in kinds.Key what ≡ lists_of kinds.Key what
keys_in what = ap (map listed_of) (whole_keys what) ∙ map-map listed_of whole_key (keys what)

pub factories_in : (what : What) → listed_in kinds.Factory what ≡ lists_of kinds.Factory what
factories_in what = ap (map listed_of) (whole_factories what) ∙ map-map listed_of whole_factory (factories what)

identifiers_by : (kind : ListKind) (what : What) → map (λ (w : Whole). w.identifiers) (whole_in kind what) ≡ identifiers_of kind what
identifiers_by kinds.Key what = ap (map (λ (w : Whole). w.identifiers)) (whole_keys what) ∙ map-map (λ (w : Whole). w.identifiers) whole_key (keys what)
identifiers_by kinds.Factory what = ap (map (λ (w : Whole). w.identifiers)) (whole_factories what) ∙ map-map (λ (w : Whole). w.identifiers) whole_factory (factories what)

-- what is taken of each of more
taken_of_more : {X : Type 0} (f : Whole → X) (old new : List ListedNode) (more : List Whole) → whole_views new ≡ whole_views old ++ more
    → map (λ l. f (whole_view l)) new ≡ map (λ l. f (whole_view l)) old ++ map f more
taken_of_more {X} f old new more is =
    sym (map-map f whole_view new) ∙ ap (map f) is ∙ map-append f (whole_views old) more ∙ ap (λ (l : List X). l ++ map f more) (map-map f whole_view old)

pub listed_more : (kind : ListKind) (what : What) (old new : List ListedNode) → whole_views new ≡ whole_views old ++ whole_in kind what → listed_views new ≡ listed_views old ++ listed_in kind what
listed_more kind what old new is = taken_of_more listed_of old new (whole_in kind what) is

pub identifiers_more : (kind : ListKind) (what : What) (old new : List ListedNode) → whole_views new ≡ whole_views old ++ whole_in kind what → identifiers_of_each new ≡ identifiers_of_each old ++ identifiers_of kind what
identifiers_more kind what old new is =
    taken_of_more (λ (w : Whole). w.identifiers) old new (whole_in kind what) is ∙ ap (λ (l : List (List Identifier)). identifiers_of_each old ++ l) (identifiers_by kind what)

pub no_lists : (kind : ListKind) (all : List Declaration) (n : ℕ) → length all ≤ n → own_lists kind all n ≡ []
no_lists kind all n past = ap (λ (d : Declaration). listed_in kind d.what) (get_or_past all n nothing past)

-- ---- clashes

lists_decide : (a b : List (List ℕ)) → Decides (same_list a b) (a ≡ b)
lists_decide a b = slice_eq-Decides bytes_eq-Decides a b (same_list a b) refl

listed_is : (a b : Listed) → same_listed a b ≡ true → a ≡ b
listed_is a b h =
    let parts = both (bytes_eq a.name b.name) (same_list a.members b.members) h in
    let make : List ℕ → List (List ℕ) → Listed = λ name members. record { name = name; members = members } in
    ap (λ (name : List ℕ). make name a.members) ((bytes_eq-Decides a.name b.name).0 parts.0) ∙ ap (λ (ms : List (List ℕ)). make b.name ms) ((lists_decide a.members b.members).0 parts.1)

with_itself : (a : Listed) → lists_clash a a ≡ false
with_itself a =
    ap (λ (b : Bool). bytes_eq (lower a.name) (lower a.name) && not b) ((lists_decide a.members a.members).1 refl) ∙ and_false (bytes_eq (lower a.name) (lower a.name))

turned : (a b : Listed) → lists_clash a b ≡ lists_clash b a
turned a b =
    let names : bytes_eq (lower a.name) (lower b.name) ≡ bytes_eq (lower b.name) (lower a.name) =
    same_from_decides (bytes_eq (lower a.name) (lower b.name)) (bytes_eq (lower b.name) (lower a.name)) (bytes_eq-Decides (lower a.name) (lower b.name))
    (λ t. sym ((bytes_eq-Decides (lower b.name) (lower a.name)).0 t), λ e. (bytes_eq-Decides (lower b.name) (lower a.name)).1 (sym e)) in
    let lists : same_list a.members b.members ≡ same_list b.members a.members =
    same_from_decides (same_list a.members b.members) (same_list b.members a.members) (lists_decide a.members b.members)
    (λ t. sym ((lists_decide b.members a.members).0 t), λ e. (lists_decide b.members a.members).1 (sym e)) in
    ap (λ (v : Bool). v && not (same_list a.members b.members)) names ∙ ap (λ (v : Bool). bytes_eq (lower b.name) (lower a.name) && not v) lists

-- keys and factories by descent, each once: it does not matter how often they come
once_clash : (ls : List Listed) → some_clash lists_clash ls ≡ not (are_distinct lists_clash (without_repeats same_listed ls))
once_clash ls = sym (repeats_clash same_listed listed_is lists_clash ls) ∙ sym (clash_is lists_clash with_itself turned (without_repeats same_listed ls))

pub home_clash : (kind : ListKind) (all : List Declaration) (n : ℕ) → some_clash lists_clash (flat_map (own_lists kind all) (ancestry all n)) ≡ not (are_distinct lists_clash (home_lists kind all n))
home_clash kinds.Key all n =
    ap (λ (l : List Listed). some_clash lists_clash l) (flat_same (own_lists kinds.Key all) (λ a. lists_of kinds.Key (at all a).what) (λ a. keys_in (at all a).what) (ancestry all n))
    ∙ once_clash (flat_map (λ a. lists_of kinds.Key (at all a).what) (ancestry all n))
home_clash kinds.Factory all n =
    ap (λ (l : List Listed). some_clash lists_clash l) (flat_same (own_lists kinds.Factory all) (λ a. lists_of kinds.Factory (at all a).what) (λ a. factories_in (at all a).what) (ancestry all n))
    ∙ once_clash (flat_map (λ a. lists_of kinds.Factory (at all a).what) (ancestry all n))

-- from those sources alone that have some
pub clash_by_sources : (kind : ListKind) (all : List Declaration) (r : Rows) (graph : List (List ℕ)) (own : List Bool) (n : ℕ) (sources : List ℕ) → ClashAlike kind all r → graph ≡ graph_of all → ((m : ℕ) → is_own own m ≡ false → row_of r m ≡ [])
    → sources ≡ sources_in graph own n → some_clash entries_clash (flat_map (row_of r) sources) ≡ not (are_distinct lists_clash (home_lists kind all n))
clash_by_sources kind all r graph own n sources alike g none e =
    ap (λ (l : List ℕ). some_clash entries_clash (flat_map (row_of r) l)) (e ∙ ap (λ k. sources_in k own n) g)
    ∙ ap (λ (l : List Entry). some_clash entries_clash l) (sym (inherited (row_of r) all own n none))
    ∙ alike (ancestry all n)
    ∙ home_clash kind all n

-- from all of them
pub clash_by_descent : (kind : ListKind) (all : List Declaration) (r : Rows) (n : ℕ) → ClashAlike kind all r → some_clash entries_clash (flat_map (row_of r) (ancestry_in (graph_of all) n)) ≡ not (are_distinct lists_clash (home_lists kind all n))
clash_by_descent kind all r n alike = ap (λ (l : List ℕ). some_clash entries_clash (flat_map (row_of r) l)) (sym (ancestry_is all n)) ∙ alike (ancestry all n) ∙ home_clash kind all n
