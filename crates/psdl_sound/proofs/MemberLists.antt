-- The lists of members of keys and factories in the schema of a text without a fault.
use Rattle.std.proofs.Common.{◌≡◌, ℕ, ◌+◌, ◌<◌, List, [], ◌∷◌, length, map, get_or, Bool, true, false, not, ◌||◌, ◌==◌, inl, inr, Option, Some, None, refl, sym, ap, subst, ◌∙◌, arith}
use Rattle.std.specs.List.{slice_get, flat_map, list_any, position_from}
use Rattle.std.specs.Option.{option_to_list}
use Rattle.std.specs.Prelude.{nat_le}
use Rattle.std.specs.Str.{bytes_eq}
use Rattle.std.proofs.lemmas.Bool.{or_parts, eqb-true, eq-eqb, le-leb}
use Rattle.std.proofs.lemmas.Slice.Eq.{bytes_eq-Decides}
use Rattle.psdl_tree.specs.declared.names.Identifier.{Identifier}
use Rattle.psdl_tree.specs.Trees.{Name, Key, Factory}
use Rattle.type_layout.specs.declared.schema.Factory.{Factory as PlainFactory}
use Rattle.type_layout.specs.declared.schema.Home.{Home}
use Rattle.type_layout.specs.Schemas.{given, members_at}
use Rattle.type_layout.specs.Sound.{AreMembers}
use Rattle.type_layout.specs.Types.{PlainMember, Char}
use Rattle.psdl_directory.specs.declared.fault.CheckFault.{CheckFault}
use Rattle.psdl_directory.specs.declared.fault.CheckKind.{CheckKind}
use Rattle.psdl_directory.specs.declared.fault.CheckKind.TheVariants.{KeyMember, FactoryMember}
use Rattle.psdl_directory.specs.Declarations.{What, IsModule, IsConstant, IsAlias, IsStruct, IsEnumeration, IsEnumerator, IsAbstractType, IsConcreteType, IsAbstractHome, IsConcreteHome, IsCatalog, Declaration}
use Rattle.psdl_lineage.specs.Descent.{StateMember, has, ancestry, members, type_of_home, names_of, Listed, same_listed, listed_key, listed_factory, home_keys, home_factories}
use Rattle.psdl_check.specs.Faults.{first_fault}
use Rattle.psdl_lineage.specs.Graph.{ancestry_in, graph_of}
use Rattle.psdl_directory.specs.Lookup.{at}
use Rattle.psdl_rules.specs.Words.{is_called, same_name, listed_wrong}
use Rattle.psdl_directory.specs.Parts.{keys, factories, managed, key_list, factory_list}
use Rattle.psdl_check.specs.Schemas.{Introduced, indexes, factory_of, home_layout, home_no, schema}
use Rattle.psdl_standings.specs.Standings.{standings}
use Rattle.psdl_lineage.proofs.Texts.{ancestry_is, is_graph, length-graph_of}
use Rattle.psdl_lineage.proofs.Foremost.{first_passes}
use Rattle.psdl_lineage.proofs.Kept.{ancestry_below}
use Rattle.psdl_sound.proofs.Among.{Among, at_among, among_from, among_map, among_some, any_among, among_any, all_among, among_fresh, Differ, differ_flat, differ_option, distinct_told}
use Rattle.psdl_sound.proofs.Catalogs.{housed, home_at_number}
use Rattle.psdl_check.proofs.FaultlessTexts.{both_empty, does_not_hold, none_given, no_fault_at}
use Rattle.psdl_sound.proofs.Homes.{IsHome}
use Rattle.psdl_sound.proofs.KeyNames.{IsKey, same_id}
use Rattle.psdl_check.proofs.Meanings.{position_within}
use Rattle.psdl_sound.proofs.Parents.{none_among, typed}

-- ---- numbers of members by names

-- the place of a member with a name
pub record IsPlaceOf (ms : List PlainMember) (name : List ℕ) (p : ℕ) : Type 0 where
  pub is_there : p < length ms
  pub one_name : (d : PlainMember) → name ≡ (get_or ms p d).name

-- what is found by a name is such a place
pub place_told : (ms : List PlainMember) (name : List ℕ) (p : ℕ) → position_from (λ m. bytes_eq name m.name) 0 ms ≡ Some p → IsPlaceOf ms name p
place_told ms name p is =
    let test : PlainMember → Bool = λ m. bytes_eq name m.name in
    let lt : p < length ms = omega (arith, position_within test 0 ms p is) in
    record { is_there = lt; one_name = λ d. (bytes_eq-Decides name (get_or ms p d).name).0 (first_passes test ms p d lt is) }

-- whence a number comes
pub index_told : (ms : List PlainMember) (names : List (List ℕ)) (p : ℕ) → Among p (indexes ms names) → (name : List ℕ) × Among name names × (position_from (λ m. bytes_eq name m.name) 0 ms ≡ Some p)
index_told ms names p a =
    let r = among_from (λ name. option_to_list (position_from (λ m. bytes_eq name m.name) 0 ms)) names p a in
    (r.0, r.1, among_some (position_from (λ m. bytes_eq r.0 m.name) 0 ms) p r.2)

-- where no name comes twice, they are members
pub are_members : (ms : List PlainMember) (names : List (List ℕ)) → Differ names → AreMembers (indexes ms names) ms
are_members ms names d =
    let f : List ℕ → List ℕ = λ name. option_to_list (position_from (λ m. bytes_eq name m.name) 0 ms) in
    let none : PlainMember = record { name = []; type = Char; readonly = false } in
    let differ : Differ (indexes ms names) =
    differ_flat f names d (λ name a. differ_option (position_from (λ m. bytes_eq name m.name) 0 ms))
    (λ x z p a b u v.
    let one = place_told ms x p (among_some (position_from (λ m. bytes_eq x m.name) 0 ms) p u) in
    let two = place_told ms z p (among_some (position_from (λ m. bytes_eq z m.name) 0 ms) p v) in
    one.one_name none ∙ sym (two.one_name none)) in (
      all_among (λ i. nat_le (i + 1) (length ms)) (indexes ms names)
          (λ p a. let r = index_told ms names p a in let there = place_told ms r.0 p r.2 in le-leb (p + 1) (length ms) (omega (arith, there.is_there))),
      distinct_told (λ x. x) (λ i j. i == j) (λ x y h. eqb-true x y h) (indexes ms names) (subst (λ (l : List ℕ). Differ l) (sym (same_id (indexes ms names))) differ),
    )

-- ---- lists in a text

-- of a list that has no fault no name comes twice, nor is it one of those in front
listed_behind : (kind : CheckKind) (ms : List StateMember) (earlier is : List Identifier) → listed_wrong kind ms earlier is ≡ [] → Differ (names_of is) × ((i j : Identifier) → Among i is → Among j earlier → i.name ≡ j.name → ⊥)
listed_behind kind ms earlier [] none = (tt, λ i j a b e. a)
listed_behind kind ms earlier (x ∷ xs) none =
    let called : Bool = list_any (is_called x) ms in
    let both = both_empty _ (listed_wrong kind ms (x ∷ earlier) xs) none in
    let off = or_parts (not called) (list_any (same_name x) earlier) (does_not_hold (not called || list_any (same_name x) earlier) kind x.place both.0) in
    let rest = listed_behind kind ms (x ∷ earlier) xs both.1 in
    ((λ a. let r = among_map (λ (i : Identifier). i.name) xs x.name a in rest.1 r.0 x r.1 (inl refl) r.2, rest.0), by x xs earlier off.1 (λ i j a b e. rest.1 i j a b e))
  where
    by : (x : Identifier) (xs earlier : List Identifier) → list_any (same_name x) earlier ≡ false → ((i j : Identifier) → Among i xs → Among j (x ∷ earlier) → i.name ≡ j.name → ⊥)
        → (i j : Identifier) → Among i (x ∷ xs) → Among j earlier → i.name ≡ j.name → ⊥
    by x xs earlier off rest i j (inl s) b e =
        let alike : same_name x j ≡ true = (bytes_eq-Decides x.name j.name).1 (ap (λ (y : Identifier). y.name) s ∙ e) in
        let both : true ≡ false = sym (any_among (same_name x) earlier j b alike) ∙ off in
        cc
    by x xs earlier off rest i j (inr a) b e = rest i j a (inr b) e

-- ---- what descends is declared

-- what stands among numbers is had
pub among_has : (ns : List ℕ) (n : ℕ) → Among n ns → has ns n ≡ true
among_has ns n a = any_among (λ m. m == n) ns n a (eq-eqb n n refl)

-- what is had stands among them
pub has_among : (ns : List ℕ) (n : ℕ) → has ns n ≡ true → Among n ns
has_among ns n h =
    let r = among_any (λ m. m == n) ns h in
    subst (λ (m : ℕ). Among m ns) (eqb-true r.0 n r.2) r.1

-- what a declaration descends from is declared
pub ancestor_declared : (all : List Declaration) (n a : ℕ) → n < length all → Among a (ancestry all n) → a < length all
ancestor_declared all n a lt there =
    let h : has (ancestry_in (graph_of all) n) a ≡ true = ap (λ (l : List ℕ). has l a) (sym (ancestry_is all n)) ∙ among_has (ancestry all n) a there in
    omega (arith, ancestry_below (graph_of all) n a (is_graph all) (omega (arith, lt, length-graph_of all)) h, length-graph_of all)

-- ---- keys and factories

-- what has keys names a type
key_managed : (what : What) (key : Key) → Among key (keys what) → (name : Name) × (managed what ≡ Some name)
key_managed (IsAbstractHome (Some body)) key a = (body.managed, refl)
key_managed (IsConcreteHome home) key a = (home.managed, refl)
key_managed (IsAbstractHome None) key a = absurd a
key_managed IsModule key a = absurd a
key_managed (IsConstant constant) key a = absurd a
key_managed (IsAlias before spec dimensions) key a = absurd a
key_managed (IsStruct struct) key a = absurd a
key_managed (IsEnumeration enumerators) key a = absurd a
key_managed IsEnumerator key a = absurd a
key_managed (IsAbstractType body) key a = absurd a
key_managed (IsConcreteType body) key a = absurd a
key_managed (IsCatalog provisions) key a = absurd a

-- what has factories names a type
factory_managed : (what : What) (factory : Factory) → Among factory (factories what) → (name : Name) × (managed what ≡ Some name)
factory_managed (IsAbstractHome (Some body)) factory a = (body.managed, refl)
factory_managed (IsConcreteHome home) factory a = (home.managed, refl)
factory_managed (IsAbstractHome None) factory a = absurd a
factory_managed IsModule factory a = absurd a
factory_managed (IsConstant constant) factory a = absurd a
factory_managed (IsAlias before spec dimensions) factory a = absurd a
factory_managed (IsStruct struct) factory a = absurd a
factory_managed (IsEnumeration enumerators) factory a = absurd a
factory_managed IsEnumerator factory a = absurd a
factory_managed (IsAbstractType body) factory a = absurd a
factory_managed (IsConcreteType body) factory a = absurd a
factory_managed (IsCatalog provisions) factory a = absurd a

-- a key of a home is declared by one that it descends from
pub record IsKeyOf (all : List Declaration) (n : ℕ) (k : Listed) : Type 0 where
  pub owner : ℕ
  pub key : Key
  pub is_ancestor : Among owner (ancestry all n)
  pub is_owned : Among key (keys (at all owner).what)
  pub one_list : listed_key key ≡ k

-- each key of a home is such
pub key_told : (all : List Declaration) (n : ℕ) (k : Listed) → Among k (home_keys all n) → IsKeyOf all n k
key_told all n k a =
    let f : ℕ → List Listed = λ a. map listed_key (keys (at all a).what) in
    let r = among_from f (ancestry all n) k (among_fresh same_listed [] (flat_map f (ancestry all n)) k a) in
    let s = among_map listed_key (keys (at all r.0).what) k r.2 in
    record { owner = r.0; key = s.0; is_ancestor = r.1; is_owned = s.1; one_list = s.2 }

-- the list of a key has no fault where it is declared
pub record HasType (all : List Declaration) (a : ℕ) (what : CheckKind) (list : List Identifier) : Type 0 where
  pub home_type : ℕ
  pub is_type : type_of_home all a ≡ Some home_type
  pub none_wrong : listed_wrong what (members all home_type) [] list ≡ []

-- of a key
pub key_has_type : (all : List Declaration) → first_fault all ≡ None → (a : ℕ) → a < length all → (key : Key) → Among key (keys (at all a).what) → HasType all a KeyMember (key_list key)
key_has_type all none a lt key there =
    let name = key_managed (at all a).what key there in
    let type = typed all none a lt name.0 name.1 in
    let wrong : List StateMember → List CheckFault = λ ms. flat_map (λ k. listed_wrong KeyMember ms [] (key_list k)) (keys (at all a).what) in
    let off : wrong (members all type.0) ≡ [] = none_given (type_of_home all a) (λ t. wrong (members all t)) (no_fault_at all none a lt).no_key_members type.0 type.1 in
    record { home_type = type.0; is_type = type.1; none_wrong = none_among (λ k. listed_wrong KeyMember (members all type.0) [] (key_list k)) (keys (at all a).what) off key there }

-- of a factory
pub factory_has_type : (all : List Declaration) → first_fault all ≡ None → (a : ℕ) → a < length all → (factory : Factory) → Among factory (factories (at all a).what) → HasType all a FactoryMember (factory_list factory)
factory_has_type all none a lt factory there =
    let name = factory_managed (at all a).what factory there in
    let type = typed all none a lt name.0 name.1 in
    let wrong : List StateMember → List CheckFault = λ ms. flat_map (λ f. listed_wrong FactoryMember ms [] (factory_list f)) (factories (at all a).what) in
    let off : wrong (members all type.0) ≡ [] = none_given (type_of_home all a) (λ t. wrong (members all t)) (no_fault_at all none a lt).no_factory_members type.0 type.1 in
    record { home_type = type.0; is_type = type.1; none_wrong = none_among (λ f. listed_wrong FactoryMember (members all type.0) [] (factory_list f)) (factories (at all a).what) off factory there }

-- the names in the list of a home's key differ
pub key_differs : (all : List Declaration) → first_fault all ≡ None → (n : ℕ) → n < length all → (k : Listed) → Among k (home_keys all n) → Differ k.members
key_differs all none n lt k a =
    let told = key_told all n k a in
    let has = key_has_type all none told.owner (ancestor_declared all n told.owner lt told.is_ancestor) told.key told.is_owned in
    subst (λ (l : Listed). Differ l.members) told.one_list (listed_behind KeyMember (members all has.home_type) [] (key_list told.key) has.none_wrong).0

-- so do those of a factory
pub factory_differs : (all : List Declaration) → first_fault all ≡ None → (n : ℕ) → n < length all → (f : Listed) → Among f (home_factories all n) → Differ f.members
factory_differs all none n lt f a =
    let g : ℕ → List Listed = λ a. map listed_factory (factories (at all a).what) in
    let r = among_from g (ancestry all n) f (among_fresh same_listed [] (flat_map g (ancestry all n)) f a) in
    let s = among_map listed_factory (factories (at all r.0).what) f r.2 in
    let has = factory_has_type all none r.0 (ancestor_declared all n r.0 lt r.1) s.0 s.1 in
    subst (λ (l : Listed). Differ l.members) s.2 (listed_behind FactoryMember (members all has.home_type) [] (factory_list s.0) has.none_wrong).0

-- ---- of the schema

-- the members at the number of a home
pub members_of_number : (all : List Declaration) (h : ℕ) (k : ℕ) → IsHome all k h → members_at (schema all) (home_no all h) ≡ home_layout all (standings all) h
members_of_number all h k home = ap (λ (o : Option Home). given o [] (λ home. home.layout.members)) (home_at_number all k h home)

-- the members of a key are members of its home
pub key_members : (all : List Declaration) → first_fault all ≡ None → (n : ℕ) (i : Introduced) → IsKey all n i
    → AreMembers (indexes (home_layout all (standings all) i.home) i.listed.members) (members_at (schema all) (home_no all i.home))
key_members all none n i key =
    let home = housed all i.home key.is_home in
    let ms : List PlainMember = home_layout all (standings all) i.home in
    subst (λ (l : List PlainMember). AreMembers (indexes ms i.listed.members) l) (sym (members_of_number all i.home home.0 home.1))
    (are_members ms i.listed.members (key_differs all none i.home home.1.is_declared i.listed key.is_listed))

-- those of a factory are members of its home
pub factories_sound : (all : List Declaration) → first_fault all ≡ None → (k n : ℕ) → IsHome all k n → (j : ℕ) (f : PlainFactory)
    → slice_get (map (factory_of (home_layout all (standings all) n)) (home_factories all n)) j ≡ Some f → AreMembers f.members (home_layout all (standings all) n)
factories_sound all none k n home j f is =
    let ms : List PlainMember = home_layout all (standings all) n in
    let r = among_map (factory_of ms) (home_factories all n) f (at_among (map (factory_of ms) (home_factories all n)) j f is) in
    subst (λ (x : PlainFactory). AreMembers x.members ms) r.2 (are_members ms r.0.members (factory_differs all none n home.is_declared r.0 r.1))
