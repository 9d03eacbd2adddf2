-- The catalogs of the schema of a text without a fault.
use Rattle.std.proofs.Common.{◌≡◌, ℕ, suc, ◌+◌, ◌<◌, List, [], ◌∷◌, length, map, Bool, true, false, inl, inr, Option, Some, None, IsSome, refl, sym, ap, subst, ◌∙◌, arith, ⊎_elim}
use Rattle.std.specs.List.{slice_get, flat_map, list_all, list_any, enumerate_from}
use Rattle.std.specs.Option.{option_map, option_to_list, option_and_then}
use Rattle.std.specs.Str.{bytes_eq}
use Rattle.std.proofs.lemmas.Bool.{and_parts, cases_order}
use Rattle.std.proofs.lemmas.Option.{slice_get-map}
use Rattle.std.proofs.lemmas.Slice.Eq.{bytes_eq-Decides}
use Rattle.psdl_tree.specs.declared.names.Identifier.{Identifier}
use Rattle.psdl_tree.specs.Trees.{Definitions, Provision}
use Rattle.type_layout.specs.declared.schema.Home.{Home}
use Rattle.type_layout.specs.Scopes.{Provided}
use Rattle.type_layout.specs.Schemas.{nth, home_at}
use Rattle.type_layout.specs.Sound.{same_provided, are_distinct, is_name}
use Rattle.psdl_directory.specs.declared.fault.CheckKind.TheVariants.{Redefined}
use Rattle.psdl_directory.specs.Declarations.{What, IsModule, IsConstant, IsAlias, IsStruct, IsEnumeration, IsEnumerator, IsAbstractType, IsConcreteType, IsAbstractHome, IsConcreteHome, IsCatalog, Declaration, all_declarations}
use Rattle.psdl_lineage.specs.Descent.{has, ancestry, concrete_homes, provider}
use Rattle.psdl_check.specs.Faults.{first_fault}
use Rattle.psdl_directory.specs.Lookup.{lower, at, defined}
use Rattle.psdl_directory.specs.Parts.{is_module, is_forward, provided, scopes, body_names}
use Rattle.psdl_check.specs.Schemas.{home_no, home_of, scoped_name, provided_home, provided_homes, schema}
use Rattle.psdl_members.specs.Clashes.{are_alike}
use Rattle.psdl_rules.specs.Faults.Redefined.{redefined_behind, redefined_in}
use Rattle.psdl_standings.specs.Standings.{standings}
use Rattle.psdl_check.specs.TextNames.{AreNames}
use Rattle.psdl_sound.proofs.Among.{Among, at_among, among_at, among_from, among_map, among_some, among_found, any_among, Differ, differ_flat, differ_under, map_tells, map_flat, distinct_told}
use Rattle.psdl_check.proofs.FaultlessTexts.{both_empty, does_not_hold, no_fault_at}
use Rattle.psdl_sound.proofs.Homes.{IsHome, is_home, homes_of}
use Rattle.psdl_sound.proofs.ScopedNames.{each_passes, paths_named, name_named}
use Rattle.psdl_sound.proofs.DistinctNames.{declared_once}
use Rattle.psdl_sound.proofs.ScopedSpellings.{same_scoped}

-- ---- homes by their numbers

-- a concrete home is one by its place
pub housed : (all : List Declaration) (h : ℕ) → Among h (concrete_homes all) → (k : ℕ) × IsHome all k h
housed all h a = let r = among_at (concrete_homes all) h a in (r.0, is_home all r.0 h r.1)

-- the home with its number is it
pub home_at_number : (all : List Declaration) (k n : ℕ) → IsHome all k n → home_at (schema all) (home_no all n) ≡ Some (home_of all (standings all) n)
home_at_number all k n home =
    ap (λ (m : ℕ). nth (schema all).homes m) home.has_number
    ∙ ap (λ (l : List Home). slice_get l k) (homes_of all)
    ∙ slice_get-map (home_of all (standings all)) (concrete_homes all) k
    ∙ ap (option_map (home_of all (standings all))) home.at_place

-- it is there
pub home_there : (all : List Declaration) (h : ℕ) → Among h (concrete_homes all) → IsSome (home_at (schema all) (home_no all h))
home_there all h a = let r = housed all h a in subst IsSome (sym (home_at_number all r.0 h r.1)) refl

-- ---- what is provided

-- what is provided by a declaration
pub provided_of : (all : List Declaration) → (schema all).provided ≡ flat_map (provided_homes all) (enumerate_from 0 all)
unfolding schema
provided_of all = refl

-- the home that is provided is a concrete home
pub record IsProvided (all : List Declaration) (n : ℕ) (d : Declaration) (p : Provided) : Type 0 where
  pub provision : Provision
  pub of_catalog : Among provision (provided d.what)
  pub one_catalog : scoped_name d ≡ p.catalog
  pub one_name : provision.name.name ≡ p.name
  pub home : ℕ
  pub is_home : Among home (concrete_homes all)
  pub one_home : home_no all home ≡ p.home

provider_among : (all : List Declaration) (o : Option ℕ) (h : ℕ) → option_and_then (provider all) o ≡ Some h → Among h (concrete_homes all)
provider_among all None h e = absurd (cc)
provider_among all (Some m) h e = (among_found (λ g. has (ancestry all g) m) (concrete_homes all) h e).0

pub is_provided : (all : List Declaration) (n : ℕ) (d : Declaration) (p : Provided) → Among p (provided_homes all (n, d)) → IsProvided all n d p
is_provided all n d p a =
    let r = among_from (provided_home all n d) (provided d.what) p a in
    let made : ℕ → Provided = λ h. record { catalog = scoped_name d; name = r.0.name.name; home = home_no all h } in
    let o : Option ℕ = option_and_then (provider all) (defined all n r.0.home) in
    let s = among_map made (option_to_list o) p r.2 in
    record {
      provision = r.0;
      of_catalog = r.1;
      one_catalog = ap (λ (x : Provided). x.catalog) s.2;
      one_name = ap (λ (x : Provided). x.name) s.2;
      home = s.0;
      is_home = provider_among all (defined all n r.0.home) s.0 (among_some o s.0 s.1);
      one_home = ap (λ (x : Provided). x.home) s.2;
    }

-- each home that is provided is there
pub provided_there : (all : List Declaration) (j : ℕ) (p : Provided) → slice_get (schema all).provided j ≡ Some p → IsSome (home_at (schema all) p.home)
provided_there all j p is =
    let a : Among p (flat_map (provided_homes all) (enumerate_from 0 all)) = subst (λ (l : List Provided). Among p l) (provided_of all) (at_among (schema all).provided j p is) in
    let r = among_from (provided_homes all) (enumerate_from 0 all) p a in
    let one = is_provided all r.0.0 r.0.1 p r.2 in
    subst (λ h. IsSome (home_at (schema all) h)) one.one_home (home_there all one.home one.is_home)

-- ---- declarations with their numbers

-- each by its number
pub numbered : (ds : List Declaration) (i : ℕ) (e : ℕ × Declaration) → Among e (enumerate_from i ds) → (k : ℕ) × (e.0 ≡ i + k) × (k < length ds) × (at ds k ≡ e.1)
numbered [] i e a = absurd a
numbered (d ∷ ds) i e (inl s) = (0, ap (λ (x : ℕ × Declaration). x.0) (sym s) ∙ omega arith, omega arith, ap (λ (x : ℕ × Declaration). x.1) s)
numbered (d ∷ ds) i e (inr a) = let r = numbered ds (i + 1) e a in (suc r.0, omega (arith, r.1), omega (arith, r.2), r.3)

-- no two have one number
pub numbers_differ : (ds : List Declaration) (i : ℕ) → Differ (enumerate_from i ds)
numbers_differ [] i = tt
numbers_differ (d ∷ ds) i = (λ a. let r = numbered ds (i + 1) (i, d) a in omega (arith, r.1), numbers_differ ds (i + 1))

-- ---- names of provisions

-- of identifiers that are not redefined behind others none is alike an earlier one
names_behind : (earlier is : List Identifier) → redefined_behind earlier is ≡ [] → Differ (map (λ i. i.name) is) × ((i j : Identifier) → Among i is → Among j earlier → i.name ≡ j.name → ⊥)
names_behind earlier [] none = (tt, λ i j a b e. a)
names_behind earlier (x ∷ xs) none =
    let both = both_empty _ (redefined_behind (x ∷ earlier) xs) none in
    let off : list_any (are_alike x) earlier ≡ false = does_not_hold (list_any (are_alike x) earlier) Redefined x.place both.0 in
    let rest = names_behind (x ∷ earlier) xs both.1 in
    ((λ a. let r = among_map (λ (i : Identifier). i.name) xs x.name a in rest.1 r.0 x r.1 (inl refl) r.2, rest.0), by x xs earlier off (λ i j a b e. rest.1 i j a b e))
  where
    by : (x : Identifier) (xs earlier : List Identifier) → list_any (are_alike x) earlier ≡ false → ((i j : Identifier) → Among i xs → Among j (x ∷ earlier) → i.name ≡ j.name → ⊥)
        → (i j : Identifier) → Among i (x ∷ xs) → Among j earlier → i.name ≡ j.name → ⊥
    by x xs earlier off rest i j (inl s) b e =
        let alike : are_alike x j ≡ true = (bytes_eq-Decides (lower x.name) (lower j.name)).1 (ap (λ (y : Identifier). lower y.name) s ∙ ap lower e) in
        let both : true ≡ false = sym (any_among (are_alike x) earlier j b alike) ∙ off in
        cc
    by x xs earlier off rest i j (inr a) b e = rest i j a (inr b) e

provision_names : (what : What) → flat_map redefined_in (scopes what) ≡ [] → Differ (map (λ (p : Provision). p.name.name) (provided what))
provision_names what none = by what (names_behind [] (body_names what) (both_empty (redefined_in (body_names what)) _ none).0).0
  where
    same : (ps : List Provision) → map (λ (i : Identifier). i.name) (map (λ p. p.name) ps) ≡ map (λ (p : Provision). p.name.name) ps
    same [] = refl
    same (p ∷ ps) = ap (λ (l : List (List ℕ)). p.name.name ∷ l) (same ps)

    by : (what : What) → Differ (map (λ (i : Identifier). i.name) (body_names what)) → Differ (map (λ (p : Provision). p.name.name) (provided what))
    by (IsCatalog provisions) d = subst (λ (l : List (List ℕ)). Differ l) (same provisions) d
    by IsModule d = tt
    by (IsConstant constant) d = tt
    by (IsAlias before spec dimensions) d = tt
    by (IsStruct struct) d = tt
    by (IsEnumeration enumerators) d = tt
    by IsEnumerator d = tt
    by (IsAbstractType body) d = tt
    by (IsConcreteType body) d = tt
    by (IsAbstractHome body) d = tt
    by (IsConcreteHome home) d = tt

-- ---- names of provided homes

-- what tells a provided home
abbrev told : Provided → List ℕ × List ℕ
told p = (p.catalog, p.name)

tells : (p q : Provided) → same_provided p q ≡ true → told p ≡ told q
tells p q h =
    let both = and_parts (bytes_eq p.catalog q.catalog) (bytes_eq p.name q.name) h in
    ap (λ (c : List ℕ). (c, p.name)) ((bytes_eq-Decides p.catalog q.catalog).0 both.0) ∙ ap (λ (n : List ℕ). (q.catalog, n)) ((bytes_eq-Decides p.name q.name).0 both.1)

told_of : (all : List Declaration) (n : ℕ) (d : Declaration) (q : Provision) (y : List ℕ × List ℕ) → Among y (map told (provided_home all n d q)) → (scoped_name d ≡ y.0) × (q.name.name ≡ y.1)
told_of all n d q y a =
    let made : ℕ → Provided = λ h. record { catalog = scoped_name d; name = q.name.name; home = home_no all h } in
    let o : Option ℕ = option_and_then (provider all) (defined all n q.home) in
    let r = among_map told (map made (option_to_list o)) y a in
    let s = among_map made (option_to_list o) r.0 r.1 in
    (ap (λ (x : Provided). x.catalog) s.2 ∙ ap (λ (x : List ℕ × List ℕ). x.0) r.2, ap (λ (x : Provided). x.name) s.2 ∙ ap (λ (x : List ℕ × List ℕ). x.1) r.2)

one_differs : (all : List Declaration) (n : ℕ) (d : Declaration) (q : Provision) → Differ (map told (provided_home all n d q))
one_differs all n d q = by (option_and_then (provider all) (defined all n q.home))
  where
    by : (o : Option ℕ) → Differ (map told (map (λ h. record { catalog = scoped_name d; name = q.name.name; home = home_no all h }) (option_to_list o)))
    by None = tt
    by (Some h) = (λ a. a, tt)

-- those of one catalog
catalog_differs : (all : List Declaration) (n : ℕ) (d : Declaration) → Differ (map (λ (p : Provision). p.name.name) (provided d.what)) → Differ (map told (provided_homes all (n, d)))
catalog_differs all n d names =
    let name : Provision → List ℕ = λ q. q.name.name in
    let f : Provision → List (List ℕ × List ℕ) = λ q. map told (provided_home all n d q) in
    subst (λ (l : List (List ℕ × List ℕ)). Differ l) (sym (map_flat told (provided_home all n d) (provided d.what)))
    (differ_flat f (provided d.what) (differ_under name (provided d.what) names) (λ q a. one_differs all n d q)
    (λ q r y a b u v. map_tells name (provided d.what) names q r a b ((told_of all n d q y u).1 ∙ sym (told_of all n d r y v).1)))

-- a catalog is no module, and not forward
is_catalog : (what : What) (q : Provision) → Among q (provided what) → (is_module what ≡ false) × (is_forward what ≡ false)
is_catalog (IsCatalog provisions) q a = (refl, refl)
is_catalog IsModule q a = absurd a
is_catalog (IsConstant constant) q a = absurd a
is_catalog (IsAlias before spec dimensions) q a = absurd a
is_catalog (IsStruct struct) q a = absurd a
is_catalog (IsEnumeration enumerators) q a = absurd a
is_catalog IsEnumerator q a = absurd a
is_catalog (IsAbstractType body) q a = absurd a
is_catalog (IsConcreteType body) q a = absurd a
is_catalog (IsAbstractHome body) q a = absurd a
is_catalog (IsConcreteHome home) q a = absurd a

same_pair : (e f : ℕ × Declaration) → e.0 ≡ f.0 → e.1 ≡ f.1 → e ≡ f
same_pair e f a b = ap (λ (n : ℕ). (n, e.1)) a ∙ ap (λ (d : Declaration). (f.0, d)) b

-- what is told of a declaration's provision
record Tells (all : List Declaration) (e : ℕ × Declaration) (y : List ℕ × List ℕ) : Type 0 where
  pub provision : Provision
  pub of_catalog : Among provision (provided e.1.what)
  pub one_catalog : scoped_name e.1 ≡ y.0

tells_of : (all : List Declaration) (e : ℕ × Declaration) (y : List ℕ × List ℕ) → Among y (map told (provided_homes all e)) → Tells all e y
tells_of all e y a =
    let r = among_map told (provided_homes all e) y a in
    let one = is_provided all e.0 e.1 r.0 r.1 in
    record { provision = one.provision; of_catalog = one.of_catalog; one_catalog = one.one_catalog ∙ ap (λ (x : List ℕ × List ℕ). x.0) r.2 }

abbrev in_names : Declaration → Bool
in_names d = list_all is_name d.path

module _ (tree : Definitions) (all : List Declaration) (is : all ≡ all_declarations tree) (none : first_fault all ≡ None) (names : AreNames all) where
  -- two catalogs of one name are one
  one_place : (m n : ℕ) → m < n → n < length all → is_module (at all n).what ≡ false → is_forward (at all n).what ≡ false → is_forward (at all m).what ≡ false → scoped_name (at all m) ≡ scoped_name (at all n) → ⊥
  one_place m n lt inside off whole first e =
      let paths = paths_named tree all is names in
      let same = same_scoped (at all m).path (at all n).path (at all m).name (at all n).name (each_passes in_names all paths m (omega (arith, lt, inside))) (each_passes in_names all paths n inside)
      (name_named all names m (omega (arith, lt, inside))) (name_named all names n inside) e in
      declared_once all none m n lt inside off whole first (sym same.0) (sym same.1)

  one_catalog : (e f : ℕ × Declaration) (y : List ℕ × List ℕ) → Among e (enumerate_from 0 all) → Among f (enumerate_from 0 all) → Among y (map told (provided_homes all e)) → Among y (map told (provided_homes all f)) → e ≡ f
  one_catalog e f y a b u v =
      let i = numbered all 0 e a in
      let j = numbered all 0 f b in
      let s = tells_of all e y u in
      let t = tells_of all f y v in
      let here = is_catalog e.1.what s.provision s.of_catalog in
      let there = is_catalog f.1.what t.provision t.of_catalog in
      let names : scoped_name (at all i.0) ≡ scoped_name (at all j.0) = ap scoped_name i.3 ∙ s.one_catalog ∙ sym t.one_catalog ∙ ap scoped_name (sym j.3) in
      let module_i : is_module (at all i.0).what ≡ false = ap (λ (d : Declaration). is_module d.what) i.3 ∙ here.0 in
      let module_j : is_module (at all j.0).what ≡ false = ap (λ (d : Declaration). is_module d.what) j.3 ∙ there.0 in
      let whole_i : is_forward (at all i.0).what ≡ false = ap (λ (d : Declaration). is_forward d.what) i.3 ∙ here.1 in
      let whole_j : is_forward (at all j.0).what ≡ false = ap (λ (d : Declaration). is_forward d.what) j.3 ∙ there.1 in
      ⊎_elim
      (λ same. same_pair e f (omega (arith, i.1, j.1, same)) (sym i.3 ∙ ap (at all) same ∙ j.3))
      (λ other.
      ⊎_elim (λ less. absurd (one_place i.0 j.0 less j.2 module_j whole_j whole_i names)) (λ more. absurd (one_place j.0 i.0 more i.2 module_i whole_i whole_j (sym names))) other)
      (cases_order i.0 j.0)

  -- no two provided homes have one catalog and one name
  pub provided_names : are_distinct same_provided (schema all).provided ≡ true
  provided_names =
      let list : List (ℕ × Declaration) = enumerate_from 0 all in
      let f : ℕ × Declaration → List (List ℕ × List ℕ) = λ e. map told (provided_homes all e) in
      let each : (e : ℕ × Declaration) → Among e list → Differ (f e) =
      λ e a.
      let i = numbered all 0 e a in
      let inside : flat_map redefined_in (scopes e.1.what) ≡ [] = ap (λ (d : Declaration). flat_map redefined_in (scopes d.what)) (sym i.3) ∙ (no_fault_at all none i.0 i.2).no_redefined_inside in
      catalog_differs all e.0 e.1 (provision_names e.1.what inside) in
      let whole : Differ (map told (schema all).provided) =
      subst (λ (l : List (List ℕ × List ℕ)). Differ l) (sym (ap (map told) (provided_of all) ∙ map_flat told (provided_homes all) list)) (differ_flat f list (numbers_differ all 0) each one_catalog) in
      distinct_told told same_provided tells (schema all).provided whole
