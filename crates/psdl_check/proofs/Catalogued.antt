-- Catalogs behind the modules of a text, and what they provide.
use Rattle.std.proofs.Common.{ℕ, zero, suc, Bool, true, false, ◌==◌, get_or, ◌≡◌, ◌+◌, ◌<◌, ◌≤◌, List, [], ◌∷◌, ◌++◌, Option, Some, None, length, map, drop, drop-cons, codes, refl, sym, ap, subst, ◌∙◌, arith, append_assoc, IfSome}
use Rattle.std.specs.List.{slice_get, flat_map, enumerate_from}
use Rattle.std.specs.Option.{option_and_then, option_to_list}
use Rattle.std.proofs.lemmas.List.{append-nil, map-append, drop_all}
use Rattle.std.proofs.Math.Seq.{get_or-append_seam}
use Rattle.type_layout.specs.declared.provided.Provision.{Provision}
use Rattle.type_layout.specs.declared.scopes.ScopeNo.{ScopeNo}
use Rattle.type_layout.specs.Scopes.{Provided, behind, name_at, provided_in}
use Rattle.psdl_tree.specs.Trees as tree
use Rattle.psdl_directory.specs.declared.directory.Directory.{Directory}
use Rattle.psdl_directory.specs.Declarations.{Path, Declaration}
use Rattle.psdl_directory.specs.Directories.{paths_of, path_of}
use Rattle.psdl_directory.specs.Lookup.{at, defined, nothing}
use Rattle.psdl_directory.specs.Parts.{provided}
use Rattle.psdl_lineage.specs.Descent.{provider}
use Rattle.psdl_check.specs.Schemas.{scoped, scoped_name, home_no, provided_home, provided_homes}
use Rattle.psdl_check.specs.inner.Modules.{scope_in, IsModule, AreModulesTo, AreModules, IsCatalogAdded, provision_of}
use Rattle.psdl_check.proofs.Prefixed.{scoped_behind}

-- ---- scopes

stays : (names more : List (List ℕ)) (n : ℕ) (name : List ℕ) → slice_get names n ≡ Some name → slice_get (names ++ more) n ≡ Some name
stays [] more n name there = absurd (none there)
  where
    none : slice_get [] n ≡ Some name → ⊥
    none e = cc
stays (x ∷ names) more zero name there = there
stays (x ∷ names) more (suc n) name there = stays names more n name there

last : (names : List (List ℕ)) (name : List ℕ) → slice_get (names ++ name ∷ []) (length names) ≡ Some name
last [] name = refl
last (x ∷ names) name = last names name

module_stays : (d : Directory) (names more : List (List ℕ)) (n : ℕ) → IsModule d names n → IsModule d (names ++ more) n
module_stays d names more n m = (m.0, m.1, m.2, stays names more n (scoped m.1 m.0) m.3)

pub modules_stay : (d : Directory) (old new : List (List ℕ)) (added : List (List ℕ)) → new ≡ old ++ added → AreModules d old → AreModules d new
modules_stay d old new added is are n within = subst (λ (names : List (List ℕ)). IsModule d names n) (sym is) (module_stays d old added n (are n within))

-- a name behind that of a module round it
in_module : (d : Directory) (names : List (List ℕ)) (number : Option ℕ) (path : Path) (name : List ℕ) → IfSome number (λ n. IsModule d names n) → path_of d number ≡ path
    → behind (option_and_then (λ o. slice_get names o.0) (scope_in number)) name ≡ scoped path name
in_module d names None path name are is = ap (λ (p : Path). scoped p name) is
in_module d names (Some n) path name m is =
    ap (λ o. behind o name) m.3 ∙ sym (scoped_behind m.1 (m.0 ++ codes "::") name ∙ ap (λ (l : List ℕ). l ++ name) (scoped_behind m.1 m.0 (codes "::"))) ∙ ap (λ (p : Path). scoped p name) (sym m.2 ∙ is)

each_there : (d : Directory) (names : List (List ℕ)) (count : ℕ) (number : Option ℕ) → AreModulesTo count d names → IfSome number (λ n. n < count) → IfSome number (λ n. IsModule d names n)
each_there d names count None are within = tt
each_there d names count (Some n) are within = are n within

-- one module more
pub next_module : (d : Directory) (names new : List (List ℕ)) (i : ℕ) (outer : Option ℕ) (name own : List ℕ) → AreModulesTo i d names → length names ≡ i → IfSome outer (λ o. o < i)
    → path_of d (Some i) ≡ name ∷ path_of d outer → own ≡ name → new ≡ names ++ behind (option_and_then (λ o. slice_get names o.0) (scope_in outer)) own ∷ [] → AreModulesTo (i + 1) d new
next_module d names new i outer name own are many before path is grown n within = by_place (n == i) refl
  where
    own_name : List ℕ
    own_name = behind (option_and_then (λ o. slice_get names o.0) (scope_in outer)) own

    told : own_name ≡ scoped (path_of d outer) name
    told = ap (λ (l : List ℕ). behind (option_and_then (λ o. slice_get names o.0) (scope_in outer)) l) is ∙ in_module d names outer (path_of d outer) name (each_there d names i outer are before) refl

    here : slice_get (names ++ own_name ∷ []) i ≡ Some (scoped (path_of d outer) name)
    here = subst (λ (k : ℕ). slice_get (names ++ own_name ∷ []) k ≡ Some (scoped (path_of d outer) name)) many (last names own_name ∙ ap Some told)

    by_place : (b : Bool) → (n == i) ≡ b → IsModule d new n
    by_place true e =
        let same : n ≡ i = grind (arith, e) in
        subst (λ (l : List (List ℕ)). IsModule d l n) (sym grown) (subst (λ (k : ℕ). IsModule d (names ++ own_name ∷ []) k) (sym same) (name, path_of d outer, path, here))
    by_place false e = subst (λ (l : List (List ℕ)). IsModule d l n) (sym grown) (module_stays d names (own_name ∷ []) n (are n (grind (arith, e, within))))

-- the scope of a catalog
pub catalog_scope : (d : Directory) (names : List (List ℕ)) (number : Option ℕ) (c : Declaration) (name : List ℕ) → AreModules d names → IfSome number (λ n. n + 1 < length (paths_of d)) → path_of d number ≡ c.path → name ≡ c.name
    → behind (option_and_then (λ o. slice_get names o.0) (scope_in number)) name ≡ scoped_name c
catalog_scope d names number c name are within path is = in_module d names number c.path name (each number within) path ∙ ap (scoped c.path) is
  where
    each : (number : Option ℕ) → IfSome number (λ n. n + 1 < length (paths_of d)) → IfSome number (λ n. IsModule d names n)
    each None within = tt
    each (Some n) within = are n within

-- ---- what is provided

-- what a catalog provides, by its scope
module _ (names : List (List ℕ)) (number : ScopeNo) (all : List Declaration) (n : ℕ) (d : Declaration) (named : name_at names number ≡ scoped_name d) where
  by_home : (p : tree.Provision) (o : Option ℕ)
      → map (provided_in names) (map (λ h. record { catalog = number; name = p.name.name; home = home_no all h }) (option_to_list o)) ≡ map (λ h. record { catalog = scoped_name d; name = p.name.name; home = home_no all h }) (option_to_list o)
  by_home p None = refl
  by_home p (Some h) = ap (λ (l : List ℕ). (let x : Provided = record { catalog = l; name = p.name.name; home = home_no all h } in x ∷ [])) named

  pub by_scope : (ps : List tree.Provision) → map (provided_in names) (flat_map (provision_of all number n) ps) ≡ flat_map (provided_home all n d) ps
  by_scope [] = refl
  by_scope (p ∷ ps) =
      map-append (provided_in names) (provision_of all number n p) (flat_map (provision_of all number n) ps)
      ∙ ap (λ (l : List Provided). l ++ map (provided_in names) (flat_map (provision_of all number n) ps)) (by_home p (option_and_then (provider all) (defined all n p.home)))
      ∙ ap (λ (l : List Provided). provided_home all n d p ++ l) (by_scope ps)

-- a catalog was added
pub one_catalog : (all : List Declaration) (n : ℕ) (old new : List (List ℕ)) (before after : List Provision) (number : ScopeNo) → number.0 ≡ length old → new ≡ old ++ scoped_name (at all n) ∷ []
    → after ≡ before ++ flat_map (provision_of all number n) (provided (at all n).what) → IsCatalogAdded all n old new before after
one_catalog all n old new before after number behind_all grown put = (
  scoped_name (at all n) ∷ [],
  grown,
  λ more.
      let named : name_at (new ++ more) number ≡ scoped_name (at all n) =
      ap (λ (k : ℕ). get_or (new ++ more) k []) behind_all ∙ ap (λ (l : List (List ℕ)). get_or (l ++ more) (length old) []) grown
      ∙ ap (λ (l : List (List ℕ)). get_or l (length old) []) (append_assoc old (scoped_name (at all n) ∷ []) more) ∙ get_or-append_seam old (scoped_name (at all n)) more [] in
      ap (map (provided_in (new ++ more))) put ∙ map-append (provided_in (new ++ more)) before (flat_map (provision_of all number n) (provided (at all n).what))
      ∙ ap (λ (l : List Provided). map (provided_in (new ++ more)) before ++ l) (by_scope (new ++ more) number all n (at all n) named (provided (at all n).what)),
)

-- ---- all of them

abbrev rest_from : List Declaration → ℕ → List Provided
rest_from all i = flat_map (provided_homes all) (enumerate_from i (drop i all))

pub one_more : (all : List Declaration) (i : ℕ) (old new : List (List ℕ)) (before after : List Provision) (total : List Provided) → i < length all → IsCatalogAdded all i old new before after
    → ((more : List (List ℕ)) → map (provided_in (old ++ more)) before ++ rest_from all i ≡ total) → (more : List (List ℕ)) → map (provided_in (new ++ more)) after ++ rest_from all (i + 1) ≡ total
one_more all i old new before after total within step so_far more =
    ap (λ (l : List Provided). l ++ rest_from all (i + 1)) (step.2 more) ∙ append_assoc (map (provided_in (new ++ more)) before) (provided_homes all (i, at all i)) (rest_from all (i + 1))
    ∙ ap (λ (l : List Provided). map (provided_in (new ++ more)) before ++ l) (sym next) ∙ ap (λ (l : List (List ℕ)). map (provided_in l) before ++ rest_from all i) names ∙ so_far (step.0 ++ more)
  where
    names : new ++ more ≡ old ++ (step.0 ++ more)
    names = ap (λ (l : List (List ℕ)). l ++ more) step.1 ∙ append_assoc old step.0 more

    plus : suc i ≡ i + 1
    plus = omega arith

    next : rest_from all i ≡ provided_homes all (i, at all i) ++ rest_from all (i + 1)
    next =
        ap (λ (ds : List Declaration). flat_map (provided_homes all) (enumerate_from i ds)) (drop-cons all i nothing within)
        ∙ ap (λ (k : ℕ). provided_homes all (i, at all i) ++ flat_map (provided_homes all) (enumerate_from (i + 1) (drop k all))) plus

pub all_of_them : (all : List Declaration) (i : ℕ) (names : List (List ℕ)) (list : List Provision) (total : List Provided) → length all ≤ i → ((more : List (List ℕ)) → map (provided_in (names ++ more)) list ++ rest_from all i ≡ total)
    → map (provided_in names) list ≡ total
all_of_them all i names list total past so_far =
    sym (append-nil (map (provided_in names) list)) ∙ ap (λ (ds : List Declaration). map (provided_in names) list ++ flat_map (provided_homes all) (enumerate_from i ds)) (sym (drop_all i all past))
    ∙ ap (λ (l : List (List ℕ)). map (provided_in l) list ++ rest_from all i) (sym (append-nil names)) ∙ so_far []
