-- What a definition is of, and what the names of a home's type and base mean.
use Rattle.std.proofs.Common.{◌≡◌, ℕ, suc, ◌+◌, ◌<◌, List, [], ◌∷◌, ◌++◌, length, Bool, true, false, cond, not, ◌&&◌, Option, Some, None, refl, sym, ap, ◌∙◌, arith}
use Rattle.std.specs.List.{slice_get, find, flat_map, position_from}
use Rattle.std.specs.Option.{option_and_then, option_to_list}
use Rattle.std.specs.Str.{bytes_eq}
use Rattle.std.proofs.lemmas.Bool.{and_parts, eqb-true, not-true}
use Rattle.std.proofs.lemmas.Slice.Eq.{bytes_eq-Decides}
use Rattle.psdl_tree.specs.Trees.{Name}
use Rattle.psdl_directory.specs.Declarations.{Declaration}
use Rattle.psdl_lineage.specs.Descent.{type_of_home, base_home}
use Rattle.psdl_directory.specs.Lookup.{as_is, at, nothing, named, same_path, is_named, defines, definition, defined}
use Rattle.psdl_directory.specs.Parts.{bases, managed, kind, same_kind, is_forward, is_storage_type, is_concrete_home}
use Rattle.psdl_directory.proofs.Agreeing.{same_path-Decides}
use Rattle.psdl_lineage.proofs.Foremost.{first_passes}

-- ---- definitions

-- what is declared there is defined here
pub record IsDefinition (all : List Declaration) (j t : ℕ) : Type 0 where
  pub is_declared : t < length all
  pub is_whole : is_forward (at all t).what ≡ false
  pub one_kind : kind (at all j).what ≡ kind (at all t).what
  pub one_path : (at all j).path ≡ (at all t).path
  pub one_name : (at all j).name ≡ (at all t).name

-- what is found lies in the list
pub position_within : {X : Type 0} (test : X → Bool) (i : ℕ) (xs : List X) (p : ℕ) → position_from test i xs ≡ Some p → p < i + length xs
position_within test i [] p is = absurd (cc)
position_within test i (x ∷ xs) p is = by (test x) is (λ later. position_within test (i + 1) xs p later)
  where
    by : (b : Bool) → cond b (Some i) (position_from test (i + 1) xs) ≡ Some p → (position_from test (i + 1) xs ≡ Some p → p < i + 1 + length xs) → p < i + length (x ∷ xs)
    by true e rest = let same : i ≡ p = cc in omega (arith, same)
    by false e rest = omega (arith, rest e)

-- the parts of a name's match
pub named_parts : (d e : Declaration) → is_named as_is d.path d.name e ≡ true → (d.path ≡ e.path) × (d.name ≡ e.name)
named_parts d e h =
    let p = and_parts (same_path d.path e.path) (bytes_eq d.name e.name) h in
    ((same_path-Decides d.path e.path).0 p.0, (bytes_eq-Decides d.name e.name).0 p.1)

-- what is found as the definition defines it
pub definition_is : (all : List Declaration) (j t : ℕ) → definition all j ≡ Some t → IsDefinition all j t
definition_is all j t is =
    let d : Declaration = at all j in
    let e : Declaration = at all t in
    let lt : t < length all = omega (arith, position_within (defines d) 0 all t is) in
    let whole : defines d e ≡ true = first_passes (defines d) all t nothing lt is in
    let outer = and_parts (not (is_forward e.what) && same_kind d.what e.what) (is_named as_is d.path d.name e) whole in
    let inner = and_parts (not (is_forward e.what)) (same_kind d.what e.what) outer.0 in
    let same = named_parts d e outer.1 in
    record {
      is_declared = lt;
      is_whole = not-true (is_forward e.what) inner.0;
      one_kind = eqb-true (kind d.what) (kind e.what) inner.1;
      one_path = same.0;
      one_name = same.1;
    }

-- ---- names

-- a name in the body of a declaration means one that is declared, and that is defined
pub record Means (all : List Declaration) (n : ℕ) (name : Name) (t : ℕ) : Type 0 where
  pub declared : ℕ
  pub is_named : named all n name ≡ Some declared
  pub is_definition : definition all declared ≡ Some t

-- a name that is defined means a declaration
pub means : (all : List Declaration) (n : ℕ) (name : Name) (t : ℕ) → defined all n name ≡ Some t → Means all n name t
means all n name t is = by (named all n name) refl is
  where
    by : (o : Option ℕ) → named all n name ≡ o → option_and_then (definition all) o ≡ Some t → Means all n name t
    by None e is = absurd (cc)
    by (Some j) e is = record { declared = j; is_named = e; is_definition = is }

-- ---- a home's type

-- the name behind `of` means a storage type
pub record IsTypeOf (all : List Declaration) (n t : ℕ) : Type 0 where
  pub name : Name
  pub is_managed : managed (at all n).what ≡ Some name
  pub means : Means all n name t
  pub is_storage : is_storage_type (at all t).what ≡ true

-- the type of a home is what it names behind `of`
pub type_is : (all : List Declaration) (n t : ℕ) → type_of_home all n ≡ Some t → IsTypeOf all n t
type_is all n t is = by (managed (at all n).what) refl is
  where
    test : ℕ → Bool
    test t = is_storage_type (at all t).what

    there : (name : Name) → managed (at all n).what ≡ Some name → (o : Option ℕ) → defined all n name ≡ o → find test (option_to_list o) ≡ Some t → IsTypeOf all n t
    there name here None e is = absurd (cc)
    there name here (Some u) e is = passes (test u) refl is
      where
        passes : (b : Bool) → test u ≡ b → cond b (Some u) None ≡ Some t → IsTypeOf all n t
        passes false on is = absurd (cc)
        passes true on is =
            let same : u ≡ t = cc in
            record { name = name; is_managed = here; means = means all n name t (e ∙ ap (λ (m : ℕ). Some m) same); is_storage = ap test (sym same) ∙ on }

    by : (o : Option Name) → managed (at all n).what ≡ o → find test (option_to_list (option_and_then (defined all n) o)) ≡ Some t → IsTypeOf all n t
    by None here is = absurd (cc)
    by (Some name) here is = there name here (defined all n name) refl is

-- ---- a home's base

-- one of these names means a declaration that passes the test
pub record IsOneOf (all : List Declaration) (n : ℕ) (names : List Name) (test : ℕ → Bool) (b : ℕ) : Type 0 where
  pub place : ℕ
  pub name : Name
  pub at_place : slice_get names place ≡ Some name
  pub means : Means all n name b
  pub passes : test b ≡ true

-- what is found among names is one that passes
pub one_of : (all : List Declaration) (n : ℕ) (names : List Name) (test : ℕ → Bool) (b : ℕ) → find test (flat_map (λ name. option_to_list (defined all n name)) names) ≡ Some b → IsOneOf all n names test b
one_of all n [] test b is = absurd (cc)
one_of all n (name ∷ names) test b is = by (defined all n name) refl is (λ later. one_of all n names test b later)
  where
    rest : List ℕ
    rest = flat_map (λ name. option_to_list (defined all n name)) names

    further : IsOneOf all n names test b → IsOneOf all n (name ∷ names) test b
    further o = record { place = suc o.place; name = o.name; at_place = o.at_place; means = o.means; passes = o.passes }

    by : (o : Option ℕ) → defined all n name ≡ o → find test (option_to_list o ++ rest) ≡ Some b → (find test rest ≡ Some b → IsOneOf all n names test b) → IsOneOf all n (name ∷ names) test b
    by None e is later = further (later is)
    by (Some u) e is later = at_one (test u) refl is
      where
        at_one : (v : Bool) → test u ≡ v → cond v (Some u) (find test rest) ≡ Some b → IsOneOf all n (name ∷ names) test b
        at_one false on is = further (later is)
        at_one true on is =
            let same : u ≡ b = cc in
            record { place = 0; name = name; at_place = refl; means = means all n name b (e ∙ ap (λ (m : ℕ). Some m) same); passes = ap test (sym same) ∙ on }

-- the base of a home is a concrete home that it names
pub base_is : (all : List Declaration) (n b : ℕ) → base_home all n ≡ Some b → IsOneOf all n (bases (at all n).what) (λ m. is_concrete_home (at all m).what) b
base_is all n b is = one_of all n (bases (at all n).what) (λ m. is_concrete_home (at all m).what) b is
