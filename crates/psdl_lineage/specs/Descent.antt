-- What types and homes descend from, and what they have by it.
use Rattle.std.specs.Prelude.{ℕ, zero, suc, List, [], ◌∷◌, ◌++◌, length, map, filter, Option, Bool, not, ◌&&◌, ◌||◌, ◌==◌, if◌then◌else◌}
use Rattle.std.specs.List.{flat_map, list_any, find, range_with_len}
use Rattle.std.specs.Option.{option_and_then, option_to_list}
use Rattle.std.specs.Cmp.Lexicographic.{pointwise}
use Rattle.std.specs.Str.{bytes_eq}
use Rattle.psdl_tree.specs.declared.names.Identifier.{Identifier}
use Rattle.psdl_tree.specs.Trees.{Name, StateType, State, Key, Factory}
use Rattle.type_layout.specs.Schemas.{given}
use Rattle.psdl_directory.specs.Declarations.{What, Declaration}
use Rattle.psdl_directory.specs.Parts.{is_storage_type, is_home, is_concrete_home, bases, parents, managed, states, state_names, keys, factories, key_list, factory_list}
use Rattle.psdl_directory.specs.Lookup.{at, defined}

-- the first of each
abbrev pub without_known : {A : Type 0} → (A → A → Bool) → List A → List A → List A
without_known same known [] = []
without_known same known (x ∷ xs) = if list_any (same x) known then without_known same known xs else x ∷ without_known same (x ∷ known) xs

abbrev pub without_repeats : {A : Type 0} → (A → A → Bool) → List A → List A
without_repeats same xs = without_known same [] xs

abbrev pub has : List ℕ → ℕ → Bool
has ns n = list_any (λ m. m == n) ns

-- both are storage types, or both homes
abbrev pub same_sort : What → What → Bool
same_sort a b = (is_storage_type a && is_storage_type b) || (is_home a && is_home b)

-- the definitions that these names mean, of the sort of their declaration
abbrev pub definitions_of : List Declaration → ℕ → List Name → List ℕ
definitions_of all n names = filter (λ p. same_sort (at all n).what (at all p).what) (flat_map (λ name. option_to_list (defined all n name)) names)

-- Lines of descent: each definition behind those that it names as base or implements, in their order. One that comes
-- again is left out, and so is one that is on the way already.
abbrev pub lines : ℕ → List Declaration → List ℕ → ℕ → List ℕ
lines zero all way n = n ∷ []
lines (suc fuel) all way n =
    without_repeats (λ a b. a == b) (flat_map (λ p. lines fuel all (p ∷ way) p) (filter (λ p. not (has way p)) (definitions_of all n (parents (at all n).what))) ++ n ∷ [])

-- what a definition descends from, itself last
unfoldable pub ancestry : List Declaration → ℕ → List ℕ
ancestry all n = lines (length all) all (n ∷ []) n

-- one type is the other, or a base of it, or an abstract type that it implements, or one to which such a type conforms
abbrev pub conforms : List Declaration → ℕ → ℕ → Bool
conforms all t u = has (ancestry all t) u

-- ---- types

-- a state member, and the declaration that has it in its body
pub record StateMember : Type 0 where
  pub home : ℕ
  pub name : Identifier
  pub state_type : StateType
  pub readonly : Bool

abbrev pub members_in : ℕ → State → List StateMember
members_in n s = map (λ i. record { home = n; name = i; state_type = s.state_type; readonly = s.is_readonly }) (state_names s)

-- the members of a type: those of what it descends from, in that order
abbrev pub members : List Declaration → ℕ → List StateMember
members all n = flat_map (λ a. flat_map (members_in a) (states (at all a).what)) (ancestry all n)

-- ---- homes

-- the definition of a home's storage type
abbrev pub type_of_home : List Declaration → ℕ → Option ℕ
type_of_home all n = find (λ t. is_storage_type (at all t).what) (option_to_list (option_and_then (defined all n) (managed (at all n).what)))

-- the home that a concrete home names as its base
abbrev pub base_home : List Declaration → ℕ → Option ℕ
base_home all n = find (λ b. is_concrete_home (at all b).what) (flat_map (λ name. option_to_list (defined all n name)) (bases (at all n).what))

abbrev pub root_within : ℕ → List Declaration → ℕ → ℕ
root_within zero all n = n
root_within (suc fuel) all n = given (base_home all n) n (λ b. root_within fuel all b)

-- a family is a home without base and all homes derived from it; it is named by that home
unfoldable pub family : List Declaration → ℕ → ℕ
family all n = root_within (length all) all n

-- a key or a factory: its name, and the names of the members in its list
pub record Listed : Type 0 where
  pub name : List ℕ
  pub members : List (List ℕ)

abbrev pub same_list : List (List ℕ) → List (List ℕ) → Bool
same_list = pointwise bytes_eq

abbrev pub same_listed : Listed → Listed → Bool
same_listed a b = bytes_eq a.name b.name && same_list a.members b.members

abbrev pub names_of : List Identifier → List (List ℕ)
names_of ids = map (λ i. i.name) ids

abbrev pub listed_key : Key → Listed
listed_key key = record { name = key.name.name; members = names_of (key_list key) }

abbrev pub listed_factory : Factory → Listed
listed_factory factory = record { name = factory.name.name; members = names_of (factory_list factory) }

-- the keys of a home: those of what it descends from; one with a name and list that is there already is the same
abbrev pub home_keys : List Declaration → ℕ → List Listed
home_keys all n = without_repeats same_listed (flat_map (λ a. map listed_key (keys (at all a).what)) (ancestry all n))

abbrev pub home_factories : List Declaration → ℕ → List Listed
home_factories all n = without_repeats same_listed (flat_map (λ a. map listed_factory (factories (at all a).what)) (ancestry all n))

-- the concrete homes in the order of the text
unfoldable pub concrete_homes : List Declaration → List ℕ
concrete_homes all = filter (λ n. is_concrete_home (at all n).what) (range_with_len 0 (length all))

-- the first concrete home that implements an abstract home: itself, through a base, or through a home derived from it
abbrev pub provider : List Declaration → ℕ → Option ℕ
provider all home = find (λ h. has (ancestry all h) home) (concrete_homes all)
