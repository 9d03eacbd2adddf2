-- The schema of a text.
use Rattle.std.specs.Prelude.{ℕ, List, [], ◌∷◌, ◌++◌, map, filter, Option, false, not, ◌&&◌, codes}
use Rattle.std.specs.List.{flat_map, list_any, position_from, enumerate_from}
use Rattle.std.specs.Option.{option_map, option_to_list, option_and_then}
use Rattle.std.specs.Str.{bytes_eq}
use Rattle.psdl_tree.specs.Trees.{Provision}
use Rattle.type_layout.specs.declared.home.HomeNo.{HomeNo}
use Rattle.type_layout.specs.declared.key.KeyNo.{KeyNo}
use Rattle.type_layout.specs.declared.key.Key.{Key}
use Rattle.type_layout.specs.declared.schema.Factory.{Factory}
use Rattle.type_layout.specs.declared.schema.Home.{Home}
use Rattle.type_layout.specs.Scopes.{Provided}
use Rattle.type_layout.specs.declared.schema.Schema.{Schema}
use Rattle.type_layout.specs.Schemas.{given}
use Rattle.type_layout.specs.Types.{PlainMember}
use Rattle.psdl_directory.specs.Declarations.{Path, Declaration}
use Rattle.psdl_directory.specs.Parts.{provided}
use Rattle.psdl_directory.specs.Lookup.{at, defined}
use Rattle.psdl_standings.specs.Standings.{Standing, standings}
use Rattle.psdl_lineage.specs.Descent.{has, ancestry, conforms, type_of_home, base_home, Listed, same_listed, home_keys, home_factories, concrete_homes, provider}
use Rattle.psdl_rules.specs.Layouts.{layout}
use Rattle.psdl_rules.specs.Faults.Limit.{home_number}

abbrev pub home_no : List Declaration → ℕ → HomeNo
home_no all h = record { 0 = home_number all h }

-- a name with those of the modules round it, `::` between them
abbrev pub scoped : Path → List ℕ → List ℕ
scoped [] name = name
scoped (outer ∷ path) name = scoped path (outer ++ codes "::" ++ name)

abbrev pub scoped_name : Declaration → List ℕ
scoped_name d = scoped d.path d.name

-- ---- layouts

-- the homes that a reference to a type may have: those whose type conforms, rising
abbrev pub referents : List Declaration → ℕ → List HomeNo
referents all u = map (home_no all) (filter (λ h. given (type_of_home all h) false (λ t. conforms all t u)) (concrete_homes all))

abbrev pub home_layout : List Declaration → List Standing → ℕ → List PlainMember
home_layout all done h = given (option_and_then (layout all done (referents all)) (type_of_home all h)) [] (λ ms. ms)

-- the numbers of members by their names
abbrev pub indexes : List PlainMember → List (List ℕ) → List ℕ
indexes ms names = flat_map (λ name. option_to_list (position_from (λ m. bytes_eq name m.name) 0 ms)) names

-- ---- keys

-- a key, and the home that introduces it
pub record Introduced : Type 0 where
  pub home : ℕ
  pub listed : Listed

-- a key that the base does not have is introduced
abbrev pub introduced : List Declaration → ℕ → List Introduced
introduced all h =
    map (λ k. record { home = h; listed = k }) (filter (λ k. not (list_any (same_listed k) (given (base_home all h) [] (home_keys all)))) (home_keys all h))

-- home by home
abbrev pub all_introduced : List Declaration → List Introduced
all_introduced all = flat_map (introduced all) (concrete_homes all)

-- the number of a home's key: of those introduced, the one that the home or one that it derives from introduces
abbrev pub key_number : List Declaration → ℕ → Listed → Option ℕ
key_number all h k = position_from (λ i. has (ancestry all h) i.home && same_listed k i.listed) 0 (all_introduced all)

abbrev pub key_numbers : List Declaration → ℕ → List KeyNo
key_numbers all h = map (λ n. record { 0 = n }) (flat_map (λ k. option_to_list (key_number all h k)) (home_keys all h))

abbrev pub key_of : List Declaration → List Standing → Introduced → Key
key_of all done i = record { name = i.listed.name; home = home_no all i.home; members = indexes (home_layout all done i.home) i.listed.members }

-- ---- the whole

abbrev pub factory_of : List PlainMember → Listed → Factory
factory_of ms f = record { name = f.name; members = indexes ms f.members }

abbrev pub home_of : List Declaration → List Standing → ℕ → Home
home_of all done h = record {
  name = scoped_name (at all h);
  base = option_map (home_no all) (base_home all h);
  layout = record { members = home_layout all done h };
  keys = key_numbers all h;
  factories = map (factory_of (home_layout all done h)) (home_factories all h);
}

abbrev pub provided_home : List Declaration → ℕ → Declaration → Provision → List Provided
provided_home all n d p =
    map (λ h. record { catalog = scoped_name d; name = p.name.name; home = home_no all h }) (option_to_list (option_and_then (provider all) (defined all n p.home)))

abbrev pub provided_homes : List Declaration → ℕ × Declaration → List Provided
provided_homes all e = flat_map (provided_home all e.0 e.1) (provided e.1.what)

abbrev pub schema_by : List Declaration → List Standing → Schema
schema_by all done = record {
  homes = map (home_of all done) (concrete_homes all);
  keys = map (key_of all done) (all_introduced all);
  provided = flat_map (provided_homes all) (enumerate_from 0 all);
}

-- the schema of a text in which nothing is wrong
unfoldable pub schema : List Declaration → Schema
schema all = schema_by all (standings all)
