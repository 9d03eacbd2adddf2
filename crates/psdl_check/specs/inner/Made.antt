-- What is made of the homes of a text, one by one.
use Rattle.std.specs.Prelude.{◌≡◌, ◌<◌, ◌++◌, ℕ, List, [], ◌∷◌, length, map, take}
use Rattle.std.specs.List.{flat_map}
use Rattle.std.specs.Option.{option_map}
use Rattle.type_layout.specs.declared.schema.Factory.{Factory}
use Rattle.type_layout.specs.ShapeText.{home_line, member_line, key_line, home_lines, lines_from}
use Rattle.type_layout.specs.Types.{PlainType}
use Rattle.psdl_directory.specs.declared.fault.CheckKind.TheVariants.{Limit}
use Rattle.psdl_directory.specs.Declarations.{Declaration}
use Rattle.psdl_directory.specs.Fault.{fault}
use Rattle.psdl_directory.specs.Lookup.{at}
use Rattle.psdl_lineage.specs.Descent.{base_home, home_factories}
use Rattle.psdl_lineage.specs.Lineages.{asked_of}
use Rattle.psdl_standings.specs.Standings.{standings}
use Rattle.psdl_check.specs.Faults.{long_shape}
use Rattle.psdl_check.specs.Schemas.{home_no, scoped_name, home_layout, home_of, introduced, key_numbers, factory_of, schema}
use Rattle.psdl_check.specs.declared.homes.Laid.{Laid}
use Rattle.psdl_check.specs.declared.homes.Making.{Making}
use Rattle.psdl_check.specs.declared.members.TypedMember.{TypedMember}
use Rattle.psdl_check.specs.declared.schemas.Made.{Made}
use Rattle.psdl_check.specs.declared.schemas.Made.TheVariants as made
use Rattle.psdl_check.specs.inner.FactoryTexts.{factories_text}
use Rattle.psdl_check.specs.inner.KeyRowed.{AreRows}
use Rattle.psdl_check.specs.inner.Keys.{AreKeys}
use Rattle.psdl_check.specs.inner.KeyTexts.{IsKeyed}
use Rattle.psdl_check.specs.inner.Laying.{laid_text}
use Rattle.psdl_check.specs.inner.Lists.{homes_in}
use Rattle.psdl_check.specs.inner.Masks.{AreGroups}
use Rattle.psdl_check.specs.inner.TypedMembers.{typed_views, typed_names, AreTyped}

-- members have the names of those of a home
abbrev pub HasNames : List Declaration → ℕ → List TypedMember → Type 0
HasNames all home ms = typed_names ms ≡ map (λ m. m.name) (home_layout all (standings all) home)

-- what is made of a home in front of its keys
pub record IsLaid (all : List Declaration) (types : List PlainType) (home : ℕ) (l : Laid) : Type 0 where
  pub name : l.name ≡ scoped_name (at all home)
  pub base : l.base ≡ option_map (home_no all) (base_home all home)
  pub typed : AreTyped (length types) l.members.items
  pub members : typed_views types (homes_in l.referents) l.members.items ≡ home_layout all (standings all) home
  pub names : HasNames all home l.members.items

-- its lines but for those of its keys
abbrev pub front_lines : List Declaration → ℕ → List ℕ
front_lines all home = home_line (home_no all home).0 (home_of all (standings all) home) ++ flat_map member_line (home_layout all (standings all) home)

-- what homes are made of is that of the text
pub record IsReady (all : List Declaration) (m : Making) : Type 0 where
  pub layouts : laid_text m.layouts ≡ all
  pub heirs : AreGroups all m.heirs
  pub rows : AreRows all m.rows.ids m.rows.rows.items
  pub keyed : IsKeyed all m.rows m.home_keys
  pub factories : factories_text m.factories ≡ all
  pub asked : asked_of m.conformity ≡ all

-- these homes are made, and their keys introduced
pub record AreMade (all : List Declaration) (homes : List ℕ) (m : Making) : Type 0 where
  pub keys : AreKeys all m.rows.ids (flat_map (introduced all) homes) m.keys
  pub homes_made : m.homes ≡ map (home_of all (standings all)) homes

-- the lines of a home in the shape of the schema
unfoldable pub lines_at : List Declaration → ℕ → ℕ → List ℕ
lines_at all number h = home_lines (schema all) number (home_of all (standings all) h)

-- the lines of the first so many homes
abbrev pub lines_before : List Declaration → ℕ → List ℕ
lines_before all i = lines_from (schema all) 1 (take i (schema all).homes)

-- the schema of a text, or the home with which its shape gets too long
abbrev pub IsMade : List Declaration → Made → Type 0
IsMade all (made.Whole s) = (s ≡ schema all) × (long_shape all ≡ [])
IsMade all (made.TooLong h) = (h < length all) × (long_shape all ≡ fault Limit (at all h).place ∷ [])

-- the lines of a home's keys
abbrev pub key_lines : List Declaration → ℕ → List ℕ
key_lines all home = flat_map (key_line (schema all)) (key_numbers all home)

-- all lines of a home
abbrev pub lines_of : List Declaration → ℕ → List ℕ
lines_of all home = lines_at all (home_no all home).0 home

-- the factories of a home
abbrev pub AreFactories : List Declaration → ℕ → List TypedMember → List Factory → Type 0
AreFactories all home ms fs = HasNames all home ms → fs ≡ map (factory_of (home_layout all (standings all) home)) (home_factories all home)
