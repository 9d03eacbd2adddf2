-- A text in which the first so many declarations were walked.
use Rattle.std.specs.Prelude.{◌≡◌, ℕ, ◌<◌, List, [], ◌∷◌, length, map, not, Option, IfSome}
use Rattle.std.specs.Option.{option_and_then}
use Rattle.psdl_tree.specs.Trees.{Name}
use Rattle.type_layout.specs.Schemas.{given}
use Rattle.type_layout.specs.Types.{PlainType}
use Rattle.psdl_directory.specs.declared.fault.CheckFault.{CheckFault}
use Rattle.psdl_directory.specs.declared.fault.CheckKind.TheVariants.{WrongKind}
use Rattle.psdl_directory.specs.declared.uses.Use.{Use as UseNode}
use Rattle.psdl_directory.specs.Declarations.{Path, Declaration}
use Rattle.psdl_directory.specs.Directories.{all_of}
use Rattle.psdl_directory.specs.Fault.{fault, fault_if}
use Rattle.psdl_directory.specs.Lookup.{as_is, at, definition, meaning}
use Rattle.psdl_directory.specs.Noting.{noting}
use Rattle.psdl_standings.specs.declared.body_faults.BodyFaults.{BodyFaults}
use Rattle.psdl_standings.specs.declared.need.Need.{Need}
use Rattle.psdl_standings.specs.declared.spot.Spot.{Spot}
use Rattle.psdl_standings.specs.declared.walk.Walk.{Walk}
use Rattle.psdl_standings.specs.Standings.{Standing, standing, sight}
use Rattle.psdl_standings.specs.Uses.{Use, Bound, meets}
use Rattle.psdl_standings.specs.inner.Sights.{unknown_by}
use Rattle.psdl_standings.specs.inner.Tellings.{stand}
use Rattle.psdl_standings.specs.inner.TypeNodes.{Extends}
use Rattle.psdl_standings.specs.inner.TypeTables.{entry_type}
use Rattle.psdl_standings.specs.inner.Walks.{walked}

abbrev pub text_in : Walk → List Declaration
text_in w = all_of w.directory.now

-- what they stand for
abbrev pub done_in : Walk → List Standing
done_in w = map (stand w.types) w.told.items

abbrev pub path_in : Walk → Spot → Path
path_in w spot = (at (text_in w) spot.number).path

-- the definition of what a name means
abbrev pub definition_in : Walk → Spot → Name → Option ℕ
definition_in w spot name = option_and_then (definition (text_in w)) (meaning as_is (text_in w) spot.limit (path_in w spot) name)

abbrev pub names_in : Walk → Spot → Name → Standing
names_in w spot name = sight (text_in w) (done_in w) spot.limit (path_in w spot) name

-- with what is wrong with these names and bounds
abbrev pub noted_in : Walk → Spot → List Use → List Bound → BodyFaults
noted_in w spot us bs = walked (text_in w) (done_in w) (path_in w spot) spot.own w.faults us bs

abbrev pub with_names : BodyFaults → List CheckFault → BodyFaults
with_names f faults = record { names = noting f.names faults; strings = f.strings; values = f.values; selves = f.selves }

-- what is wrong with a name that was resolved
abbrev pub use_faults : Walk → Need → UseNode → List CheckFault
use_faults w need used =
    given used.meant (fault (unknown_by used.wrong_case) used.place ∷ []) (λ n. fault_if (not (meets need (at (text_in w) n).what (standing (done_in w) n))) WrongKind used.place)

-- the text and what is told stay, and types are added
pub record Goes (old new : Walk) : Type 0 where
  pub text : text_in new ≡ text_in old
  pub told : new.told.items ≡ old.told.items
  pub types : Extends old.types new.types

-- a type is there, with this number
pub record AddsType (old new : Walk) (type : Option PlainType) (number : Option ℕ) : Type 0 where
  pub goes : Goes old new
  pub same : new.faults ≡ old.faults
  pub there : IfSome number (λ n. n < length new.types)
  pub is : entry_type new.types number ≡ type

-- these names and bounds were walked, and this was found
pub record Finds {X : Type 0} (old new : Walk) (spot : Spot) (us : List Use) (bs : List Bound) (sought found : X) : Type 0 where
  pub goes : Goes old new
  pub noted : new.faults ≡ noted_in old spot us bs
  pub is : found ≡ sought

-- these names and bounds were walked, and this is the number of the type
pub record Adds (old new : Walk) (spot : Spot) (us : List Use) (bs : List Bound) (type : Option PlainType) (number : Option ℕ) : Type 0 where
  pub goes : Goes old new
  pub noted : new.faults ≡ noted_in old spot us bs
  pub there : IfSome number (λ n. n < length new.types)
  pub is : entry_type new.types number ≡ type
