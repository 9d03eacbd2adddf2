-- Objects as the store may have them, and that what commands ask for makes no others.
use Rattle.std.specs.Prelude.{ℕ, ◌≡◌, ◌≤◌, List, length, Some, IsSome}
use Rattle.std.specs.FinMap.{empty}
use Rattle.std.specs.List.{flat_map}
use Rattle.type_layout.specs.declared.schema.Schema.{Schema}
use Rattle.type_layout.specs.Types.{PlainMember}
use Rattle.type_layout.specs.Values.{Of, IsRecord}
use Rattle.type_layout.specs.Sound.{IsSoundSchema}
use Rattle.type_layout.specs.Schemas.{home_at, members_at}
use Rattle.pss_catalog.specs.Catalog.{Object, Catalog, references, object_spelling, IsGiven, AreGiven, IsGood}
use Rattle.pss_machine.specs.declared.limits.Limits.{Limits}
use Rattle.pss_machine.specs.Operations.{PlainOp, Create, Set}
use Rattle.pss_machine.specs.Homes.{home_of, member_at}
use Rattle.pss_machine.specs.Run.{Said, first, run}

-- an object of a home of the schema, a record of its layout in at most 8,000 octets, whose serial and references were given
pub record IsFine (S : Schema) (next serial : ℕ) (object : Object) : Type 0 where
  pub home : IsSome (home_at S object.home)
  pub fits : IsRecord (members_at S object.home) object.values
  pub short : length (object_spelling S object) ≤ 8000
  pub serial_given : IsGiven next serial
  pub targets : AreGiven next (flat_map references object.values)

-- a create makes a record of a home of the schema, and a set gives a member a value of its type
abbrev pub FitsSchema : Schema → PlainOp → Type 0
FitsSchema S (Create serial object) = IsSome (home_at S object.home) × IsRecord (members_at S object.home) object.values
FitsSchema S (Set p member value) = (m : PlainMember) × (member_at S (home_of p) member ≡ Some m) × Of m.type value
FitsSchema S _ = Unit {0}

-- after every line of a run from a good catalog, under limits that are not above the store's, the catalog is good under the next serial
abbrev pub GoodStaysGood : Type 0
GoodStaysGood =
    (S : Schema) (limits : Limits) (M : Catalog) (next : ℕ) (lines : List Said) → IsSoundSchema S → limits.total ≤ 67108864 → IsGood S M next
    → IsGood S (run S limits (first M next) lines).kept.catalog (run S limits (first M next) lines).kept.next

-- a catalog without objects is good, with 1 as the next serial
abbrev pub EmptyIsGood : Type 0
EmptyIsGood = (S : Schema) → IsGood S empty 1
