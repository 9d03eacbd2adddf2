-- Objects as owners see them.
use Rattle.std.specs.Prelude.{ℕ, ◌≡◌, Option, Some, None}
use Rattle.std.specs.List.{slice_get}
use Rattle.type_layout.specs.declared.home.HomeNo.{HomeNo}
use Rattle.type_layout.specs.declared.schema.Home.{Home}
use Rattle.type_layout.specs.declared.schema.Schema.{Schema}
use Rattle.type_layout.specs.Schemas.{home_at, members_at}
use Rattle.type_layout.specs.Types.{PlainMember, PlainValue}
use Rattle.pss_base.specs.declared.pid.Pid.{Pid}
use Rattle.type_layout.specs.Values.{Of, IsRecord}
use Rattle.pss_catalog.specs.Catalog.{Object, object_spelling}
use Rattle.owner_view.specs.declared.object.Changed.{Changed}
use Rattle.owner_view.specs.declared.seen.Seen.{Seen as Sight}
use Rattle.owner_view.specs.declared.seen.Seen.TheVariants.{Stored, Own}

-- what a changed object stands for
abbrev pub plain_object : Changed → Object
plain_object changed = record { home = changed.home; values = changed.record }

-- an object of a home of the schema, a record of the home's layout
pub record Fits (S : Schema) (object : Object) : Type 0 where
  pub home : Home
  pub there : home_at S object.home ≡ Some home
  pub is_record : IsRecord (members_at S object.home) object.values

abbrev pub home_seen : Sight → HomeNo
home_seen (Stored home bytes) = home
home_seen (Own object) = object.now.home

-- the object is seen by the octets of its record, or by its values
abbrev pub IsSeen : Schema → Sight → Object → Type 0
IsSeen S (Stored home bytes) object = (home ≡ object.home) × (bytes.now ≡ object_spelling S object)
IsSeen S (Own changed) object = plain_object changed.now ≡ object

-- some object is seen so
pub record IsShown (S : Schema) (seen : Sight) : Type 0 where
  pub object : Object
  pub fits : Fits S object
  pub is : IsSeen S seen object

-- the object is there, and is of the home
abbrev pub IsOfHome : Option Object → HomeNo → Type 0
IsOfHome None home = ⊥
IsOfHome (Some object) home = object.home ≡ home

-- the value is of the type that the member has in the pid's home
abbrev pub FitsMember : Schema → Pid → ℕ → PlainValue → Type 0
FitsMember S p member value = (m : PlainMember) × (slice_get (members_at S (record { 0 = p.home })) member ≡ Some m) × Of m.type value
