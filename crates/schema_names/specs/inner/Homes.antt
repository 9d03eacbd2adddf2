-- The tables of a schema's names.
use Rattle.std.specs.Prelude.{ℕ, List, [], ◌∷◌, Option, Some, None, IfSome, IsSomeAnd, length, min}
use Rattle.std.specs.declared.vec.Vec.{Vec}
use Rattle.type_layout.specs.declared.home.HomeNo.{HomeNo}
use Rattle.type_layout.specs.declared.key.Key.{Key}
use Rattle.type_layout.specs.declared.schema.Home.{Home}
use Rattle.type_layout.specs.declared.schema.Schema.{Schema}
use Rattle.type_layout.specs.Schemas.{home_at}
use Rattle.schema_names.specs.Tables.{Finds}
use Rattle.schema_names.specs.Found.{home_called, member_called, key_called}
use Rattle.schema_names.specs.inner.Hashed.{AreFound}
use Rattle.schema_names.specs.declared.provided.ProvidedPlaces.{ProvidedPlaces}
use Rattle.type_layout.specs.Scopes.{Provided}
use Rattle.schema_names.specs.declared.named.HomeNames.{HomeNames}

-- the tables of one home
pub record AreNamesOf (keys : List Key) (home : Home) (names : HomeNames) : Type 0 where
  pub members : Finds names.members.entries (member_called home.layout.members)
  pub keys_ : Finds names.keys.entries (key_called keys home.keys)

-- each home has its own
abbrev pub AreNamesOfAll : List Key → List Home → List HomeNames → Type 0
AreNamesOfAll keys [] [] = Unit {0}
AreNamesOfAll keys (h ∷ hs) (n ∷ ns) = AreNamesOf keys h n × AreNamesOfAll keys hs ns
AreNamesOfAll keys _ _ = ⊥

-- a home that is there has these
abbrev pub AreNamesAt : Schema → HomeNo → HomeNames → Type 0
AreNamesAt S h names = IsSomeAnd (home_at S h) (λ home. AreNamesOf S.keys home names)

-- a table, if there is one, has the places of all that is provided
abbrev pub MayFind : List Provided → Option ProvidedPlaces → Type 0
MayFind list places = IfSome places (λ places. AreFound (length list) list places.firsts.entries places.others.items)

-- all tables of a schema
pub record HasTables {Y : Type 0} (S : Schema) (homes : List (Vec ℕ Y × HomeNo)) (provided : Option ProvidedPlaces) (of_homes : List HomeNames) : Type 0 where
  pub homes_ : Finds homes (home_called S.homes)
  pub provided_ : MayFind S.provided provided
  pub each : AreNamesOfAll S.keys S.homes of_homes

-- the lesser of two homes, or the one that there is
abbrev pub lesser : Option HomeNo → Option HomeNo → Option HomeNo
lesser (Some a) (Some b) = Some (record { 0 = min a.0 b.0 })
lesser (Some a) None = Some a
lesser None b = b
