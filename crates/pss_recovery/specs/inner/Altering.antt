-- A change over the objects that are there.
use Rattle.std.specs.Prelude.{ℕ, ◌≡◌, ◌≤◌, List, length, None, IfSome, IsSome}
use Rattle.std.specs.FinMap.{get}
use Rattle.std.specs.declared.option.Option.{Option}
use Rattle.pss_base.specs.declared.put.Put.{Put}
use Rattle.type_layout.specs.declared.key.KeyNo.{KeyNo}
use Rattle.type_layout.specs.declared.schema.Schema.{Schema}
use Rattle.pss_catalog.specs.Catalog.{Catalog, EachObject, Object}
use Rattle.storage_home.specs.declared.homes.Homes.{Homes}
use Rattle.storage_home.specs.Applied.{AreKeysOf, IsState}
use Rattle.storage_home.specs.Kept.{IsKept, IsSound}
use Rattle.pss_recovery.specs.Loading.{RefersBelow}

-- these homes keep the catalog, and each object has a record of its home's layout
pub record IsKeptSound (S : Schema) (M : Catalog) (homes : Homes) : Type 0 where
  pub kept : IsKept S M homes
  pub sound : EachObject M (λ serial object. IsSound S object)

-- the change is of the home of the object that is there, and removes only one that is there
pub record MayAlter (M : Catalog) (put : Put) : Type 0 where
  pub home : IfSome (get M put.serial) (λ object. object.home.0 ≡ put.home)
  pub there : put.bytes ≡ None → IsSome (get M put.serial)

-- the change gives this state: an object whose record is short and refers below the next serial, or none
pub record HasState (S : Schema) (next : ℕ) (put : Put) (state : Option Object) : Type 0 where
  pub stored : IsState S put.home put.bytes state
  pub short : IfSome put.bytes (λ octets. length octets ≤ 8000)
  pub refers : IfSome state (RefersBelow next)

-- the change gives a state that holds these keys
pub record HasNewKeys (S : Schema) (next : ℕ) (put : Put) (keys : List (KeyNo × List ℕ)) : Type 0 where
  pub state : Option Object
  pub has : HasState S next put state
  pub keys_ : AreKeysOf S state keys
