-- The schema of people.
use Rattle.std.specs.Prelude.{List, [], ◌∷◌, None, true, false, codes}
use Rattle.type_layout.specs.Types.{PlainMember, Str, RefTo}
use Rattle.type_layout.specs.declared.key.Key.{Key}
use Rattle.type_layout.specs.declared.schema.Factory.{Factory}
use Rattle.type_layout.specs.declared.schema.Home.{Home}
use Rattle.type_layout.specs.Scopes.{Provided}
use Rattle.type_layout.specs.declared.schema.Schema.{Schema}

-- a number that stays, a name, and a boss who is one of the people
abbrev pub ssn : PlainMember
ssn = record { name = codes "ssn"; type = Str 0; readonly = true }

abbrev pub name : PlainMember
name = record { name = codes "name"; type = Str 0; readonly = false }

abbrev pub boss : PlainMember
boss = record { name = codes "boss"; type = RefTo (record { 0 = 1 } ∷ []); readonly = false }

abbrev pub members : List PlainMember
members = ssn ∷ name ∷ boss ∷ []

-- a number and a name are given
abbrev pub factories : List Factory
factories = record { name = codes "make"; members = 0 ∷ 1 ∷ [] } ∷ []

abbrev pub homes : List Home
homes = record { name = codes "PersonHomeBase"; base = None; layout = record { members = members }; keys = record { 0 = 0 } ∷ []; factories = factories } ∷ []

-- nobody has another's number
abbrev pub keys : List Key
keys = record { name = codes "ssn"; home = record { 0 = 1 }; members = 0 ∷ [] } ∷ []

abbrev pub provided : List Provided
provided = record { catalog = codes "People"; name = codes "persons"; home = record { 0 = 1 } } ∷ []

abbrev pub people : Schema
people = record { homes = homes; keys = keys; provided = provided }
