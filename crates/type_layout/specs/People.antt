-- A worked schema: people, whose bosses are people, with the key `ssn` and a factory; the catalog `People` provides their home.
use Rattle.std.specs.Prelude.{List, [], ◌∷◌, None, true, false, codes}
use Rattle.type_layout.specs.declared.home.HomeNo.{HomeNo}
use Rattle.type_layout.specs.declared.key.KeyNo.{KeyNo}
use Rattle.type_layout.specs.declared.key.Key.{Key}
use Rattle.type_layout.specs.declared.schema.Factory.{Factory}
use Rattle.type_layout.specs.declared.schema.Home.{Home}
use Rattle.type_layout.specs.Scopes.{Provided}
use Rattle.type_layout.specs.declared.schema.Schema.{Schema}
use Rattle.type_layout.specs.Types.{Str, RefTo, PlainValue, Text, Ref, PlainMember}

abbrev pub home_1 : HomeNo
home_1 = record { 0 = 1 }

abbrev pub key_0 : KeyNo
key_0 = record { 0 = 0 }

abbrev pub person : List PlainMember
person =
    record { name = codes "ssn"; type = Str 0; readonly = true }
    ∷ record { name = codes "name"; type = Str 0; readonly = false }
    ∷ record { name = codes "boss"; type = RefTo (home_1 ∷ []); readonly = false }
    ∷ []

abbrev pub make : Factory
make = record { name = codes "make"; members = 0 ∷ 1 ∷ [] }

abbrev pub person_home : Home
person_home = record { name = codes "PersonHomeBase"; base = None; layout = record { members = person }; keys = key_0 ∷ []; factories = make ∷ [] }

abbrev pub ssn : Key
ssn = record { name = codes "ssn"; home = home_1; members = 0 ∷ [] }

abbrev pub persons : Provided
persons = record { catalog = codes "People"; name = codes "persons"; home = home_1 }

abbrev pub people : Schema
people = record { homes = person_home ∷ []; keys = ssn ∷ []; provided = persons ∷ [] }

-- ("1", "Ann", nil)
abbrev pub ann : List PlainValue
ann = Text (49 ∷ []) ∷ Text (codes "Ann") ∷ Ref None ∷ []
