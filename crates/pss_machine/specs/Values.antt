-- The values in the rest of a line.
use Rattle.std.specs.Prelude.{ℕ, List, ◌∷◌, map, Result}
use Rattle.std.specs.List.{slice_set}
use Rattle.type_layout.specs.Types.{PlainType, PlainValue, PlainMember}
use Rattle.type_layout.specs.Defaults.{default_record}
use Rattle.value_text.specs.Line.{values_from}
use Rattle.pss_machine.specs.declared.command.Rest.{Rest}

-- one value of each type, or the column of what is wrong
abbrev pub values_in : List PlainType → Rest → Result (List PlainValue) ℕ
values_in types rest = values_from types rest.column rest.text

abbrev pub types_of : List PlainMember → List PlainType
types_of members = map (λ member. member.type) members

-- the members with these numbers have these values
abbrev pub with_values : List ℕ → List PlainValue → List PlainValue → List PlainValue
with_values (i ∷ indexes) (v ∷ vs) values = with_values indexes vs (slice_set values i v)
with_values _ _ values = values

-- the record in which the members with these numbers have these values, and the others their defaults
abbrev pub made_of : List PlainMember → List ℕ → List PlainValue → List PlainValue
made_of members indexes vs = with_values indexes vs (default_record members)
