-- Types and values as plain trees, without where they lie in memory.
use Rattle.std.specs.Prelude.{ℕ, ℤ, List, [], ◌∷◌, Bool, Option}
use Rattle.pss_base.specs.declared.pid.Pid.{Pid}
use Rattle.type_layout.specs.declared.home.HomeNo.{HomeNo}

mutual
  -- a bound of 0 is none
  pub data PlainType : Type 0 where
    Short : PlainType
    Long : PlainType
    LongLong : PlainType
    UShort : PlainType
    ULong : PlainType
    ULongLong : PlainType
    Char : PlainType
    Boolean : PlainType
    Octet : PlainType
    Str : (bound : ℕ) → PlainType
    Seq : (item : PlainType) → (bound : ℕ) → PlainType
    Arr : (item : PlainType) → (count : ℕ) → PlainType
    Struct : (fields : PlainFields) → PlainType
    Enum : (names : List (List ℕ)) → PlainType
    RefTo : (homes : List HomeNo) → PlainType

  pub data PlainFields : Type 0 where
    no_fields : PlainFields
    field_and : (name : List ℕ) → (type : PlainType) → (fields : PlainFields) → PlainFields

pub record PlainField : Type 0 where
  pub name : List ℕ
  pub type : PlainType

-- the fields of a list
abbrev pub fields_of : List PlainField → PlainFields
fields_of [] = no_fields
fields_of (f ∷ fs) = field_and f.name f.type (fields_of fs)

mutual
  pub data PlainValue : Type 0 where
    Int : (z : ℤ) → PlainValue
    Character : (c : ℕ) → PlainValue
    Truth : (b : Bool) → PlainValue
    -- an enumerator by its place from 0
    Ordinal : (n : ℕ) → PlainValue
    Text : (bytes : List ℕ) → PlainValue
    Items : (vs : PlainValues) → PlainValue
    Parts : (vs : PlainValues) → PlainValue
    Ref : (pid : Option Pid) → PlainValue

  pub data PlainValues : Type 0 where
    no_values : PlainValues
    value_and : (v : PlainValue) → (vs : PlainValues) → PlainValues

-- the values of a list
abbrev pub values_of : List PlainValue → PlainValues
values_of [] = no_values
values_of (v ∷ vs) = value_and v (values_of vs)

pub record PlainMember : Type 0 where
  pub name : List ℕ
  pub type : PlainType
  pub readonly : Bool
