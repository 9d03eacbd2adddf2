-- That plain types and values can be told apart: each is stored as a tree of numbers, which gives it back.
use Rattle.std.specs.Prelude.{ℕ, ◌≡◌, ◌==◌, pos, negsuc, List, [], ◌∷◌, Bool, true, false, Some, None, refl, if◌then◌else◌}
use Rattle.std.proofs.Common.{sym, ap, ◌∙◌}
use Rattle.std.specs.Coded.{Coded, code_by, coded×, coded_ℕ, coded_bool, coded_list}
use base.Stored.{Gv, gnil, gnum, gcons, num}
use Rattle.pss_base.specs.declared.pid.Pid.{Pid}
use Rattle.type_layout.specs.declared.home.HomeNo.{HomeNo}
use Rattle.type_layout.specs.Types.{PlainType, Short, Long, LongLong, UShort, ULong, ULongLong, Char, Boolean, Octet, Str, Seq, Arr, Struct, Enum, RefTo, PlainFields, no_fields, field_and, PlainValue, Int, Character, Truth, Ordinal, Text, Items, Parts, Ref, PlainValues, no_values, value_and, PlainMember}

-- ---- numbers, names and homes

abbrev numbers : List ℕ → Gv
numbers [] = gnil
numbers (n ∷ ns) = gcons (gnum n) (numbers ns)

abbrev to_numbers : Gv → List ℕ
to_numbers gnil = []
to_numbers (gnum n) = []
to_numbers (gcons a b) = num a ∷ to_numbers b

numbers_back : (ns : List ℕ) → to_numbers (numbers ns) ≡ ns
numbers_back [] = refl
numbers_back (n ∷ ns) = ap (λ (l : List ℕ). n ∷ l) (numbers_back ns)

abbrev names : List (List ℕ) → Gv
names [] = gnil
names (n ∷ ns) = gcons (numbers n) (names ns)

abbrev to_names : Gv → List (List ℕ)
to_names gnil = []
to_names (gnum n) = []
to_names (gcons a b) = to_numbers a ∷ to_names b

names_back : (ns : List (List ℕ)) → to_names (names ns) ≡ ns
names_back [] = refl
names_back (n ∷ ns) = λ i. numbers_back n i ∷ names_back ns i

abbrev homes : List HomeNo → Gv
homes [] = gnil
homes (h ∷ hs) = gcons (gnum h.0) (homes hs)

abbrev to_homes : Gv → List HomeNo
to_homes gnil = []
to_homes (gnum n) = []
to_homes (gcons a b) = record { 0 = num a } ∷ to_homes b

homes_back : (hs : List HomeNo) → to_homes (homes hs) ≡ hs
homes_back [] = refl
homes_back (h ∷ hs) = ap (λ (l : List HomeNo). h ∷ l) (homes_back hs)

-- ---- types

abbrev mutual
  pub type_tree : PlainType → Gv
  type_tree Short = gnum 0
  type_tree Long = gnum 1
  type_tree LongLong = gnum 2
  type_tree UShort = gnum 3
  type_tree ULong = gnum 4
  type_tree ULongLong = gnum 5
  type_tree Char = gnum 6
  type_tree Boolean = gnum 7
  type_tree Octet = gnum 8
  type_tree (Str bound) = gcons (gnum 0) (gcons gnil (gnum bound))
  type_tree (Seq item bound) = gcons (gnum 1) (gcons (type_tree item) (gnum bound))
  type_tree (Arr item count) = gcons (gnum 2) (gcons (type_tree item) (gnum count))
  type_tree (Struct fields) = gcons (gnum 3) (gcons gnil (fields_tree fields))
  type_tree (Enum ns) = gcons (gnum 4) (gcons gnil (names ns))
  type_tree (RefTo hs) = gcons (gnum 5) (gcons gnil (homes hs))

  fields_tree : PlainFields → Gv
  fields_tree no_fields = gnil
  fields_tree (field_and name type fields) = gcons (numbers name) (gcons (type_tree type) (fields_tree fields))

abbrev simple : ℕ → PlainType
simple n =
    if n == 0 then Short else if n == 1 then Long else if n == 2 then LongLong else if n == 3 then UShort
    else if n == 4 then ULong else if n == 5 then ULongLong else if n == 6 then Char else if n == 7 then Boolean else Octet

abbrev compound : ℕ → PlainType → ℕ → PlainFields → List (List ℕ) → List HomeNo → PlainType
compound kind item n fields ns hs =
    if kind == 0 then Str n else if kind == 1 then Seq item n else if kind == 2 then Arr item n
    else if kind == 3 then Struct fields else if kind == 4 then Enum ns else RefTo hs

abbrev mutual
  pub to_type : Gv → PlainType
  to_type gnil = Short
  to_type (gnum n) = simple n
  to_type (gcons a gnil) = Short
  to_type (gcons a (gnum n)) = Short
  to_type (gcons a (gcons x y)) = compound (num a) (to_type x) (num y) (to_fields y) (to_names y) (to_homes y)

  to_fields : Gv → PlainFields
  to_fields gnil = no_fields
  to_fields (gnum n) = no_fields
  to_fields (gcons a gnil) = no_fields
  to_fields (gcons a (gnum n)) = no_fields
  to_fields (gcons a (gcons x y)) = field_and (to_numbers a) (to_type x) (to_fields y)

mutual
  pub type_back : (t : PlainType) → to_type (type_tree t) ≡ t
  type_back Short = refl
  type_back Long = refl
  type_back LongLong = refl
  type_back UShort = refl
  type_back ULong = refl
  type_back ULongLong = refl
  type_back Char = refl
  type_back Boolean = refl
  type_back Octet = refl
  type_back (Str bound) = refl
  type_back (Seq item bound) = ap (λ (t : PlainType). Seq t bound) (type_back item)
  type_back (Arr item count) = ap (λ (t : PlainType). Arr t count) (type_back item)
  type_back (Struct fields) = ap Struct (fields_back fields)
  type_back (Enum ns) = ap Enum (names_back ns)
  type_back (RefTo hs) = ap RefTo (homes_back hs)

  fields_back : (fs : PlainFields) → to_fields (fields_tree fs) ≡ fs
  fields_back no_fields = refl
  fields_back (field_and name type fields) = λ i. field_and (numbers_back name i) (type_back type i) (fields_back fields i)

abbrev pub type_code : Coded PlainType
type_code = record { code = type_tree; inj = λ x y p. sym (type_back x) ∙ ap to_type p ∙ type_back y }

-- ---- values

abbrev mutual
  pub value_tree : PlainValue → Gv
  value_tree (Int (pos n)) = gcons (gnum 0) (gnum n)
  value_tree (Int (negsuc n)) = gcons (gnum 1) (gnum n)
  value_tree (Character c) = gcons (gnum 2) (gnum c)
  value_tree (Truth true) = gnum 0
  value_tree (Truth false) = gnum 1
  value_tree (Ordinal n) = gcons (gnum 3) (gnum n)
  value_tree (Text bytes) = gcons gnil (gcons (gnum 0) (numbers bytes))
  value_tree (Items vs) = gcons gnil (gcons (gnum 1) (values_tree vs))
  value_tree (Parts vs) = gcons gnil (gcons (gnum 2) (values_tree vs))
  value_tree (Ref None) = gnum 2
  value_tree (Ref (Some pid)) = gcons gnil (gcons (gnum 3) (gcons (gnum pid.home) (gnum pid.serial)))

  values_tree : PlainValues → Gv
  values_tree no_values = gnil
  values_tree (value_and v vs) = gcons (value_tree v) (values_tree vs)

abbrev constant : ℕ → PlainValue
constant n = if n == 0 then Truth true else if n == 1 then Truth false else Ref None

abbrev single : ℕ → ℕ → PlainValue
single kind n = if kind == 0 then Int (pos n) else if kind == 1 then Int (negsuc n) else if kind == 2 then Character n else Ordinal n

abbrev to_pid : Gv → Pid
to_pid gnil = record { home = 0; serial = 0 }
to_pid (gnum n) = record { home = 0; serial = 0 }
to_pid (gcons a b) = record { home = num a; serial = num b }

abbrev many : ℕ → List ℕ → PlainValues → Pid → PlainValue
many kind bytes vs pid = if kind == 0 then Text bytes else if kind == 1 then Items vs else if kind == 2 then Parts vs else Ref (Some pid)

abbrev mutual
  pub to_value : Gv → PlainValue
  to_value gnil = Truth true
  to_value (gnum n) = constant n
  to_value (gcons a gnil) = Truth true
  to_value (gcons a (gnum n)) = single (num a) n
  to_value (gcons a (gcons x y)) = many (num x) (to_numbers y) (to_values y) (to_pid y)

  to_values : Gv → PlainValues
  to_values gnil = no_values
  to_values (gnum n) = no_values
  to_values (gcons a b) = value_and (to_value a) (to_values b)

mutual
  pub value_back : (v : PlainValue) → to_value (value_tree v) ≡ v
  value_back (Int (pos n)) = refl
  value_back (Int (negsuc n)) = refl
  value_back (Character c) = refl
  value_back (Truth true) = refl
  value_back (Truth false) = refl
  value_back (Ordinal n) = refl
  value_back (Text bytes) = ap Text (numbers_back bytes)
  value_back (Items vs) = ap Items (values_back vs)
  value_back (Parts vs) = ap Parts (values_back vs)
  value_back (Ref None) = refl
  value_back (Ref (Some pid)) = refl

  values_back : (vs : PlainValues) → to_values (values_tree vs) ≡ vs
  values_back no_values = refl
  values_back (value_and v vs) = λ i. value_and (value_back v i) (values_back vs i)

abbrev pub value_code : Coded PlainValue
value_code = record { code = value_tree; inj = λ x y p. sym (value_back x) ∙ ap to_value p ∙ value_back y }

abbrev pub record_code : Coded (List PlainValue)
record_code = coded_list value_code

abbrev pub members_code : Coded (List PlainMember)
members_code =
    coded_list
    (code_by
    (List ℕ × (PlainType × Bool))
    (coded× (coded_list coded_ℕ) (coded× type_code coded_bool))
    (λ m. (m.name, (m.type, m.readonly)))
    (λ p. record { name = p.0; type = p.1.0; readonly = p.1.1 })
    (λ _. refl))
