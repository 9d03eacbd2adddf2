-- The types that declarations stand for have names for their fields and enumerators, where those of the text are names.
use Rattle.std.proofs.Common.{◌≡◌, ℕ, zero, suc, ◌+◌, ◌-◌, List, [], ◌∷◌, ◌++◌, length, map, Bool, true, false, Option, Some, None}
use Rattle.std.specs.List.{list_all, flat_map}
use Rattle.std.specs.Option.{option_map, option_and_then}
use Rattle.std.proofs.lemmas.Bool.{and_parts}
use Rattle.psdl_tree.specs.declared.types.IntegerSize.{IntegerSize}
use Rattle.psdl_tree.specs.declared.types.IntegerSize.TheVariants as sizes
use Rattle.psdl_tree.specs.Trees.{Name, Expression, PlainType as PlainTree, IntegerPlain, CharPlain, BooleanPlain, OctetPlain, StringPlain, NamePlain, TypeSpec, PlainSpec, Sequence, Declarator, Field as FieldTree, Struct as StructTree, Constant}
use Rattle.type_layout.specs.Names.{IsNamed, AreNamed}
use Rattle.type_layout.specs.Schemas.{given}
use Rattle.type_layout.specs.Sound.{is_name}
use Rattle.type_layout.specs.Types.{PlainType, Str, Seq, Arr, Struct, PlainField, fields_of}
use Rattle.psdl_directory.specs.Declarations.{Path, What, IsModule, IsConstant, IsAlias, IsStruct, IsEnumeration, IsEnumerator, IsAbstractType, IsConcreteType, IsAbstractHome, IsConcreteHome, IsCatalog, Declaration, all_declarators}
use Rattle.psdl_directory.specs.Lookup.{as_is, meaning}
use Rattle.psdl_directory.specs.Parts.{all_fields, field_names, body_names}
use Rattle.psdl_standings.specs.Standings.{Standing, Nothing, StandsForType, StandsForNumber, Range, type_of, standing, sight, range, within, all_there, assessed_by, size_by, type_by_sign, plain_by, spec_by, arrays_by, field_by, fields_by, struct_by, as_type, constant_type_by, number_by, constant_by, standing_of, standings_after, standings}
use Rattle.psdl_check.specs.TextNames.{listed_enumerators, has_names, AreNames}
use Rattle.psdl_sound.proofs.NamedBodies.{has_name, HaveNames, parts_have, is_named_inside, AreNamedInside}

-- ---- types that may be there

-- a type with names, where it is there
abbrev pub HasNames : Option PlainType → Type 0
HasNames None = Unit {0}
HasNames (Some t) = IsNamed t

-- a declaration stands for no type, or for one with names
abbrev pub StandsNamed : Standing → Type 0
StandsNamed Nothing = Unit {0}
StandsNamed (StandsForType t) = IsNamed t
StandsNamed (StandsForNumber t value) = Unit {0}

type_named : (s : Standing) → StandsNamed s → HasNames (type_of s)
type_named Nothing named = tt
type_named (StandsForType t) named = named
type_named (StandsForNumber t value) named = tt

as_named : (o : Option PlainType) → HasNames o → StandsNamed (as_type o)
as_named None named = tt
as_named (Some t) named = named

-- a field with a name, and names in its type
abbrev IsNamedField : PlainField → Type 0
IsNamedField f = (is_name f.name ≡ true) × IsNamed f.type

abbrev HasNamedField : Option PlainField → Type 0
HasNamedField None = Unit {0}
HasNamedField (Some f) = IsNamedField f

abbrev HaveNamedFields : List (Option PlainField) → Type 0
HaveNamedFields [] = Unit {0}
HaveNamedFields (o ∷ os) = HasNamedField o × HaveNamedFields os

abbrev AreNamedFields : Option (List PlainField) → Type 0
AreNamedFields None = Unit {0}
AreNamedFields (Some fs) = AreNamed (fields_of fs)

-- of two parts
both_fields : (os ps : List (Option PlainField)) → HaveNamedFields os → HaveNamedFields ps → HaveNamedFields (os ++ ps)
both_fields [] ps a b = b
both_fields (o ∷ os) ps a b = (a.0, both_fields os ps a.1 b)

-- where all are there
fields_there : (os : List (Option PlainField)) → HaveNamedFields os → AreNamedFields (all_there os)
fields_there [] named = tt
fields_there (None ∷ os) named = tt
fields_there (Some f ∷ os) named = by (all_there os) (fields_there os named.1)
  where
    by : (o : Option (List PlainField)) → AreNamedFields o → AreNamedFields (option_map (λ others. f ∷ others) o)
    by None others = tt
    by (Some fs) others = (named.0.0, named.0.1, others)

-- ---- types by what names stand for

module _ (names : Name → Standing) (stand : (name : Name) → StandsNamed (names name)) where
  integer_named : (unsigned : Bool) (size : IntegerSize) → IsNamed (type_by_sign unsigned size)
  integer_named true sizes.Short = tt
  integer_named true sizes.Long = tt
  integer_named true sizes.LongLong = tt
  integer_named false sizes.Short = tt
  integer_named false sizes.Long = tt
  integer_named false sizes.LongLong = tt

  string_named : (o : Option ℕ) → HasNames (option_map Str o)
  string_named None = tt
  string_named (Some n) = tt

  -- a plain type
  pub plain_named : (plain : PlainTree) → HasNames (plain_by names plain)
  plain_named (IntegerPlain i) = integer_named i.unsigned i.size
  plain_named CharPlain = tt
  plain_named BooleanPlain = tt
  plain_named OctetPlain = tt
  plain_named (StringPlain None) = tt
  plain_named (StringPlain (Some bound)) = string_named (size_by names bound)
  plain_named (NamePlain name) = type_named (names name) (stand name)

  unbounded : (o : Option PlainType) → HasNames o → HasNames (option_map (λ t. Seq t 0) o)
  unbounded None named = tt
  unbounded (Some t) named = named

  bounded : (o : Option PlainType) (n : Option ℕ) → HasNames o → HasNames (given o None (λ t. option_map (Seq t) n))
  bounded None n named = tt
  bounded (Some t) None named = tt
  bounded (Some t) (Some n) named = named

  -- a type with its sequences
  spec_named : (spec : TypeSpec) → HasNames (spec_by names spec)
  spec_named (PlainSpec plain) = plain_named plain
  spec_named (Sequence item None) = unbounded (spec_by names item) (spec_named item)
  spec_named (Sequence item (Some bound)) = bounded (spec_by names item) (size_by names bound) (spec_named item)

  -- an array with all its dimensions
  array_named : (o : Option PlainType) (n : Option ℕ) → HasNames o → HasNames (given o None (λ item. option_map (Arr item) n))
  array_named None n named = tt
  array_named (Some t) None named = tt
  array_named (Some t) (Some n) named = named

  arrays_named : (es : List Expression) (t : PlainType) → IsNamed t → HasNames (arrays_by names es t)
  arrays_named [] t named = named
  arrays_named (e ∷ es) t named = array_named (arrays_by names es t) (size_by names e) (arrays_named es t named)

  arrays_of : (es : List Expression) (o : Option PlainType) → HasNames o → HasNames (option_and_then (arrays_by names es) o)
  arrays_of es None named = tt
  arrays_of es (Some t) named = arrays_named es t named

  -- ---- structs

  field_named : (spec : TypeSpec) (d : Declarator) → has_name d.name ≡ true → HasNamedField (field_by names spec d)
  field_named spec d name = by (option_and_then (arrays_by names d.dimensions) (spec_by names spec)) (arrays_of d.dimensions (spec_by names spec) (spec_named spec))
    where
      by : (o : Option PlainType) → HasNames o → HasNamedField (option_map (λ t. record { name = d.name.name; type = t }) o)
      by None named = tt
      by (Some t) named = (name, named)

  declarators_named : (spec : TypeSpec) (ds : List Declarator) → HaveNames (map (λ d. d.name) ds) → HaveNamedFields (map (field_by names spec) ds)
  declarators_named spec [] have = tt
  declarators_named spec (d ∷ ds) have =
      let both = and_parts (has_name d.name) (list_all has_name (map (λ d. d.name) ds)) have in
      (field_named spec d both.0, declarators_named spec ds both.1)

  fields_named : (fs : List FieldTree) → HaveNames (flat_map field_names fs) → HaveNamedFields (flat_map (fields_by names) fs)
  fields_named [] have = tt
  fields_named (f ∷ fs) have =
      let both = parts_have (field_names f) (flat_map field_names fs) have in
      both_fields (fields_by names f) (flat_map (fields_by names) fs) (declarators_named f.spec (all_declarators f.declarators) both.0) (fields_named fs both.1)

  struct_named : (struct : StructTree) → HaveNames (body_names (IsStruct struct)) → HasNames (struct_by names struct)
  struct_named struct have = by (all_there (flat_map (fields_by names) (all_fields struct))) (fields_there (flat_map (fields_by names) (all_fields struct)) (fields_named (all_fields struct) have))
    where
      by : (o : Option (List PlainField)) → AreNamedFields o → HasNames (option_map (λ fields. Struct (fields_of fields)) o)
      by None named = tt
      by (Some fs) named = named

  -- ---- constants stand for no type

  number_named : (e : Expression) (t : PlainType) → StandsNamed (number_by names e t)
  number_named e t = by (range t)
    where
      by : (o : Option Range) → StandsNamed (given o Nothing (λ r. StandsForNumber t (option_and_then (within r) (assessed_by names r.width e).value)))
      by None = tt
      by (Some r) = tt

  constant_named : (c : Constant) → StandsNamed (constant_by names c)
  constant_named c = by (constant_type_by names c.constant_type)
    where
      by : (o : Option PlainType) → StandsNamed (given o Nothing (number_by names c.value))
      by None = tt
      by (Some t) = number_named c.value t

-- ---- declarations

-- each stands for no type, or for one with names
abbrev pub AllStandNamed : List Standing → Type 0
AllStandNamed [] = Unit {0}
AllStandNamed (s ∷ ss) = StandsNamed s × AllStandNamed ss

one_more : (ss : List Standing) (s : Standing) → AllStandNamed ss → StandsNamed s → AllStandNamed (ss ++ s ∷ [])
one_more [] s named last = (last, tt)
one_more (r ∷ ss) s named last = (named.0, one_more ss s named.1 last)

-- by its number
pub stands_named : (done : List Standing) → AllStandNamed done → (n : ℕ) → StandsNamed (standing done n)
stands_named [] named n = tt
stands_named (s ∷ ss) named zero = named.0
stands_named (s ∷ ss) named (suc n) = stands_named ss named.1 n

-- by a name in a scope
pub sight_named : (all : List Declaration) (done : List Standing) → AllStandNamed done → (limit : ℕ) (path : Path) (name : Name) → StandsNamed (sight all done limit path name)
sight_named all done named limit path name = by (meaning as_is all limit path name)
  where
    by : (o : Option ℕ) → StandsNamed (given o Nothing (λ n. standing done n))
    by None = tt
    by (Some n) = stands_named done named n

-- what a declaration stands for by those before it
standing_named : (all : List Declaration) (done : List Standing) → AllStandNamed done → (n : ℕ) (path : Path) (what : What) → list_all is_name (listed_enumerators what) ≡ true → HaveNames (body_names what) → StandsNamed (standing_of all done n path what)
standing_named all done named n path (IsConstant c) listed inside = constant_named (sight all done n path) (sight_named all done named n path) c
standing_named all done named n path (IsAlias before spec dimensions) listed inside =
    let names : Name → Standing = sight all done (n - before) path in
    let later : Name → Standing = sight all done (n + 1) path in
    as_named (option_and_then (arrays_by later dimensions) (spec_by names spec))
    (arrays_of later (sight_named all done named (n + 1) path) dimensions (spec_by names spec) (spec_named names (sight_named all done named (n - before) path) spec))
standing_named all done named n path (IsStruct struct) listed inside =
    let names : Name → Standing = sight all done (n + 1) path in
    as_named (struct_by names struct) (struct_named names (sight_named all done named (n + 1) path) struct inside)
standing_named all done named n path (IsEnumeration enumerators) listed inside = listed
standing_named all done named n path IsModule listed inside = tt
standing_named all done named n path IsEnumerator listed inside = tt
standing_named all done named n path (IsAbstractType body) listed inside = tt
standing_named all done named n path (IsConcreteType body) listed inside = tt
standing_named all done named n path (IsAbstractHome body) listed inside = tt
standing_named all done named n path (IsConcreteHome home) listed inside = tt
standing_named all done named n path (IsCatalog provisions) listed inside = tt

after_named : (all : List Declaration) (done : List Standing) (ds : List Declaration) → AllStandNamed done → AreNames ds → AreNamedInside ds → AllStandNamed (standings_after all done ds)
after_named all done [] named names inside = named
after_named all done (d ∷ ds) named names inside =
    let own = and_parts (has_names d) (list_all has_names ds) names in
    let inner = and_parts (is_named_inside d) (list_all is_named_inside ds) inside in
    let s : Standing = standing_of all done (length done) d.path d.what in
    let last : StandsNamed s = standing_named all done named (length done) d.path d.what (and_parts (is_name d.name) (list_all is_name (listed_enumerators d.what)) own.0).1 inner.0 in
    after_named all (done ++ s ∷ []) ds (one_more done s named last) own.1 inner.1

-- all declarations of a text
pub all_stand_named : (all : List Declaration) → AreNames all → AreNamedInside all → AllStandNamed (standings all)
unfolding standings
all_stand_named all names inside = after_named all [] all tt names inside
