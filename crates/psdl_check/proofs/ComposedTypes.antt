-- What is handed on from parts to wholes holds of types that are composed, where their bounds and dimensions are within their range.
use Rattle.std.proofs.Common.{◌≡◌, ℕ, ◌<◌, ◌≤◌, List, [], ◌∷◌, ◌++◌, map, not, false, Option, Some, None, refl, sym, subst, ◌∙◌, arith}
use Rattle.std.specs.Prelude.{ℤ, pos, negsuc, int_le}
use Rattle.std.specs.List.{flat_map}
use Rattle.std.specs.Option.{option_map, option_and_then}
use Rattle.std.proofs.lemmas.Bool.{and_parts, or_parts, not-false, leb-true}
use Rattle.std.proofs.lemmas.List.Concat.{flat_map-append}
use Rattle.psdl_tree.specs.declared.types.IntegerType.{IntegerType}
use Rattle.psdl_tree.specs.Trees.{Name, Expression, PlainType as PlainTree, IntegerPlain, CharPlain, BooleanPlain, OctetPlain, StringPlain, NamePlain, TypeSpec, PlainSpec, Sequence, Declarator, Field as FieldTree, Struct as StructTree}
use Rattle.type_layout.specs.Schemas.{given}
use Rattle.type_layout.specs.Sound.{HasField}
use Rattle.type_layout.specs.Types.{PlainType, Char, Boolean, Octet, Str, Seq, Arr, Struct, PlainField, PlainFields, no_fields, field_and, fields_of}
use Rattle.psdl_directory.specs.declared.fault.CheckKind.TheVariants.{ConstRange, ConstZero}
use Rattle.psdl_directory.specs.Declarations.{Path, Declaration, all_declarators}
use Rattle.psdl_directory.specs.Fault.{fault, fault_if}
use Rattle.psdl_directory.specs.Parts.{all_fields}
use Rattle.psdl_standings.specs.Expressions.{expression_place}
use Rattle.psdl_standings.specs.Ranges.{is_out, of_expression, from_one, of_bound}
use Rattle.psdl_standings.specs.Standings.{Standing, type_of, natural, sight, all_there, assessed_by, size_by, integer_type, plain_by, spec_by, arrays_by, field_by, fields_by, struct_by}
use Rattle.psdl_standings.specs.Uses.{bounds_of, most_items, most_elements, plain_bounds, spec_bounds, declarator_bounds, field_bounds}
use Rattle.psdl_standings.specs.Values.{Assessed, is_within}
use Rattle.psdl_check.proofs.FaultlessTexts.{both_empty, does_not_hold}
use Rattle.psdl_check.proofs.FewMembers.{each_there}

-- ---- sizes

-- from 1 to the most
abbrev pub IsSize : ℕ → ℕ → Type 0
IsSize most k = (0 < k) × (k ≤ most)

number_in : (most : ℕ) (o : Option ℤ) (k : ℕ) → option_and_then natural o ≡ Some k → given o false (λ z. not (is_within (pos 1) (pos most) z)) ≡ false → IsSize most k
number_in most None k is inside = absurd (cc)
number_in most (Some (negsuc n)) k is inside = absurd (cc)
number_in most (Some (pos n)) k is inside =
    let same : n ≡ k = cc in
    let both = and_parts (int_le (pos 1) (pos n)) (int_le (pos n) (pos most)) (not-false (is_within (pos 1) (pos most) (pos n)) inside) in
    (omega (arith, same, leb-true 1 n both.0), omega (arith, same, leb-true n most both.1))

size_in : (names : Name → Standing) (most : ℕ) (e : Expression) → of_expression names (from_one most) e ≡ [] → (k : ℕ) → size_by names e ≡ Some k → IsSize most k
size_in names most e none k is =
    let a : Assessed = assessed_by names (Some 64) e in
    let off : is_out (from_one most) a ≡ false =
    does_not_hold (is_out (from_one most) a) ConstRange (expression_place e) (both_empty (fault_if (is_out (from_one most) a) ConstRange (expression_place e)) (map (fault ConstZero) a.zeros) none).0 in
    let inside = or_parts a.leaves (given a.value false (λ z. not (is_within (pos 1) (pos most) z))) off in
    number_in most a.value k is inside.1

-- the expressions that come to a number come to one that is in range
abbrev pub AreSized : (Name → Standing) → ℕ → List Expression → Type 0
AreSized names most [] = Unit {0}
AreSized names most (e ∷ es) = ((k : ℕ) → size_by names e ≡ Some k → IsSize most k) × AreSized names most es

-- of lists that are empty together each is empty
pub both_none : {X A : Type 0} (f : X → List A) (xs ys : List X) → flat_map f (xs ++ ys) ≡ [] → (flat_map f xs ≡ []) × (flat_map f ys ≡ [])
both_none f xs ys e = both_empty (flat_map f xs) (flat_map f ys) (sym (flat_map-append f xs ys) ∙ e)

-- ---- what is handed on

-- what holds of the parts of a type holds of the type; `F` is the same of fields
pub record IsHandedOn (P : PlainType → Type 0) (F : PlainFields → Type 0) : Type 0 where
  pub integer : (i : IntegerType) → P (integer_type i)
  pub char : P Char
  pub boolean : P Boolean
  pub octet : P Octet
  pub string : (bound : ℕ) → bound ≤ most_items → P (Str bound)
  pub sequence : (item : PlainType) (bound : ℕ) → bound ≤ most_items → P item → P (Seq item bound)
  pub array : (item : PlainType) (count : ℕ) → IsSize most_elements count → P item → P (Arr item count)
  pub none : F no_fields
  pub field : (name : List ℕ) (type : PlainType) (fields : PlainFields) → P type → F fields → F (field_and name type fields)
  pub struct : (fields : PlainFields) → HasField fields → F fields → P (Struct fields)

-- it holds of the type, where that is there
abbrev pub HoldsOf : (PlainType → Type 0) → Option PlainType → Type 0
HoldsOf P o = (t : PlainType) → o ≡ Some t → P t

-- it holds of each type that a name stands for
abbrev pub HoldsOfNames : (PlainType → Type 0) → (Name → Standing) → Type 0
HoldsOfNames P names = (name : Name) → HoldsOf P (type_of (names name))

module _ (P : PlainType → Type 0) where
  of_one : (t : PlainType) → P t → HoldsOf P (Some t)
  of_one t holds u is = let same : t ≡ u = cc in subst P same holds

  pub of_mapped : {A : Type 0} (f : A → PlainType) (o : Option A) → ((x : A) → o ≡ Some x → P (f x)) → HoldsOf P (option_map f o)
  of_mapped f None each t is = absurd (cc)
  of_mapped f (Some x) each t is = of_one (f x) (each x refl) t is

  of_given : (f : PlainType → Option PlainType) (o : Option PlainType) → ((u : PlainType) → o ≡ Some u → HoldsOf P (f u)) → HoldsOf P (given o None f)
  of_given f None each t is = absurd (cc)
  of_given f (Some u) each t is = each u refl t is

-- ---- what the ranges of bounds and dimensions say

module _ (all : List Declaration) (done : List Standing) (path : Path) (limit : ℕ) (names : Name → Standing) (same : (e : Expression) → size_by names e ≡ size_by (sight all done limit path) e) where
  -- where none has a fault, all are sized
  pub sized_from : (most : ℕ) (es : List Expression) → flat_map (of_bound all done path) (bounds_of limit most es) ≡ [] → AreSized names most es
  sized_from most [] none = tt
  sized_from most (e ∷ es) none =
      let both = both_empty (of_expression (sight all done limit path) (from_one most) e) (flat_map (of_bound all done path) (bounds_of limit most es)) none in
      ((λ k is. size_in (sight all done limit path) most e both.0 k (sym (same e) ∙ is)), sized_from most es both.1)

module _ (P : PlainType → Type 0) (F : PlainFields → Type 0) (handed : IsHandedOn P F) where
  -- ---- arrays

  -- an array with all its dimensions
  arrays_hold : (names : Name → Standing) (es : List Expression) (type : PlainType) → AreSized names most_elements es → P type → HoldsOf P (arrays_by names es type)
  arrays_hold names [] type sized holds = of_one P type holds
  arrays_hold names (e ∷ es) type sized holds =
      of_given P (λ item. option_map (Arr item) (size_by names e)) (arrays_by names es type)
      (λ item is. of_mapped P (Arr item) (size_by names e) (λ k size. handed.array item k (sized.0 k size) (arrays_hold names es type sized.1 holds item is)))

  -- an array of a type that may be there
  pub array_holds : (names : Name → Standing) (es : List Expression) (o : Option PlainType) → AreSized names most_elements es → HoldsOf P o → HoldsOf P (option_and_then (arrays_by names es) o)
  array_holds names es None sized item t is = absurd (cc)
  array_holds names es (Some u) sized item t is = arrays_hold names es u sized (item u refl) t is

  -- ---- the types of a scope

  module _ (all : List Declaration) (done : List Standing) (path : Path) (limit : ℕ) (names : Name → Standing) (same : (e : Expression) → size_by names e ≡ size_by (sight all done limit path) e) (holds : HoldsOfNames P names) where
    sized : (most : ℕ) (es : List Expression) → flat_map (of_bound all done path) (bounds_of limit most es) ≡ [] → AreSized names most es
    sized most es none = sized_from all done path limit names same most es none

    -- a plain type
    pub plain_holds : (plain : PlainTree) → flat_map (of_bound all done path) (plain_bounds limit plain) ≡ [] → HoldsOf P (plain_by names plain)
    plain_holds (IntegerPlain i) none = of_one P (integer_type i) (handed.integer i)
    plain_holds CharPlain none = of_one P Char handed.char
    plain_holds BooleanPlain none = of_one P Boolean handed.boolean
    plain_holds OctetPlain none = of_one P Octet handed.octet
    plain_holds (StringPlain None) none = of_one P (Str 0) (handed.string 0 (omega arith))
    plain_holds (StringPlain (Some bound)) none = of_mapped P Str (size_by names bound) (λ k is. handed.string k ((sized most_items (bound ∷ []) none).0 k is).1)
    plain_holds (NamePlain name) none = holds name

    -- a type with its sequences
    pub spec_holds : (spec : TypeSpec) → flat_map (of_bound all done path) (spec_bounds limit spec) ≡ [] → HoldsOf P (spec_by names spec)
    spec_holds (PlainSpec plain) none = plain_holds plain none
    spec_holds (Sequence item None) none =
        let both = both_none (of_bound all done path) (spec_bounds limit item) [] none in
        of_mapped P (λ t. Seq t 0) (spec_by names item) (λ u is. handed.sequence u 0 (omega arith) (spec_holds item both.0 u is))
    spec_holds (Sequence item (Some bound)) none =
        let both = both_none (of_bound all done path) (spec_bounds limit item) (bounds_of limit most_items (bound ∷ [])) none in
        of_given P (λ t. option_map (Seq t) (size_by names bound)) (spec_by names item)
        (λ u is. of_mapped P (Seq u) (size_by names bound) (λ k size. handed.sequence u k ((sized most_items (bound ∷ []) both.1).0 k size).1 (spec_holds item both.0 u is)))

    -- ---- structs

    -- it holds of the type of each field that is there
    abbrev HoldsOfFields : List (Option PlainField) → Type 0
    HoldsOfFields [] = Unit {0}
    HoldsOfFields (o ∷ os) = ((f : PlainField) → o ≡ Some f → P f.type) × HoldsOfFields os

    holds_append : (xs ys : List (Option PlainField)) → HoldsOfFields xs → HoldsOfFields ys → HoldsOfFields (xs ++ ys)
    holds_append [] ys a b = b
    holds_append (x ∷ xs) ys a b = (a.0, holds_append xs ys a.1 b)

    fields_hold : (os : List (Option PlainField)) (fs : List PlainField) → os ≡ map (λ f. Some f) fs → HoldsOfFields os → F (fields_of fs)
    fields_hold os [] is each = handed.none
    fields_hold [] (f ∷ fs) is each = absurd (cc)
    fields_hold (o ∷ os) (f ∷ fs) is each = handed.field f.name f.type (fields_of fs) (each.0 f (cc)) (fields_hold os fs (cc) each.1)

    some_field : (o : Option PlainField) (os : List (Option PlainField)) (fs : List PlainField) → o ∷ os ≡ map (λ f. Some f) fs → HasField (fields_of fs)
    some_field o os [] is = absurd (cc)
    some_field o os (f ∷ fs) is = tt

    field_holds : (d : Declarator) (o : Option PlainType) → HoldsOf P o → (f : PlainField) → option_map (λ t. record { name = d.name.name; type = t }) o ≡ Some f → P f.type
    field_holds d None each f is = absurd (cc)
    field_holds d (Some t) each f is =
        let made : PlainField = record { name = d.name.name; type = t } in
        let one : made ≡ f = cc in
        subst (λ (x : PlainField). P x.type) one (each t refl)

    declarators_hold : (spec : TypeSpec) → HoldsOf P (spec_by names spec) → (ds : List Declarator) → flat_map (of_bound all done path) (flat_map (declarator_bounds limit) ds) ≡ [] → HoldsOfFields (map (field_by names spec) ds)
    declarators_hold spec each [] none = tt
    declarators_hold spec each (d ∷ ds) none =
        let both = both_none (of_bound all done path) (declarator_bounds limit d) (flat_map (declarator_bounds limit) ds) none in
        let own : HoldsOf P (option_and_then (arrays_by names d.dimensions) (spec_by names spec)) = array_holds names d.dimensions (spec_by names spec) (sized most_elements d.dimensions both.0) each in
        (field_holds d (option_and_then (arrays_by names d.dimensions) (spec_by names spec)) own, declarators_hold spec each ds both.1)

    all_fields_hold : (fs : List FieldTree) → flat_map (of_bound all done path) (flat_map (field_bounds limit) fs) ≡ [] → HoldsOfFields (flat_map (fields_by names) fs)
    all_fields_hold [] none = tt
    all_fields_hold (f ∷ fs) none =
        let both = both_none (of_bound all done path) (field_bounds limit f) (flat_map (field_bounds limit) fs) none in
        let own = both_none (of_bound all done path) (spec_bounds limit f.spec) (flat_map (declarator_bounds limit) (all_declarators f.declarators)) both.0 in
        holds_append (fields_by names f) (flat_map (fields_by names) fs) (declarators_hold f.spec (spec_holds f.spec own.0) (all_declarators f.declarators) own.1) (all_fields_hold fs both.1)

    -- a struct
    pub struct_holds : (struct : StructTree) → flat_map (of_bound all done path) (flat_map (field_bounds limit) (all_fields struct)) ≡ [] → HoldsOf P (struct_by names struct)
    struct_holds struct none =
        let parts : List (Option PlainField) = flat_map (fields_by names) (all_fields struct) in
        of_mapped P (λ fields. Struct (fields_of fields)) (all_there parts)
        (λ fs is.
        let each = each_there parts fs is in
        handed.struct (fields_of fs) (some_field _ _ fs each) (fields_hold parts fs each (all_fields_hold (all_fields struct) none)))
