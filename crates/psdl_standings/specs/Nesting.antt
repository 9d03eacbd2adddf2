-- Limits of types and homes.
use Rattle.std.specs.Prelude.{ℕ, suc, ◌+◌, ◌-◌, List, [], ◌∷◌, length, max, Option, Some, None, Bool, false, ◌==◌, if◌then◌else◌}
use Rattle.std.specs.List.{flat_map}
use Rattle.std.specs.Option.{option_map}
use Rattle.psdl_tree.specs.Trees.{Name, Expression, PlainType as PlainTree, NamePlain, TypeSpec, PlainSpec, Sequence, Field, Struct as StructTree}
use Rattle.type_layout.specs.Schemas.{given}
use Rattle.type_layout.specs.Types.{PlainType, Seq, Arr, Struct, PlainFields, no_fields, field_and}
use Rattle.psdl_directory.specs.Declarations.{Path, What, IsAlias, IsStruct, Declaration, all_declarators}
use Rattle.psdl_directory.specs.Parts.{all_fields}
use Rattle.psdl_directory.specs.Lookup.{as_is, meaning, origin}
use Rattle.psdl_standings.specs.Standings.{Standing, standing, type_of, all_there}

abbrev mutual
  -- a type without parts has nesting 1, and a sequence, array or struct one more than its deepest part
  pub nesting : PlainType → ℕ
  nesting (Seq item bound) = suc (nesting item)
  nesting (Arr item count) = suc (nesting item)
  nesting (Struct fields) = suc (deepest_field fields)
  nesting _ = 1

  pub deepest_field : PlainFields → ℕ
  deepest_field no_fields = 0
  deepest_field (field_and name type fields) = max (nesting type) (deepest_field fields)

-- of what a declaration stands for
abbrev pub nesting_at : List Standing → ℕ → ℕ
nesting_at done j = given (type_of (standing done j)) 1 nesting

-- `names` has the nesting of names, 0 for one that is no part
abbrev pub plain_nesting : (Name → Option ℕ) → PlainTree → Option ℕ
plain_nesting names (NamePlain name) = names name
plain_nesting names _ = Some 1

abbrev pub spec_nesting : (Name → Option ℕ) → TypeSpec → Option ℕ
spec_nesting names (PlainSpec plain) = plain_nesting names plain
spec_nesting names (Sequence item bound) = option_map (λ k. suc k) (spec_nesting names item)

-- with the dimensions of a declarator
abbrev pub declarator_nesting : (Name → Option ℕ) → TypeSpec → List Expression → Option ℕ
declarator_nesting names spec dimensions = option_map (λ k. k + length dimensions) (spec_nesting names spec)

abbrev pub field_nestings : (Name → Option ℕ) → Field → List (Option ℕ)
field_nestings names field = flat_map (λ d. declarator_nesting names field.spec d.dimensions ∷ []) (all_declarators field.declarators)

abbrev pub deepest : List ℕ → ℕ
deepest [] = 0
deepest (k ∷ ks) = max k (deepest ks)

abbrev pub struct_nesting : (Name → Option ℕ) → StructTree → Option ℕ
struct_nesting names struct = option_map (λ ks. suc (deepest ks)) (all_there (flat_map (field_nestings names) (all_fields struct)))

abbrev pub is_origin : List Declaration → ℕ → ℕ → Bool
is_origin all n j = given (origin all n) false (λ k. j == k)

-- the nesting of a name's meaning
abbrev pub name_nesting : List Declaration → List Standing → ℕ → Path → Name → Option ℕ
name_nesting all done limit path name = option_map (nesting_at done) (meaning as_is all limit path name)

-- a struct's own name is no part of it
abbrev pub part_nesting : List Declaration → List Standing → ℕ → Path → Name → Option ℕ
part_nesting all done n path name = option_map (λ j. if is_origin all n j then 0 else nesting_at done j) (meaning as_is all (n + 1) path name)

abbrev pub nesting_of : List Declaration → List Standing → ℕ → Path → What → Option ℕ
nesting_of all done n path (IsAlias before spec dimensions) = declarator_nesting (name_nesting all done (n - before) path) spec dimensions
nesting_of all done n path (IsStruct struct) = struct_nesting (part_nesting all done n path) struct
nesting_of all done n path _ = None
