-- Words that several conditions share: the names in headers, the types of homes, the lists of keys and factories, and the
-- expressions whose values have a range.
use Rattle.std.specs.Prelude.{ℕ, List, [], Option, Some, Bool, false, not, ◌||◌, ◌++◌, ◌∷◌, is_some}
use Rattle.std.specs.List.{list_any, list_all, flat_map}
use Rattle.std.specs.Option.{option_to_list, option_and_then}
use Rattle.psdl_tree.specs.Trees.{Name, Expression}
use Rattle.type_layout.specs.Types.{PlainType, Str}
use Rattle.type_layout.specs.Schemas.{given}
use Rattle.psdl_directory.specs.declared.fault.CheckFault.{CheckFault}
use Rattle.psdl_directory.specs.Declarations.{Path, What, IsConstant, Declaration}
use Rattle.psdl_directory.specs.Parts.{managed, parents}
use Rattle.psdl_directory.specs.Lookup.{at, named, defined}
use Rattle.psdl_lineage.specs.Descent.{type_of_home, members, StateMember}
use Rattle.psdl_directory.specs.Fault.{fault_if}
use Rattle.psdl_standings.specs.Ranges.{from_one}
use Rattle.psdl_standings.specs.Standings.{Standing, Range, range, sight, assessed_by, constant_type_by}
use Rattle.psdl_standings.specs.Uses.{Bound, bounds}
use Rattle.psdl_standings.specs.Values.{Assessed}
use Rattle.std.specs.Str.{bytes_eq}
use Rattle.psdl_tree.specs.declared.names.Identifier.{Identifier}
use Rattle.psdl_directory.specs.declared.fault.CheckKind.{CheckKind}

-- the names behind `:`, `implements` and `of`
abbrev pub above : What → List Name
above what = parents what ++ option_to_list (managed what)

-- all of them mean something: only then it is known what the declaration has
abbrev pub has_settled_header : List Declaration → ℕ → Bool
has_settled_header all n = list_all (λ name. is_some (named all n name)) (above (at all n).what)

-- the type of the home that a name in the body of another means
abbrev pub type_of_named : List Declaration → ℕ → Name → Option ℕ
type_of_named all n name = option_and_then (type_of_home all) (defined all n name)

-- it is so of the types of a home and of one that it names
abbrev pub of_types : List Declaration → ℕ → (ℕ → ℕ → Bool) → Name → Bool
of_types all n test name = given (type_of_home all n) false (λ t. given (type_of_named all n name) false (λ u. test t u))

abbrev pub is_called : Identifier → StateMember → Bool
is_called i m = bytes_eq i.name m.name.name

abbrev pub same_name : Identifier → Identifier → Bool
same_name i j = bytes_eq i.name j.name

-- the identifiers of a list that name no member, or one that an earlier one names
abbrev pub listed_wrong : CheckKind → List StateMember → List Identifier → List Identifier → List CheckFault
listed_wrong kind ms earlier [] = []
listed_wrong kind ms earlier (i ∷ is) =
    fault_if (not (list_any (is_called i) ms) || list_any (same_name i) earlier) kind i.place ++ listed_wrong kind ms (i ∷ earlier) is

-- the members of the type of a home, where it has one
abbrev pub with_type : List Declaration → ℕ → (List StateMember → List CheckFault) → List CheckFault
with_type all n faults = given (type_of_home all n) [] (λ t. faults (members all t))

-- `ranged` is asked of each expression with its range and what it comes to, and `text` of a string constant with its bound
abbrev pub of_constant_by : (Range → Expression → Assessed → List CheckFault) → (ℕ → Expression → List CheckFault) → (Name → Standing) → PlainType → Expression → List CheckFault
of_constant_by ranged text names (Str bound) e = text bound e
of_constant_by ranged text names type e = given (range type) [] (λ r. ranged r e (assessed_by names r.width e))

abbrev pub of_bound_by : (Range → Expression → Assessed → List CheckFault) → List Declaration → List Standing → Path → Bound → List CheckFault
of_bound_by ranged all done path b = ranged (from_one b.most) b.value (assessed_by (sight all done b.limit path) (Some 64) b.value)

-- the value of a constant, and the bounds and dimensions of all others
abbrev pub of_expressions : (Range → Expression → Assessed → List CheckFault) → (ℕ → Expression → List CheckFault) → List Declaration → List Standing → ℕ → Path → What → List CheckFault
of_expressions ranged text all done n path (IsConstant c) = given (constant_type_by (sight all done n path) c.constant_type) [] (λ t. of_constant_by ranged text (sight all done n path) t c.value)
of_expressions ranged text all done n path what = flat_map (of_bound_by ranged all done path) (bounds n what)
