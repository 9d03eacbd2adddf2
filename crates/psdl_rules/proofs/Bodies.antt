-- What is noted of names and values in bodies, condition by condition.
use Rattle.std.proofs.Common.{◌≡◌, ℕ, ◌+◌, List, [], ◌∷◌, ◌++◌, Option, Some, None, refl, ap, ◌∙◌}
use Rattle.std.specs.Prelude.{is_none, is_some, ◌&&◌}
use Rattle.std.specs.List.{flat_map}
use Rattle.pss_base.specs.declared.place.Place.{Place}
use Rattle.psdl_tree.specs.Trees.{Name, Expression}
use Rattle.type_layout.specs.Schemas.{given}
use Rattle.type_layout.specs.Types.{PlainType, Short, Long, LongLong, UShort, ULong, ULongLong, Char, Boolean, Octet, Str, Seq, Arr, Struct, Enum, RefTo}
use Rattle.psdl_directory.specs.declared.fault.CheckFault.{CheckFault}
use Rattle.psdl_directory.specs.declared.fault.CheckKind.TheVariants.{Unknown, WrongCase}
use Rattle.psdl_directory.specs.Declarations.{Path, What, IsModule, IsConstant, IsAlias, IsStruct, IsEnumeration, IsEnumerator, IsAbstractType, IsConcreteType, IsAbstractHome, IsConcreteHome, IsCatalog, Declaration}
use Rattle.psdl_directory.specs.Fault.{fault, fault_if, each, each_from}
use Rattle.psdl_directory.specs.Lookup.{as_is, lower, meaning, place_of}
use Rattle.psdl_standings.specs.Naming.{of_use, of_names}
use Rattle.psdl_standings.specs.Ranges.{of_values, of_values_in, of_constant_value}
use Rattle.psdl_standings.specs.Standings.{Standing, Range, sight, constant_type_by}
use Rattle.psdl_standings.specs.Uses.{Use, uses}
use Rattle.psdl_standings.specs.Values.{Assessed}
use Rattle.psdl_rules.specs.Faults.{wrong_names, wrong_values}
use Rattle.psdl_rules.specs.Faults.Unknown.{unknown}
use Rattle.psdl_rules.specs.Faults.WrongCase.{wrong_case}
use Rattle.psdl_rules.specs.Faults.WrongKind.{wrong_kind}
use Rattle.psdl_rules.specs.Faults.ConstRange.{out_of_range, too_long}
use Rattle.psdl_rules.specs.Faults.ConstZero.{by_zero}
use Rattle.psdl_rules.specs.Words.{of_constant_by, of_expressions}

-- element by element
all_alike : {X : Type 0} (f g : X → List CheckFault) → ((x : X) → f x ≡ g x) → (xs : List X) → flat_map f xs ≡ flat_map g xs
all_alike f g same [] = refl
all_alike f g same (x ∷ xs) = ap (λ (l : List CheckFault). l ++ flat_map f xs) (same x) ∙ ap (λ (l : List CheckFault). g x ++ l) (all_alike f g same xs)

each_alike : (f g : ℕ → Declaration → List CheckFault) → ((n : ℕ) (d : Declaration) → f n d ≡ g n d) → (n : ℕ) (ds : List Declaration) → each_from f n ds ≡ each_from g n ds
each_alike f g same n [] = refl
each_alike f g same n (d ∷ ds) = ap (λ (l : List CheckFault). l ++ each_from f (n + 1) ds) (same n d) ∙ ap (λ (l : List CheckFault). g n d ++ l) (each_alike f g same (n + 1) ds)

given_alike : {X : Type 0} (f g : X → List CheckFault) → ((x : X) → f x ≡ g x) → (o : Option X) → given o [] f ≡ given o [] g
given_alike f g same None = refl
given_alike f g same (Some x) = same x

-- ---- names

-- by what a name means, and what it means where case is ignored
by_meanings : (place : Place) (f : ℕ → List CheckFault) (exact alike : Option ℕ)
    → given exact (fault (given alike Unknown (λ _. WrongCase)) place ∷ []) f
    ≡ fault_if (is_none exact && is_none alike) Unknown place ++ fault_if (is_none exact && is_some alike) WrongCase place ++ given exact [] f
by_meanings place f None None = refl
by_meanings place f None (Some n) = refl
by_meanings place f (Some j) alike = refl

use_alike : (all : List Declaration) (done : List Standing) (path : Path) (u : Use) → of_use all done path u ≡ unknown all path u ++ wrong_case all path u ++ wrong_kind all done path u
use_alike all done path u = by_meanings (place_of u.name) _ (meaning as_is all u.limit path u.name) (meaning lower all u.limit path u.name)

pub names_alike_at : (all : List Declaration) (done : List Standing) (n : ℕ) (d : Declaration) → of_names all done n d ≡ wrong_names all done n d
names_alike_at all done n d = all_alike (of_use all done d.path) _ (use_alike all done d.path) (uses n d.what)

pub names_alike : (all : List Declaration) (done : List Standing) → each (of_names all done) all ≡ each (wrong_names all done) all
names_alike all done = each_alike (of_names all done) (wrong_names all done) (names_alike_at all done) 0 all

-- ---- values

abbrev ranged : Range → Expression → Assessed → List CheckFault
ranged r e a = out_of_range r e a ++ by_zero a

by_type : (names : Name → Standing) (type : PlainType) (e : Expression) → of_constant_value names type e ≡ of_constant_by ranged too_long names type e
by_type names Short e = refl
by_type names Long e = refl
by_type names LongLong e = refl
by_type names UShort e = refl
by_type names ULong e = refl
by_type names ULongLong e = refl
by_type names Char e = refl
by_type names Boolean e = refl
by_type names Octet e = refl
by_type names (Str bound) e = refl
by_type names (Seq item bound) e = refl
by_type names (Arr item count) e = refl
by_type names (Struct parts) e = refl
by_type names (Enum enumerators) e = refl
by_type names (RefTo homes) e = refl

by_what : (all : List Declaration) (done : List Standing) (n : ℕ) (path : Path) (what : What) → of_values_in all done n path what ≡ of_expressions ranged too_long all done n path what
by_what all done n path (IsConstant c) =
    given_alike _ _ (λ t. by_type (sight all done n path) t c.value) (constant_type_by (sight all done n path) c.constant_type)
by_what all done n path IsModule = refl
by_what all done n path (IsAlias before spec dimensions) = refl
by_what all done n path (IsStruct struct) = refl
by_what all done n path (IsEnumeration enumerators) = refl
by_what all done n path IsEnumerator = refl
by_what all done n path (IsAbstractType body) = refl
by_what all done n path (IsConcreteType body) = refl
by_what all done n path (IsAbstractHome body) = refl
by_what all done n path (IsConcreteHome home) = refl
by_what all done n path (IsCatalog provisions) = refl

pub values_alike_at : (all : List Declaration) (done : List Standing) (n : ℕ) (d : Declaration) → of_values all done n d ≡ wrong_values all done n d
values_alike_at all done n d = by_what all done n d.path d.what

pub values_alike : (all : List Declaration) (done : List Standing) → each (of_values all done) all ≡ each (wrong_values all done) all
values_alike all done = each_alike (of_values all done) (wrong_values all done) (values_alike_at all done) 0 all
