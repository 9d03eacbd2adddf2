-- What names itself in a struct.
use Rattle.std.proofs.Common.{◌≡◌, ℕ, ◌+◌, List, [], ◌∷◌, ◌++◌, map, Bool, false, ◌==◌, Option, Some, None, refl, sym, ap, ◌∙◌}
use Rattle.std.specs.List.{flat_map}
use Rattle.std.specs.Option.{option_to_list}
use Rattle.std.proofs.lemmas.Grind.{flat_map-append}
use Rattle.psdl_tree.specs.Trees.{Name, Expression, PlainType as PlainTree, IntegerPlain, CharPlain, BooleanPlain, OctetPlain, StringPlain, NamePlain, TypeSpec, PlainSpec, Sequence, Field}
use Rattle.type_layout.specs.Schemas.{given}
use Rattle.psdl_directory.specs.declared.fault.CheckFault.{CheckFault}
use Rattle.psdl_directory.specs.declared.fault.CheckKind.TheVariants.{Cycle}
use Rattle.psdl_directory.specs.Declarations.{What, IsModule, IsConstant, IsAlias, IsStruct, IsEnumeration, IsEnumerator, IsAbstractType, IsConcreteType, IsAbstractHome, IsConcreteHome, IsCatalog, Declaration, all_declarators}
use Rattle.psdl_directory.specs.Fault.{fault_if}
use Rattle.psdl_directory.specs.Lookup.{at, named, origin, place_of}
use Rattle.psdl_directory.specs.Parts.{all_fields}
use Rattle.psdl_standings.specs.declared.need.Need.{Need}
use Rattle.psdl_standings.specs.declared.need.Need.TheVariants as needs
use Rattle.psdl_standings.specs.Expressions.{operands, named_by}
use Rattle.psdl_standings.specs.Selves.{of_itself, in_struct}
use Rattle.psdl_standings.specs.Uses.{Use, use_of, uses, in_expression, in_expressions, in_plain, in_spec, in_declarator, in_field}
use Rattle.psdl_standings.specs.inner.Declared.{own_of}
use Rattle.psdl_standings.specs.inner.Sights.{is_own, of_own}
use Rattle.psdl_standings.proofs.Headed.{no_owns}

swapped : (own meant : Option ℕ) → is_own own meant ≡ given meant false (λ j. given own false (λ k. j == k))
swapped None None = refl
swapped None (Some j) = refl
swapped (Some k) None = refl
swapped (Some k) (Some j) = refl

module _ (all : List Declaration) (n : ℕ) where
  abbrev own_here : Use → List CheckFault
  own_here u = of_own all (origin all n) (at all n).path u

  abbrev itself_here : Use → List CheckFault
  itself_here u = of_itself all n u.name

  abbrev AreSelves : List Use → Type 0
  AreSelves us = flat_map own_here us ≡ flat_map itself_here us

  one_self : (need : Need) (name : Name) → own_here (use_of (n + 1) need name) ≡ of_itself all n name
  one_self need name = ap (λ (b : Bool). fault_if b Cycle (place_of name)) (swapped (origin all n) (named all n name))

  self_both : (us vs : List Use) → AreSelves us → AreSelves vs → AreSelves (us ++ vs)
  self_both us vs a b = flat_map-append own_here us vs ∙ rw (a, b) (sym (flat_map-append itself_here us vs))

  self_each : {X : Type 0} (f : X → List Use) → ((x : X) → AreSelves (f x)) → (xs : List X) → AreSelves (flat_map f xs)
  self_each f h [] = refl
  self_each f h (x ∷ xs) = self_both (f x) (flat_map f xs) (h x) (self_each f h xs)

  self_names : (names : List Name) → AreSelves (map (use_of (n + 1) needs.OfNumber) names)
  self_names [] = refl
  self_names (x ∷ xs) = rw (one_self needs.OfNumber x, self_names xs) refl

  self_expression : (e : Expression) → AreSelves (in_expression (n + 1) e)
  self_expression e = self_names (flat_map named_by (operands e))

  self_expressions : (es : List Expression) → AreSelves (in_expressions (n + 1) es)
  self_expressions es = self_each (in_expression (n + 1)) self_expression es

  self_plain : (p : PlainTree) → AreSelves (in_plain (n + 1) p)
  self_plain (NamePlain name) = ap (λ (l : List CheckFault). l ++ []) (one_self needs.OfType name)
  self_plain (StringPlain bound) = self_expressions (option_to_list bound)
  self_plain (IntegerPlain i) = refl
  self_plain CharPlain = refl
  self_plain BooleanPlain = refl
  self_plain OctetPlain = refl

  self_spec : (spec : TypeSpec) → AreSelves (in_spec (n + 1) spec)
  self_spec (PlainSpec p) = self_plain p
  self_spec (Sequence item bound) = self_both (in_spec (n + 1) item) (in_expressions (n + 1) (option_to_list bound)) (self_spec item) (self_expressions (option_to_list bound))

  self_field : (field : Field) → AreSelves (in_field (n + 1) field)
  self_field field =
      self_both (in_spec (n + 1) field.spec) (flat_map (in_declarator (n + 1)) (all_declarators field.declarators)) (self_spec field.spec)
      (self_each (in_declarator (n + 1)) (λ d. self_expressions d.dimensions) (all_declarators field.declarators))

  by_names : (us : List Use) → flat_map itself_here us ≡ flat_map (of_itself all n) (map (λ u. u.name) us)
  by_names [] = refl
  by_names (u ∷ us) = ap (λ (l : List CheckFault). itself_here u ++ l) (by_names us)

  -- what is noted of a declaration is what of it names itself
  pub selves_linked : (what : What) → flat_map (of_own all (own_of all n what) (at all n).path) (uses n what) ≡ flat_map (of_itself all n) (in_struct n what)
  selves_linked (IsStruct s) = self_each (in_field (n + 1)) self_field (all_fields s) ∙ by_names (uses n (IsStruct s))
  selves_linked IsModule = no_owns all (at all n).path (uses n IsModule)
  selves_linked (IsConstant c) = no_owns all (at all n).path (uses n (IsConstant c))
  selves_linked (IsAlias before spec dimensions) = no_owns all (at all n).path (uses n (IsAlias before spec dimensions))
  selves_linked (IsEnumeration e) = no_owns all (at all n).path (uses n (IsEnumeration e))
  selves_linked IsEnumerator = no_owns all (at all n).path (uses n IsEnumerator)
  selves_linked (IsAbstractType body) = no_owns all (at all n).path (uses n (IsAbstractType body))
  selves_linked (IsConcreteType body) = no_owns all (at all n).path (uses n (IsConcreteType body))
  selves_linked (IsAbstractHome body) = no_owns all (at all n).path (uses n (IsAbstractHome body))
  selves_linked (IsConcreteHome home) = no_owns all (at all n).path (uses n (IsConcreteHome home))
  selves_linked (IsCatalog provisions) = no_owns all (at all n).path (uses n (IsCatalog provisions))
