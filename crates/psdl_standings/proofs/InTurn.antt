-- The declarators of a text's typedefs stand one behind the other.
use Rattle.std.proofs.Common.{◌≡◌, ℕ, zero, suc, ◌+◌, ◌-◌, ◌<◌, ◌≤◌, List, [], ◌∷◌, ◌++◌, length, map, Some, refl, sym, arith}
use Rattle.psdl_tree.specs.declared.names.Identifier.{Identifier}
use Rattle.psdl_tree.specs.Trees.{TypeSpec, Declarator, Definition, ModuleDefinition, ConstantDefinition, TypeDefinitionDefinition, StructDefinition, EnumerationDefinition, AbstractTypeDefinition, StorageTypeDefinition, AbstractHomeDefinition, StorageHomeDefinition, CatalogDefinition, Definitions, NoDefinition, AndDefinition}
use Rattle.psdl_directory.specs.Declarations.{Path, What, IsModule, IsConstant, IsAlias, IsStruct, IsEnumeration, IsEnumerator, IsAbstractType, IsConcreteType, IsAbstractHome, IsConcreteHome, IsCatalog, Declaration, declared, all_identifiers, aliases, declared_by, declarations, all_declarations}
use Rattle.psdl_directory.specs.Lookup.{at}
use Rattle.psdl_standings.specs.Turns.{before_of, spec_of, Follows, AreInTurn, alias_type}
use Rattle.psdl_standings.specs.Standings.{Standing}

abbrev Turn : Declaration → Declaration → Type 0
Turn d e = (b : ℕ) → before_of e.what ≡ suc b → Follows d e b

-- behind this one
abbrev Chain : Declaration → List Declaration → Type 0
Chain d [] = Unit {0}
Chain d (e ∷ es) = Turn d e × Chain e es

-- the first has none in front
abbrev Begins : List Declaration → Type 0
Begins [] = Unit {0}
Begins (d ∷ ds) = (before_of d.what ≡ 0) × Chain d ds

none_in_front : (d e : Declaration) → before_of e.what ≡ 0 → Turn d e
none_in_front d e none b some = absurd (omega (arith, none, some))

chain_append : (d : Declaration) (xs ys : List Declaration) → Chain d xs → Begins ys → Chain d (xs ++ ys)
chain_append d [] [] c b = tt
chain_append d [] (y ∷ ys) c b = (none_in_front d y b.0, b.1)
chain_append d (x ∷ xs) ys c b = (c.0, chain_append x xs ys c.1 b)

begins_append : (xs ys : List Declaration) → Begins xs → Begins ys → Begins (xs ++ ys)
begins_append [] ys a b = b
begins_append (x ∷ xs) ys a b = (a.0, chain_append x xs ys a.1 b)

chain_aliases : (path : Path) (spec : TypeSpec) (k : ℕ) (d : Declaration) → before_of d.what ≡ k → spec_of d.what ≡ Some spec → d.path ≡ path → (ds : List Declarator) → Chain d (aliases path spec (k + 1) ds)
chain_aliases path spec k d before same there [] = tt
chain_aliases path spec k d before same there (x ∷ xs) =
    (λ b e. record { before = omega (arith, before, e); spec = sym same; path = sym there }, chain_aliases path spec (k + 1) (declared path (IsAlias (k + 1) spec x.dimensions) x.name) refl refl refl xs)

chain_enumerators : (path : Path) (d : Declaration) (names : List Identifier) → Chain d (map (declared path IsEnumerator) names)
chain_enumerators path d [] = tt
chain_enumerators path d (i ∷ is) = (none_in_front d (declared path IsEnumerator i) refl, chain_enumerators path (declared path IsEnumerator i) is)

mutual
  begins_by : (path : Path) (d : Definition) → Begins (declared_by path d)
  begins_by path (ModuleDefinition name inner) = (refl, chain_append (declared path IsModule name) [] (declarations (name.name ∷ path) inner) tt (begins_all (name.name ∷ path) inner))
  begins_by path (ConstantDefinition constant) = (refl, tt)
  begins_by path (TypeDefinitionDefinition definition) =
      (refl, chain_aliases path definition.spec 0 (declared path (IsAlias 0 definition.spec definition.declarators.first.dimensions) definition.declarators.first.name) refl refl refl definition.declarators.others)
  begins_by path (StructDefinition struct) = (refl, tt)
  begins_by path (EnumerationDefinition enumeration) = (refl, chain_enumerators path _ (all_identifiers enumeration.enumerators))
  begins_by path (AbstractTypeDefinition type) = (refl, tt)
  begins_by path (StorageTypeDefinition type) = (refl, tt)
  begins_by path (AbstractHomeDefinition home) = (refl, tt)
  begins_by path (StorageHomeDefinition home) = (refl, tt)
  begins_by path (CatalogDefinition catalog) = (refl, tt)

  begins_all : (path : Path) (ds : Definitions) → Begins (declarations path ds)
  begins_all path NoDefinition = tt
  begins_all path (AndDefinition d ds) = begins_append (declared_by path d) (declarations path ds) (begins_by path d) (begins_all path ds)

chain_at : (d : Declaration) (ds : List Declaration) → Chain d ds → (n b : ℕ) → n + 1 < length (d ∷ ds) → before_of (at (d ∷ ds) (n + 1)).what ≡ suc b → Follows (at (d ∷ ds) n) (at (d ∷ ds) (n + 1)) b
chain_at d [] c n b lt e = absurd (omega (arith, lt))
chain_at d (x ∷ xs) c zero b lt e = c.0 b e
chain_at d (x ∷ xs) c (suc n) b lt e =
    let next : suc n + 1 ≡ suc (n + 1) = omega arith in
    rw next (chain_at x xs c.1 n b (omega (arith, lt)) (rw next at e))

in_turn : (all : List Declaration) → Begins all → AreInTurn all
in_turn [] begins = record { first = refl; others = λ n b lt e. absurd (omega (arith, lt)) }
in_turn (d ∷ ds) begins = record { first = begins.0; others = λ n b lt e. chain_at d ds begins.1 n b lt e }

pub are_in_turn : (tree : Definitions) → AreInTurn (all_declarations tree)
are_in_turn tree = in_turn (all_declarations tree) (begins_all [] tree)

-- ---- what stands behind another

pub behind : (all : List Declaration) (n before : ℕ) → AreInTurn all → n < length all → before_of (at all n).what ≡ suc before → (1 ≤ n) × Follows (at all (n - 1)) (at all n) before
behind all zero before turn lt e = let none : before_of (at all 0).what ≡ 0 = turn.first in absurd (omega (arith, none, e))
behind all (suc n) before turn lt e =
    let next : suc n ≡ n + 1 = omega arith in
    let last : suc n - 1 ≡ n = omega arith in
    (omega arith, rw (last, next) (turn.others n before (omega (arith, lt)) (rw next at e)))

-- by the type of what stands in front
typed_behind : (all : List Declaration) (done : List Standing) (n m before : ℕ) (p q : Path) (what front : What) → n ≡ m + 1 → before_of what ≡ suc before → before_of front ≡ before → spec_of what ≡ spec_of front → p ≡ q
    → alias_type all done n p what ≡ alias_type all done m q front
typed_behind all done n m before p q (IsAlias k spec dimensions) (IsAlias j other others) next a b same path =
    let limit : n - k ≡ m - j = omega (arith, next, a, b) in
    let is : spec ≡ other = cc in
    rw (limit, path, is) refl
typed_behind all done n m before p q (IsAlias k spec dimensions) IsModule next a b same path = cc
typed_behind all done n m before p q (IsAlias k spec dimensions) (IsConstant c) next a b same path = cc
typed_behind all done n m before p q (IsAlias k spec dimensions) (IsStruct s) next a b same path = cc
typed_behind all done n m before p q (IsAlias k spec dimensions) (IsEnumeration e) next a b same path = cc
typed_behind all done n m before p q (IsAlias k spec dimensions) IsEnumerator next a b same path = cc
typed_behind all done n m before p q (IsAlias k spec dimensions) (IsAbstractType body) next a b same path = cc
typed_behind all done n m before p q (IsAlias k spec dimensions) (IsConcreteType body) next a b same path = cc
typed_behind all done n m before p q (IsAlias k spec dimensions) (IsAbstractHome body) next a b same path = cc
typed_behind all done n m before p q (IsAlias k spec dimensions) (IsConcreteHome home) next a b same path = cc
typed_behind all done n m before p q (IsAlias k spec dimensions) (IsCatalog provisions) next a b same path = cc
typed_behind all done n m before p q IsModule front next a b same path = absurd (omega (arith, a))
typed_behind all done n m before p q (IsConstant c) front next a b same path = absurd (omega (arith, a))
typed_behind all done n m before p q (IsStruct s) front next a b same path = absurd (omega (arith, a))
typed_behind all done n m before p q (IsEnumeration e) front next a b same path = absurd (omega (arith, a))
typed_behind all done n m before p q IsEnumerator front next a b same path = absurd (omega (arith, a))
typed_behind all done n m before p q (IsAbstractType body) front next a b same path = absurd (omega (arith, a))
typed_behind all done n m before p q (IsConcreteType body) front next a b same path = absurd (omega (arith, a))
typed_behind all done n m before p q (IsAbstractHome body) front next a b same path = absurd (omega (arith, a))
typed_behind all done n m before p q (IsConcreteHome home) front next a b same path = absurd (omega (arith, a))
typed_behind all done n m before p q (IsCatalog provisions) front next a b same path = absurd (omega (arith, a))

pub type_behind : (all : List Declaration) (done : List Standing) (n before : ℕ) → AreInTurn all → n < length all → before_of (at all n).what ≡ suc before
    → alias_type all done n (at all n).path (at all n).what ≡ alias_type all done (n - 1) (at all (n - 1)).path (at all (n - 1)).what
type_behind all done n before turn lt e =
    let found = behind all n before turn lt e in
    let front = found.0 in
    let f = found.1 in
    typed_behind all done n (n - 1) before (at all n).path (at all (n - 1)).path (at all n).what (at all (n - 1)).what (omega (arith, front)) e f.before f.spec f.path
