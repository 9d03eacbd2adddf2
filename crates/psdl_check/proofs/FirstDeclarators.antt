-- The first declarator of a typedef.
use Rattle.std.proofs.Common.{◌≡◌, ℕ, zero, suc, ◌+◌, ◌<◌, List, length, Some, refl, sym, ap, ◌∙◌, arith}
use Rattle.psdl_tree.specs.Trees.{Expression, TypeSpec}
use Rattle.psdl_directory.specs.Declarations.{What, IsModule, IsConstant, IsAlias, IsStruct, IsEnumeration, IsEnumerator, IsAbstractType, IsConcreteType, IsAbstractHome, IsConcreteHome, IsCatalog, Declaration}
use Rattle.psdl_directory.specs.Lookup.{at}
use Rattle.psdl_standings.specs.Turns.{before_of, spec_of, Follows, AreInTurn}

-- the first declarator of a typedef has its type
pub record IsFirst (all : List Declaration) (n b m : ℕ) (spec : TypeSpec) : Type 0 where
  pub place : m + b ≡ n
  pub is_first : before_of (at all m).what ≡ 0
  pub one_spec : spec_of (at all m).what ≡ Some spec
  pub one_path : (at all m).path ≡ (at all n).path

-- each declarator has a first one
pub first_declarator : (all : List Declaration) → AreInTurn all → (b n : ℕ) (spec : TypeSpec) → n < length all → before_of (at all n).what ≡ b → spec_of (at all n).what ≡ Some spec → (m : ℕ) × IsFirst all n b m spec
first_declarator all turn zero n spec lt before is = (n, record { place = omega arith; is_first = before; one_spec = is; one_path = refl })
first_declarator all turn (suc b) zero spec lt before is = absurd (omega (arith, before, turn.first))
first_declarator all turn (suc b) (suc n) spec lt before is =
    let next : n + 1 ≡ suc n = omega arith in
    let follows : Follows (at all n) (at all (n + 1)) b = turn.others n b (omega (arith, lt)) (ap (λ (k : ℕ). before_of (at all k).what) next ∙ before) in
    let r = first_declarator all turn b n spec (omega (arith, lt)) follows.before (sym follows.spec ∙ ap (λ (k : ℕ). spec_of (at all k).what) next ∙ is) in
    (r.0, record { place = omega (arith, r.1.place); is_first = r.1.is_first; one_spec = r.1.one_spec; one_path = r.1.one_path ∙ sym follows.path ∙ ap (λ (k : ℕ). (at all k).path) next })

-- what has none in front is a first declarator
pub alias_is : (what : What) (spec : TypeSpec) → before_of what ≡ 0 → spec_of what ≡ Some spec → (dimensions : List Expression) × (what ≡ IsAlias zero spec dimensions)
alias_is (IsAlias before s dimensions) spec b e =
    let same : s ≡ spec = cc in
    (dimensions, ap (λ (k : ℕ). IsAlias k s dimensions) b ∙ ap (λ (x : TypeSpec). IsAlias zero x dimensions) same)
alias_is IsModule spec b e = absurd (cc)
alias_is (IsConstant constant) spec b e = absurd (cc)
alias_is (IsStruct struct) spec b e = absurd (cc)
alias_is (IsEnumeration enumerators) spec b e = absurd (cc)
alias_is IsEnumerator spec b e = absurd (cc)
alias_is (IsAbstractType body) spec b e = absurd (cc)
alias_is (IsConcreteType body) spec b e = absurd (cc)
alias_is (IsAbstractHome body) spec b e = absurd (cc)
alias_is (IsConcreteHome home) spec b e = absurd (cc)
alias_is (IsCatalog provisions) spec b e = absurd (cc)
