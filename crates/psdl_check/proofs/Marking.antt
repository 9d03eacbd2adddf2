-- Marks of what members refer to.
use Rattle.std.proofs.Common.{◌≡◌, ℕ, zero, suc, ◌<◌, List, [], ◌∷◌, ◌++◌, ◌==◌, Bool, true, false, length, get_or, if◌then◌else◌, refl, sym, ap, ◌∙◌, subst, Option, IsTrue, arith, get_or-set_same, get_or-set_other}
use Rattle.std.proofs.Math.ListN.{set}
use Rattle.std.proofs.lemmas.Bool.{eqb-true, eq-eqb}
use Rattle.std.specs.List.{list_all, slice_get}
use Rattle.std.specs.Option.{IfSome}
use Rattle.std.proofs.lemmas.List.Folds.{list_all-append}
use Rattle.psdl_check.specs.declared.members.TypedMember.{TypedMember}
use Rattle.psdl_check.specs.inner.TypedMembers.{IsTyped, AreTyped, is_there, AreThere}
use Rattle.psdl_check.specs.declared.members.MemberType.{MemberType}
use Rattle.psdl_check.specs.declared.members.MemberType.TheVariants as kinds
use Rattle.std.proofs.lemmas.Bool.{and_parts, and_from}

set_marked : (ms : List Bool) (i n : ℕ) → i < length ms → (b : Bool) → (i == n) ≡ b → get_or (set ms i true) n false ≡ if b then true else get_or ms n false
set_marked ms i n lt true h = ap (λ (m : ℕ). get_or (set ms i true) m false) (sym (eqb-true i n h)) ∙ get_or-set_same ms i true false lt
set_marked ms i n lt false h = get_or-set_other ms i n true false (λ e. cc (eq-eqb i n (sym e)))

pub one_marked : (ms : List Bool) (i n : ℕ) → i < length ms → get_or (set ms i true) n false ≡ if i == n then true else get_or ms n false
one_marked ms i n lt = set_marked ms i n lt (i == n) refl

-- ---- members with types

pub typed_at : (types : ℕ) (ms : List TypedMember) (i : ℕ) (m : TypedMember) → AreTyped types ms → i < length ms → m ≡ get_or ms i m → IsTyped types m.member_type
typed_at types [] i m are lt is = absurd (omega (arith, lt))
typed_at types (x ∷ ms) zero m are lt is = rw is are.0
typed_at types (x ∷ ms) (suc i) m are lt is = typed_at types ms i m are.1 (omega (arith, lt)) is

there_typed : (types count : ℕ) (t : MemberType) → is_there types count t ≡ true → IsTyped types t
there_typed types count (kinds.Plain number) h = h
there_typed types count (kinds.Reference definition) h = tt

pub are_typed : (types count : ℕ) (ms : List TypedMember) → AreThere types count ms → AreTyped types ms
are_typed types count [] h = tt
are_typed types count (m ∷ ms) h =
    let both = and_parts (is_there types count m.member_type) _ h in
    (there_typed types count m.member_type both.0, are_typed types count ms both.1)

-- one member with a type more
pub there_more : (types count : ℕ) (old new : List TypedMember) (m : TypedMember) → new ≡ old ++ m ∷ [] → AreThere types count old → is_there types count m.member_type ≡ true → AreThere types count new
there_more types count old new m push so_far here =
    let test : TypedMember → Bool = λ x. is_there types count x.member_type in
    ap (list_all test) push ∙ list_all-append test old (m ∷ []) ∙ and_from (list_all test old) (list_all test (m ∷ [])) so_far (and_from (test m) true here refl)

-- what stands in a list that passes whole passes
pub below_at : {A : Type 0} (test : A → Bool) (xs : List A) (i : ℕ) (o : Option A) → IsTrue (list_all test xs) → o ≡ slice_get xs i → IfSome o (λ x. IsTrue (test x))
below_at {A} test xs i o all is = subst (λ p. IfSome p (λ x. IsTrue (test x))) (sym is) (by test xs i all)
  where
    by : (p : A → Bool) (ys : List A) (j : ℕ) → IsTrue (list_all p ys) → IfSome (slice_get ys j) (λ x. IsTrue (p x))
    by p [] j h = tt
    by p (y ∷ ys) zero h = (and_parts (p y) (list_all p ys) h).0
    by p (y ∷ ys) (suc j) h = by p ys j (and_parts (p y) (list_all p ys) h).1
