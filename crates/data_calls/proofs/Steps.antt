-- What step is taken of what is asked: on a copy, or on what the owner sees.
use Rattle.std.proofs.Common.{◌≡◌, ℕ, Bool, true, false, List, Option, Some, None, refl, sym, ap, ◌∙◌, subst, inl, inr}
use Rattle.std.specs.Prelude.{◌⊎◌, if◌then◌else◌}
use Rattle.pss_base.specs.declared.pid.Pid.{Pid}
use Rattle.type_layout.specs.declared.schema.Schema.{Schema}
use Rattle.type_layout.specs.Types.{PlainValue}
use Rattle.type_layout.specs.Schemas.{given}
use Rattle.pss_catalog.specs.Catalog.{Catalog}
use Rattle.pss_machine.specs.declared.operation.Op.{Op}
use Rattle.pss_machine.specs.declared.operation.Op.TheVariants as operation
use Rattle.pss_machine.specs.Operations.{FindKey, FindPid, FindShort, Exists, Get, Follow, Count, ListOf, PlainOp, Create, Set, Destroy, Ask, PlainAnswer, plain_op}
use Rattle.pss_machine.specs.Owners.{Owner, view, is_basic, step_on_view}
use Rattle.pss_machine.specs.Copies.{Copies}
use Rattle.pss_machine.specs.Asking.{Asked}
use Rattle.pss_machine.specs.Stepping.{copied_values, told_by_copy, step_on_copy, copied_answer, step_of}
use Rattle.pss_machine.proofs.Logic.{none_some}

-- the question is of a member
abbrev pub OfMember : PlainOp → Type 0
OfMember (Ask (Get p member)) = Unit {0}
OfMember (Ask (Follow p member)) = Unit {0}
OfMember _ = ⊥

-- what a copy answers is of a member, and it is the one of the named entry
pub record IsOnCopy (M : Catalog) (owner : Owner) (copies : Copies) (asked : Asked) (answer : PlainAnswer) : Type 0 where
  pub basic : is_basic owner.level ≡ true
  pub values : List PlainValue
  pub copied : copied_values copies asked.entry ≡ Some values
  pub told : told_by_copy (view M owner) values asked.op ≡ Some answer
  pub of : OfMember asked.op

told_of : (M : Catalog) (values : List PlainValue) (op : PlainOp) (answer : PlainAnswer) → told_by_copy M values op ≡ Some answer → OfMember op
told_of M values (Create serial object) answer e = none_some e
told_of M values (Set p member value) answer e = none_some e
told_of M values (Destroy p) answer e = none_some e
told_of M values (Ask (FindKey h k bytes)) answer e = none_some e
told_of M values (Ask (FindPid p)) answer e = none_some e
told_of M values (Ask (FindShort h serial)) answer e = none_some e
told_of M values (Ask (Exists p)) answer e = none_some e
told_of M values (Ask (Get p member)) answer e = tt
told_of M values (Ask (Follow p member)) answer e = tt
told_of M values (Ask (Count h)) answer e = none_some e
told_of M values (Ask (ListOf h)) answer e = none_some e

module _ (S : Schema) (M : Catalog) (owner : Owner) (copies : Copies) (asked : Asked) where
  pub on_view : copied_answer M owner copies asked ≡ None → step_of S M owner copies asked ≡ step_on_view S M owner asked.op
  on_view is = ap (λ o. given o (step_on_view S M owner asked.op) (step_on_copy asked.op)) is

  pub on_copy : (answer : PlainAnswer) → copied_answer M owner copies asked ≡ Some answer → step_of S M owner copies asked ≡ step_on_copy asked.op answer
  on_copy answer is = ap (λ o. given o (step_on_view S M owner asked.op) (step_on_copy asked.op)) is

  pub copied_there : (answer : PlainAnswer) → copied_answer M owner copies asked ≡ Some answer → IsOnCopy M owner copies asked answer
  copied_there answer = by_level (is_basic owner.level) refl
    where
      by_values : is_basic owner.level ≡ true → (o : Option (List PlainValue)) → copied_values copies asked.entry ≡ o → given o None (λ values. told_by_copy (view M owner) values asked.op) ≡ Some answer → IsOnCopy M owner copies asked answer
      by_values basic None is e = absurd (none_some e)
      by_values basic (Some values) is e = record { basic = basic; values = values; copied = is; told = e; of = told_of (view M owner) values asked.op answer e }

      by_level : (b : Bool) → is_basic owner.level ≡ b → (if b then given (copied_values copies asked.entry) None (λ values. told_by_copy (view M owner) values asked.op) else None) ≡ Some answer → IsOnCopy M owner copies asked answer
      by_level true is e = by_values is (copied_values copies asked.entry) refl e
      by_level false is e = absurd (none_some e)

  -- each step is one of these
  pub either : (step_of S M owner copies asked ≡ step_on_view S M owner asked.op)
      ⊎ ((answer : PlainAnswer) × (step_of S M owner copies asked ≡ step_on_copy asked.op answer) × IsOnCopy M owner copies asked answer)
  either = by (copied_answer M owner copies asked) refl
    where
      by : (o : Option PlainAnswer) → copied_answer M owner copies asked ≡ o
          → (step_of S M owner copies asked ≡ step_on_view S M owner asked.op) ⊎ ((answer : PlainAnswer) × (step_of S M owner copies asked ≡ step_on_copy asked.op answer) × IsOnCopy M owner copies asked answer)
      by None is = inl (on_view is)
      by (Some answer) is = inr (answer, on_copy answer is, copied_there answer is)

-- the words of the code ask nothing of a member
of_no_member : (o : Op) → ((p : Pid) (member : ℕ) → o ≡ operation.Get p member → ⊥) → ((p : Pid) (member : ℕ) → o ≡ operation.Follow p member → ⊥) → OfMember (plain_op o) → ⊥
of_no_member (operation.Create serial home values) gets follows of = of
of_no_member (operation.FindKey home key bytes) gets follows of = of
of_no_member (operation.FindPid p) gets follows of = of
of_no_member (operation.FindShort home serial) gets follows of = of
of_no_member (operation.Exists p) gets follows of = of
of_no_member (operation.Get p member) gets follows of = gets p member refl
of_no_member (operation.Set p member value) gets follows of = of
of_no_member (operation.Destroy p) gets follows of = of
of_no_member (operation.Follow p member) gets follows of = follows p member refl
of_no_member (operation.Count home) gets follows of = of
of_no_member (operation.List home) gets follows of = of

-- then no copy tells
pub untold : (S : Schema) (M : Catalog) (owner : Owner) (copies : Copies) (asked : Asked) (o : Op) → asked.op ≡ plain_op o → ((p : Pid) (member : ℕ) → o ≡ operation.Get p member → ⊥) → ((p : Pid) (member : ℕ) → o ≡ operation.Follow p member → ⊥) → None ≡ copied_answer M owner copies asked
untold S M owner copies asked o is gets follows = by (copied_answer M owner copies asked) refl
  where
    by : (told : Option PlainAnswer) → copied_answer M owner copies asked ≡ told → None ≡ told
    by None at = refl
    by (Some answer) at = absurd (of_no_member o gets follows (subst OfMember is (copied_there S M owner copies asked answer at).of))

-- the answer of a copy, by its values
pub copied_as : (M : Catalog) (owner : Owner) (copies : Copies) (asked : Asked) (b : Bool) → is_basic owner.level ≡ b → (o : Option (List PlainValue)) → o ≡ (if b then copied_values copies asked.entry else None)
    → given o None (λ values. told_by_copy (view M owner) values asked.op) ≡ copied_answer M owner copies asked
copied_as M owner copies asked true basic o is =
    ap (λ q. given q None (λ values. told_by_copy (view M owner) values asked.op)) is
    ∙ sym (ap (λ (b : Bool). if b then given (copied_values copies asked.entry) None (λ values. told_by_copy (view M owner) values asked.op) else None) basic)
copied_as M owner copies asked false basic o is =
    ap (λ q. given q None (λ values. told_by_copy (view M owner) values asked.op)) is
    ∙ sym (ap (λ (b : Bool). if b then given (copied_values copies asked.entry) None (λ values. told_by_copy (view M owner) values asked.op) else None) basic)
