-- What an owner is told that others hold up, or do not.
use Rattle.std.proofs.Common.{◌≡◌, Some, None, sym, ap, subst, ◌∙◌, IsSome}
use Rattle.std.specs.Prelude.{◌↔◌}
use Rattle.std.specs.FinMap.{get}
use Rattle.pss_base.specs.declared.owner.OwnerNo.{OwnerNo}
use Rattle.type_layout.specs.declared.schema.Schema.{Schema}
use Rattle.pss_machine.specs.declared.answer.Answer.{Answer}
use Rattle.pss_machine.specs.declared.answer.Answer.TheVariants as answer
use Rattle.pss_machine.specs.Maps.{with_at}
use Rattle.pss_machine.specs.Operations.{PlainOp, plain_answer}
use Rattle.pss_machine.specs.Owners.{Owner, view, blocker, stepped}
use Rattle.storage_home.specs.declared.parts.Parts.{Parts as Homes}
use Rattle.lock_table.specs.Locks as table
use Rattle.lock_table.specs.Agreement.{HaveLocks}
use Rattle.tx_session.specs.declared.parts.Parts.{Parts}
use Rattle.owner_view.specs.declared.step.Step.{Step}
use Rattle.owner_view.specs.Steps.{IsStep}
use Rattle.tx_session.specs.Owners.{owners_in, Under, AreOwners, MayAct, step_of}
use Rattle.tx_session.specs.Acting.{with_step, MayTake}
use Rattle.tx_session.proofs.Actors.{may_take, its_blocker, its_step, never_busy}

same_busy : (a b : OwnerNo) → answer.Busy a ≡ answer.Busy b → a ≡ b
same_busy a b e = cc

same_one : {A : Type 0} (x y : A) → Some x ≡ Some y → x ≡ y
same_one x y e = cc

-- what the owners of the value may do those of its parts may
abbrev pub acting : {S : Schema} {homes : Homes} {value parts : Parts} {n : OwnerNo} {op : PlainOp} → parts ≡ value → MayAct S homes (owners_in value) n op → MayAct S homes (owners_in parts) n op
acting {n = n} is m = record {
  sees = record {
    catalog = m.sees.catalog;
    owner = m.sees.owner;
    kept = m.sees.kept;
    there = ap (λ (p : Parts). get (owners_in p) n.0) is ∙ m.sees.there;
    fits = m.sees.fits;
  };
  fits_op = m.fits_op;
  unique = m.unique;
  few = m.few;
}

module _ (S : Schema) (homes : Homes) (value parts : Parts) (n : OwnerNo) (op : PlainOp) (is : parts ≡ value) (step : Step) (m : MayAct S homes (owners_in value) n op)
    (steps : IsStep S m.sees.owner.level (view m.sees.catalog m.sees.owner) op step) where
  abbrev within : MayAct S homes (owners_in parts) n op
  within = acting is m

  pub may_be_taken : Under S value → AreOwners parts → MayTake S parts n step
  may_be_taken under owners = may_take S homes parts n op within step steps (subst (Under S) (sym is) under) owners

  module _ (have : HaveLocks (owners_in parts) parts.locks) where
    pub blocker_is : blocker (owners_in value) n (step_of m).needs ≡ table.blocker parts.locks n step.needs
    blocker_is = ap (λ (p : Parts). blocker (owners_in p) n (step_of m).needs) (sym is) ∙ its_blocker S homes parts n op within step steps have

    -- ---- one holds it up

    module _ (other : OwnerNo) (blocked : Some other ≡ table.blocker parts.locks n step.needs) where
      pub told_busy : (b : OwnerNo) → (answer.Busy other ≡ answer.Busy b) ↔ (blocker (owners_in value) n (step_of m).needs ≡ Some b)
      told_busy b = (λ e. blocker_is ∙ sym blocked ∙ ap Some (same_busy other b e), λ e. ap answer.Busy (same_one other b (blocked ∙ sym blocker_is ∙ e)))

      pub not_free : blocker (owners_in value) n (step_of m).needs ≡ None → {A : Type 0} → A
      not_free none = (let no : Some other ≡ None = blocked ∙ sym blocker_is ∙ none in cc)

    -- ---- nobody does

    module _ (free : None ≡ table.blocker parts.locks n step.needs) where
      pub not_busy : (told : Answer) → told ≡ step.answer → (b : OwnerNo) → (told ≡ answer.Busy b) ↔ (blocker (owners_in value) n (step_of m).needs ≡ Some b)
      not_busy told same b = (
        (λ e. absurd (never_busy S homes parts n op within step steps b (sym same ∙ e))),
        (λ e. (let no : None ≡ Some b = free ∙ sym blocker_is ∙ e in cc)),
      )

      pub not_held_up : IsSome (blocker (owners_in value) n (step_of m).needs) → {A : Type 0} → A
      not_held_up some = (let no = subst IsSome (blocker_is ∙ sym free) some in cc)

      pub told_answer : (told : Answer) → told ≡ step.answer → plain_answer told ≡ (step_of m).answer
      told_answer told same = ap plain_answer same ∙ steps.answer

    pub stepped_on : (new : Parts) → owners_in new ≡ with_at (owners_in parts) n.0 (with_step step) → owners_in new ≡ with_at (owners_in value) n.0 (stepped (step_of m))
    stepped_on new on =
        on ∙ ap (λ (f : Owner → Owner). with_at (owners_in parts) n.0 f) (its_step S homes parts n op within step steps) ∙ ap (λ (p : Parts). with_at (owners_in p) n.0 (stepped (step_of m))) is
