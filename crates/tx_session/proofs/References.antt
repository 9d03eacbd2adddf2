-- A member that is followed where it is known to what it refers.
use Rattle.std.proofs.Common.{◌≡◌, ℕ, List, [], ◌∷◌, Option, Some, None, Bool, refl, sym, ap, ◌∙◌, subst}
use Rattle.std.specs.Prelude.{IfSome, if◌then◌else◌}
use Rattle.std.specs.FinMap.{get}
use Rattle.pss_base.specs.declared.owner.OwnerNo.{OwnerNo}
use Rattle.pss_base.specs.declared.pid.Pid.{Pid}
use Rattle.type_layout.specs.declared.schema.Schema.{Schema}
use Rattle.type_layout.specs.Types.{Ref}
use Rattle.type_layout.specs.Schemas.{given}
use Rattle.pss_catalog.specs.Catalog.{Catalog, references, has}
use Rattle.pss_machine.specs.declared.answer.Answer.{Answer}
use Rattle.pss_machine.specs.declared.answer.Answer.TheVariants as answer
use Rattle.pss_machine.specs.declared.level.Level.{Level}
use Rattle.pss_machine.specs.declared.lock.Mode.TheVariants.{S as Read}
use Rattle.pss_machine.specs.Alone.{followed}
use Rattle.pss_machine.specs.Needs.{object_need, targets}
use Rattle.pss_machine.specs.Operations.{Follow, Ask, Exists, IsThere, Found, Gone, Nil, plain_answer}
use Rattle.pss_machine.specs.Owners.{Owner, Owners, view}
use Rattle.storage_home.specs.declared.parts.Parts.{Parts as Homes}
use Rattle.lock_table.specs.Locks.{Held}
use Rattle.owner_view.specs.declared.owned.Owned.{Owned}
use Rattle.owner_view.specs.declared.step.Step.{Step}
use Rattle.owner_view.specs.Steps.{IsStep, MayBePut, changes_put, with_reads}
use Rattle.owner_view.proofs.Following.{follow_is}
use Rattle.tx_session.specs.declared.parts.Parts.{Parts}
use Rattle.tx_session.specs.Kept.{owned_at}
use Rattle.tx_session.specs.Owners.{owners_of, owners_in, MayAct}
use Rattle.tx_session.specs.Following.{MayFollow}
use Rattle.tx_session.proofs.Blocking.{acting}
use Rattle.tx_session.proofs.Turns.{is_owner, no_owner}

-- who may follow in the owners of the value may do so in those of its parts
abbrev pub following : {S : Schema} {homes : Homes} {value parts : Parts} {n : OwnerNo} {p : Pid} {to : Option Pid} → parts ≡ value → MayFollow S homes (owners_in value) n p to → MayFollow S homes (owners_in parts) n p to
following is m = record { member = m.member; act = acting is m.act; refers = m.refers }

module _ {S : Schema} {homes : Homes} {owners : Owners} {n : OwnerNo} {p : Pid} {to : Option Pid} (m : MayFollow S homes owners n p to) where
  abbrev V : Catalog
  V = view m.act.sees.catalog m.act.sees.owner

  -- and may ask whether an object is there
  abbrev pub may_ask : (q : Pid) → MayAct S homes owners n (Ask (Exists q))
  may_ask q = record { sees = m.act.sees; fits_op = tt; unique = m.act.unique; few = m.act.few }

  pub may_ask_led : (o : Option Pid) → IfSome o (λ q. MayAct S homes owners n (Ask (Exists q)))
  may_ask_led None = tt
  may_ask_led (Some q) = may_ask q

  -- the answer, by whether that object is there
  led_is : (o : Option Pid) (there : Bool) → IfSome o (λ q. (a : MayAct S homes owners n (Ask (Exists q))) → there ≡ has (view a.sees.catalog a.sees.owner) q) → given o Nil (λ q. if there then Found q else Gone q) ≡ followed V p (Ref o)
  led_is None there is = refl
  led_is (Some q) there is = ap (λ (b : Bool). if b then Found q else Gone q) (is (may_ask q))

  -- what needs this and answers so is the step
  pub step_is : (step : Step) (level : Level) → level ≡ m.act.sees.owner.level → step.needs ≡ with_reads level [] (object_need Read p.serial ∷ targets (references (Ref to))) → (there : Bool)
      → IfSome to (λ q. (a : MayAct S homes owners n (Ask (Exists q))) → there ≡ has (view a.sees.catalog a.sees.owner) q) → plain_answer step.answer ≡ given to Nil (λ q. if there then Found q else Gone q) → step.put ≡ None
      → IsStep S m.act.sees.owner.level V (Ask (Follow p m.member)) step
  step_is step level same needs there is answer put =
      follow_is S m.act.sees.owner.level V p m.member m.refers.object (Ref to) step m.refers.there m.refers.refers
      (record { needs = needs ∙ ap (λ (l : Level). with_reads l [] (object_need Read p.serial ∷ targets (references (Ref to)))) same; answer = answer ∙ led_is to there is; changes = ap changes_put put; put = subst (MayBePut S V) (sym put) tt })

-- ---- the level

same_one : {A : Type 0} (x y : A) → Some x ≡ Some y → x ≡ y
same_one x y e = cc

pub level_is : (held : Held) (es : List (OwnerNo × Owned)) (n : ℕ) (owned : Owned) → owned_at n es ≡ Some owned → (o : Owner) → get (owners_of held es) n ≡ Some o → owned.level ≡ o.level
level_is held es n owned at o there = ap (λ (x : Owner). x.level) (same_one _ o (sym (is_owner held es n owned at) ∙ there))

pub never_there : {A : Type 0} (held : Held) (es : List (OwnerNo × Owned)) (n : ℕ) → owned_at n es ≡ None → (o : Owner) → get (owners_of held es) n ≡ Some o → A
never_there held es n none o there = (let no : None ≡ Some o = sym (no_owner held es n none) ∙ there in cc)

-- ---- answers that tell whether an object is there

pub plain_truth : (a : Answer) (b : Bool) → plain_answer a ≡ IsThere b → a ≡ answer.Truth b
plain_truth answer.Done b e = absurd (cc)
plain_truth (answer.Found q) b e = absurd (cc)
plain_truth (answer.Truth c) b e = (let same : c ≡ b = cc in ap answer.Truth same)
plain_truth (answer.Val v) b e = absurd (cc)
plain_truth (answer.Count n) b e = absurd (cc)
plain_truth (answer.List n first) b e = absurd (cc)
plain_truth answer.NotFound b e = absurd (cc)
plain_truth (answer.Gone q) b e = absurd (cc)
plain_truth answer.Nil b e = absurd (cc)
plain_truth (answer.Duplicate key) b e = absurd (cc)
plain_truth answer.TooLarge b e = absurd (cc)
plain_truth (answer.Busy n) b e = absurd (cc)
