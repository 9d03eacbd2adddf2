-- What the step of an operation changes, by its answer.
use Rattle.std.proofs.Common.{◌≡◌, ℕ, Bool, true, false, ◌&&◌, List, [], ◌∷◌, length, Option, Some, None, refl, sym, ap, ◌∙◌, subst, inl, inr}
use Rattle.std.specs.Prelude.{◌⊎◌, nat_lt, if◌then◌else◌, slice_set}
use Rattle.std.specs.List.{flat_map}
use Rattle.std.specs.FinMap.{get}
use Rattle.pss_base.specs.declared.pid.Pid.{Pid}
use Rattle.pss_base.specs.declared.owner.OwnerNo.{OwnerNo}
use Rattle.type_layout.specs.declared.key.KeyNo.{KeyNo}
use Rattle.type_layout.specs.declared.schema.Schema.{Schema}
use Rattle.type_layout.specs.Types.{PlainValue}
use Rattle.type_layout.specs.Schemas.{given}
use Rattle.pss_catalog.specs.Catalog.{Object, Catalog, references, object_spelling}
use Rattle.pss_catalog.specs.Changes.{Change}
use Rattle.pss_machine.specs.Operations.{PlainOp, Create, Set, Destroy, Ask, PlainAnswer, Done, Found, IsThere, Val, Number, Listing, NotFound, Gone, Nil, Duplicate, TooLarge, Busy}
use Rattle.pss_machine.specs.Alone.{Outcome, answers, pid_at, object_of, first_gone, first_taken, stored, unless_gone, with_member, alone}
use Rattle.pss_machine.specs.Owners.{Owner, view, Step, step_on_view}
use Rattle.pss_machine.specs.Sessions.{is_owner, owner_of}
use Rattle.pss_machine.specs.Kept.{Kept}
use Rattle.pss_machine.specs.Allowed.{TakesNext}
use Rattle.pss_machine.specs.Moving.{is_outdated}
use Rattle.pss_copies.specs.Stepped.{SetsAt, DestroysAt, OutdatesNone}

-- ---- operations that store an object

-- an answer other than that there was no room for the object
abbrev IsRoomy : PlainAnswer → Type 0
IsRoomy (Duplicate key) = ⊥
IsRoomy TooLarge = ⊥
IsRoomy _ = Unit {0}

abbrev One : ℕ → Option Object → List Change
One serial state = record { serial = serial; state = state } ∷ []

-- it is stored, or nothing changes
abbrev IsStored : ℕ → Object → PlainAnswer → Outcome → Type 0
IsStored serial object done o = ((o.answer ≡ done) × (o.changes ≡ One serial (Some object))) ⊎ ((IsRoomy o.answer → ⊥) × (o.changes ≡ []))

is_stored : (S : Schema) (M : Catalog) (serial : ℕ) (object : Object) (done : PlainAnswer) → IsStored serial object done (stored S M serial object done)
is_stored S M serial object done = by_key (first_taken S M serial object)
  where
    by_size : (b : Bool) → IsStored serial object done (if b then answers TooLarge else record { changes = record { serial = serial; state = Some object } ∷ []; answer = done })
    by_size true = inr (λ h. h, refl)
    by_size false = inl (refl, refl)

    by_key : (o : Option KeyNo) → IsStored serial object done (given o (if nat_lt 8000 (length (object_spelling S object)) then answers TooLarge else record { changes = record { serial = serial; state = Some object } ∷ []; answer = done }) (λ k. answers (Duplicate k)))
    by_key None = by_size (nat_lt 8000 (length (object_spelling S object)))
    by_key (Some k) = inr (λ h. h, refl)

-- ---- sets

-- what a set that is done finds and leaves
pub record IsSet (M : Catalog) (p : Pid) (member : ℕ) (value : PlainValue) (o : Outcome) : Type 0 where
  pub before : Object
  pub there : object_of M p ≡ Some before
  pub changes : o.changes ≡ record { serial = p.serial; state = Some (with_member before member value) } ∷ []

pub set_done : (S : Schema) (M : Catalog) (p : Pid) (member : ℕ) (value : PlainValue) → (alone S M (Set p member value)).answer ≡ Done → IsSet M p member value (alone S M (Set p member value))
set_done S M p member value done = by_object (object_of M p) refl done
  where
    after : Object → Outcome
    after object = unless_gone M (references value) (stored S M p.serial (with_member object member value) Done)

    by_stored : (x : Object) → object_of M p ≡ Some x → (o : Outcome) → IsStored p.serial (with_member x member value) Done o → o.answer ≡ Done → IsSet M p member value o
    by_stored x there o (inl is) e = record { before = x; there = there; changes = is.1 }
    by_stored x there o (inr is) e = absurd (is.0 (subst IsRoomy (sym e) tt))

    by_gone : (x : Object) → object_of M p ≡ Some x → (q : Option Pid) → (given q (stored S M p.serial (with_member x member value) Done) (λ q. answers (Gone q))).answer ≡ Done
        → IsSet M p member value (given q (stored S M p.serial (with_member x member value) Done) (λ q. answers (Gone q)))
    by_gone x there None e = by_stored x there (stored S M p.serial (with_member x member value) Done) (is_stored S M p.serial (with_member x member value) Done) e
    by_gone x there (Some q) e = absurd (cc)

    by_object : (o : Option Object) → object_of M p ≡ o → (given o (answers (Gone p)) after).answer ≡ Done → IsSet M p member value (given o (answers (Gone p)) after)
    by_object None is e = absurd (cc)
    by_object (Some x) is e = by_gone x is (first_gone M (references value)) e

-- ---- destroys

pub record IsDestroyed (M : Catalog) (p : Pid) (o : Outcome) : Type 0 where
  pub before : Object
  pub there : object_of M p ≡ Some before
  pub changes : o.changes ≡ record { serial = p.serial; state = None } ∷ []

pub destroy_done : (S : Schema) (M : Catalog) (p : Pid) → (alone S M (Destroy p)).answer ≡ Done → IsDestroyed M p (alone S M (Destroy p))
destroy_done S M p done = by_object (object_of M p) refl done
  where
    by_object : (o : Option Object) → object_of M p ≡ o
        → (given o (answers (Gone p)) (λ object. record { changes = record { serial = p.serial; state = None } ∷ []; answer = Done })).answer ≡ Done
        → IsDestroyed M p (given o (answers (Gone p)) (λ object. record { changes = record { serial = p.serial; state = None } ∷ []; answer = Done }))
    by_object None is e = absurd (cc)
    by_object (Some x) is e = record { before = x; there = is; changes = refl }

-- ---- all others

-- the answer of a set or a destroy that is done
abbrev pub changes_old : PlainOp → PlainAnswer → Bool
changes_old (Set p member value) Done = true
changes_old (Destroy p) Done = true
changes_old _ _ = false

-- nothing changes, or an object of this serial comes
abbrev pub IsQuiet : ℕ → List Change → Type 0
IsQuiet serial changes = (changes ≡ []) ⊎ ((state : Option Object) × (changes ≡ record { serial = serial; state = state } ∷ []))

module _ (S : Schema) (M : Catalog) where
  stored_quiet : (serial : ℕ) (object : Object) (answer : PlainAnswer) (o : Outcome) → IsStored serial object answer o → IsQuiet serial o.changes
  stored_quiet serial object answer o (inl is) = inr (Some object, is.1)
  stored_quiet serial object answer o (inr is) = inl is.1

  create_quiet : (serial : ℕ) (object : Object) → IsQuiet serial (alone S M (Create serial object)).changes
  create_quiet serial object = by_gone (first_gone M (flat_map references object.values))
    where
      room : Outcome
      room = stored S M serial object (Found (pid_at serial object))

      by_gone : (q : Option Pid) → IsQuiet serial (given q (stored S M serial object (Found (pid_at serial object))) (λ q. answers (Gone q))).changes
      by_gone None = stored_quiet serial object (Found (pid_at serial object)) (stored S M serial object (Found (pid_at serial object))) (is_stored S M serial object (Found (pid_at serial object)))
      by_gone (Some q) = inl refl

  set_quiet : (p : Pid) (member : ℕ) (value : PlainValue) → ((alone S M (Set p member value)).answer ≡ Done → ⊥) → (alone S M (Set p member value)).changes ≡ []
  set_quiet p member value other = by_object (object_of M p) other
    where
      by_stored : (o : Outcome) (x : Object) → IsStored p.serial x Done o → (o.answer ≡ Done → ⊥) → o.changes ≡ []
      by_stored o x (inl is) other = absurd (other is.0)
      by_stored o x (inr is) other = is.1

      by_gone : (x : Object) (q : Option Pid) → ((given q (stored S M p.serial (with_member x member value) Done) (λ q. answers (Gone q))).answer ≡ Done → ⊥)
          → (given q (stored S M p.serial (with_member x member value) Done) (λ q. answers (Gone q))).changes ≡ []
      by_gone x None other = by_stored (stored S M p.serial (with_member x member value) Done) (with_member x member value) (is_stored S M p.serial (with_member x member value) Done) other
      by_gone x (Some q) other = refl

      by_object : (o : Option Object) → ((given o (answers (Gone p)) (λ object. unless_gone M (references value) (stored S M p.serial (with_member object member value) Done))).answer ≡ Done → ⊥)
          → (given o (answers (Gone p)) (λ object. unless_gone M (references value) (stored S M p.serial (with_member object member value) Done))).changes ≡ []
      by_object None other = refl
      by_object (Some x) other = by_gone x (first_gone M (references value)) other

  destroy_quiet : (p : Pid) → ((alone S M (Destroy p)).answer ≡ Done → ⊥) → (alone S M (Destroy p)).changes ≡ []
  destroy_quiet p other = by_object (object_of M p) other
    where
      by_object : (o : Option Object) → ((given o (answers (Gone p)) (λ object. record { changes = record { serial = p.serial; state = None } ∷ []; answer = Done })).answer ≡ Done → ⊥)
          → (given o (answers (Gone p)) (λ object. record { changes = record { serial = p.serial; state = None } ∷ []; answer = Done })).changes ≡ []
      by_object None other = refl
      by_object (Some x) other = absurd (other refl)

  -- an operation that is no set and no destroy which is done
  pub quiet : (next : ℕ) (op : PlainOp) → TakesNext next op → changes_old op (alone S M op).answer ≡ false → IsQuiet next (alone S M op).changes
  quiet next (Create serial object) takes other = subst (λ (n : ℕ). IsQuiet n (alone S M (Create serial object)).changes) takes (create_quiet serial object)
  quiet next (Set p member value) takes other = inl (set_quiet p member value (λ done. no (ap (changes_old (Set p member value)) (sym done) ∙ other)))
    where
      no : true ≡ false → ⊥
      no e = absurd (cc)
  quiet next (Destroy p) takes other = inl (destroy_quiet p (λ done. no (ap (changes_old (Destroy p)) (sym done) ∙ other)))
    where
      no : true ≡ false → ⊥
      no e = absurd (cc)
  quiet next (Ask question) takes other = inl refl

-- it outdates no body
pub outdates_none : (n : OwnerNo) (step : Step) → changes_old step.op step.answer ≡ false → OutdatesNone n step
outdates_none n step other s session body = by step.op step.answer other
  where
    none : (b : Bool) → (b && false) ≡ false
    none true = refl
    none false = refl

    by_done : (op : PlainOp) → changes_old op Done ≡ false → is_outdated n (record { op = op; answer = Done; needs = step.needs; own = step.own }) s session body ≡ false
    by_done (Create serial object) e = none (is_owner n (owner_of session))
    by_done (Set p member value) e = absurd (cc)
    by_done (Destroy p) e = absurd (cc)
    by_done (Ask question) e = none (is_owner n (owner_of session))

    by : (op : PlainOp) (answer : PlainAnswer) → changes_old op answer ≡ false → is_outdated n (record { op = op; answer = answer; needs = step.needs; own = step.own }) s session body ≡ false
    by op Done e = by_done op e
    by op (Found p) e = none (is_owner n (owner_of session))
    by op (IsThere b) e = none (is_owner n (owner_of session))
    by op (Val v) e = none (is_owner n (owner_of session))
    by op (Number i) e = none (is_owner n (owner_of session))
    by op (Listing i first) e = none (is_owner n (owner_of session))
    by op NotFound e = none (is_owner n (owner_of session))
    by op (Gone p) e = none (is_owner n (owner_of session))
    by op Nil e = none (is_owner n (owner_of session))
    by op (Duplicate key) e = none (is_owner n (owner_of session))
    by op TooLarge e = none (is_owner n (owner_of session))
    by op (Busy m) e = none (is_owner n (owner_of session))

-- ---- steps

module _ (S : Schema) (k : Kept) (n : OwnerNo) (owner : Owner) (there : get k.owners n.0 ≡ Some owner) (step : Step) (op : PlainOp) (is : step ≡ step_on_view S k.catalog owner op) where
  op_is : step.op ≡ op
  op_is = ap (λ (t : Step). t.op) is

  own_is : step.own ≡ (alone S (view k.catalog owner) op).changes
  own_is = ap (λ (t : Step). t.own) is

  answer_is : step.answer ≡ (alone S (view k.catalog owner) op).answer
  answer_is = ap (λ (t : Step). t.answer) is

  pub sets_at : (p : Pid) (member : ℕ) (value : PlainValue) → op ≡ Set p member value → step.answer ≡ Done → (before : Object) × (object_of (view k.catalog owner) p ≡ Some before) × SetsAt k n step p (slice_set before.values member value)
  sets_at p member value named done =
      let alone_is : alone S (view k.catalog owner) op ≡ alone S (view k.catalog owner) (Set p member value) = ap (alone S (view k.catalog owner)) named in
      let set = set_done S (view k.catalog owner) p member value (ap (λ (o : Outcome). o.answer) (sym alone_is) ∙ sym answer_is ∙ done) in (
        set.before,
        set.there,
        record {
          object = with_member set.before member value;
          changes = record { owner = owner; there = there; before = set.before; seen = set.there; own = own_is ∙ ap (λ (o : Outcome). o.changes) alone_is ∙ set.changes; answer = done };
          home = refl;
          values_are = refl;
          member = member;
          value = value;
          op = op_is ∙ named;
        },
      )

  pub destroys_at : (p : Pid) → op ≡ Destroy p → step.answer ≡ Done → DestroysAt k n step p
  destroys_at p named done =
      let alone_is : alone S (view k.catalog owner) op ≡ alone S (view k.catalog owner) (Destroy p) = ap (alone S (view k.catalog owner)) named in
      let gone = destroy_done S (view k.catalog owner) p (ap (λ (o : Outcome). o.answer) (sym alone_is) ∙ sym answer_is ∙ done) in
      record {
        changes = record { owner = owner; there = there; before = gone.before; seen = gone.there; own = own_is ∙ ap (λ (o : Outcome). o.changes) alone_is ∙ gone.changes; answer = done };
        op = op_is ∙ named;
      }

  pub quiet_at : TakesNext k.next op → changes_old op step.answer ≡ false → IsQuiet k.next step.own
  quiet_at takes other = subst (IsQuiet k.next) (sym own_is) (quiet S (view k.catalog owner) k.next op takes (ap (changes_old op) (sym answer_is) ∙ other))
