-- Bodies that steps outdate.
use Rattle.std.proofs.Common.{◌≡◌, ℕ, Bool, true, false, List, [], ◌∷◌, Option, Some, refl, sym, ap, ◌∙◌, subst, inl, inr}
use Rattle.std.specs.Prelude.{◌⊎◌, slice_set}
use Rattle.std.specs.Option.{option_map}
use Rattle.std.specs.FinMap.{get}
use Rattle.pss_base.specs.declared.pid.Pid.{Pid}
use Rattle.type_layout.specs.declared.schema.Schema.{Schema}
use Rattle.type_layout.specs.declared.value.Value.{Value}
use Rattle.type_layout.specs.Types.{PlainValue}
use Rattle.pss_catalog.specs.Catalog.{Object, Catalog}
use Rattle.pss_catalog.specs.Changes.{over}
use Rattle.pss_machine.specs.declared.limits.Limits.{Limits}
use Rattle.pss_machine.specs.declared.answer.Answer.{Answer}
use Rattle.pss_machine.specs.declared.answer.Answer.TheVariants as answer
use Rattle.pss_machine.specs.declared.operation.Op.{Op}
use Rattle.pss_machine.specs.declared.operation.Op.TheVariants as operation
use Rattle.pss_machine.specs.Operations.{PlainOp, Create, Set, Destroy, Ask, PlainAnswer, Done, Found, IsThere, Val, Number, Listing, NotFound, Gone, Nil, Duplicate, TooLarge, Busy, plain_op, plain_answer}
use Rattle.pss_machine.specs.Alone.{object_of}
use Rattle.pss_machine.specs.Owners.{view, Step, step_on_view, stepped}
use Rattle.pss_machine.specs.Kept.{Kept, copies_of}
use Rattle.pss_machine.specs.Asking.{Asked}
use Rattle.pss_machine.specs.Stepping.{step_on_copy, step_of}
use Rattle.pss_machine.proofs.Maps.{with_here, insert_here}
use Rattle.pss_machine.proofs.Logic.{same_some, true_false}
use Rattle.pss_laws.specs.Sound.{IsSound}
use Rattle.pss_laws.proofs.Nets.{view_stepped}
use Rattle.pss_laws.proofs.Turns.{good_given}
use Rattle.owner_accounts.specs.declared.accounts.Accounts.{Accounts}
use Rattle.owner_accounts.specs.Accounts.{AreAccounts}
use Rattle.owner_accounts.specs.Reached.{IsReached}
use Rattle.owner_accounts.specs.Steps.{IsOwner}
use Rattle.owner_accounts.proofs.Runs.{sound_at}
use Rattle.pss_copies.specs.Ruled.{HomesAgree}
use Rattle.pss_copies.specs.Seats.{Attends}
use Rattle.pss_copies.specs.Stepped.{left_by, SetsAt, DestroysAt, OutdatesNone}
use Rattle.pss_copies.specs.declared.parts.Parts.{Parts as Attending}
use Rattle.pss_copies.proofs.Homing.{always_agree}
use Rattle.connector_parts.specs.declared.parts.Parts.{Parts}
use Rattle.data_calls.specs.declared.acting.Acting.{Acting}
use Rattle.data_calls.specs.Asking.{IsStep, after, IsTaken}
use Rattle.data_calls.specs.Ways.{IsOnWay}
use Rattle.data_calls.specs.Leaving.{MayLeave, IsLeft, MayRewrite}
use Rattle.data_calls.proofs.Changes.{changes_old, IsQuiet, outdates_none, sets_at, destroys_at, quiet_at}
use Rattle.data_calls.proofs.Steps.{OfMember, IsOnCopy, either}

-- the homes of objects agree where a run has come
pub homes_reached : (S : Schema) (limits : Limits) (k : Kept) → IsReached S limits k → HomesAgree k
homes_reached S limits k r = subst HomesAgree (sym r.is) (always_agree S limits r.catalog r.next r.lines r.good.unique (good_given S r.catalog r.next r.good))

-- ---- the step

module _ {S : Schema} {limits : Limits} {k : Kept} {acting : Acting} {asked : Asked} {answer : PlainAnswer} (t : IsStep S limits k acting asked answer) where
  -- the owner after it
  pub owner_after : get (after t).owners acting.owner.0 ≡ Some (stepped t.step t.is.owner)
  owner_after = with_here k.owners acting.owner.0 (stepped t.step) ∙ ap (option_map (stepped t.step)) t.is.owner_there

  pub view_after : view k.catalog (stepped t.step t.is.owner) ≡ over (view k.catalog t.is.owner) t.step.own
  view_after = view_stepped k.catalog t.is.owner t.step

  pub op_is : t.step.op ≡ asked.op
  op_is = ap (λ (x : Step). x.op) t.step_is ∙ by (either S k.catalog t.is.owner (copies_of k acting.session) asked)
    where
      by : (step_of S k.catalog t.is.owner (copies_of k acting.session) asked ≡ step_on_view S k.catalog t.is.owner asked.op)
          ⊎ ((a : PlainAnswer) × (step_of S k.catalog t.is.owner (copies_of k acting.session) asked ≡ step_on_copy asked.op a) × IsOnCopy k.catalog t.is.owner (copies_of k acting.session) asked a)
          → (step_of S k.catalog t.is.owner (copies_of k acting.session) asked).op ≡ asked.op
      by (inl is) = ap (λ (x : Step). x.op) is
      by (inr is) = ap (λ (x : Step). x.op) is.1

  -- a step on a copy asks
  on_copy_asks : (op : PlainOp) → OfMember op → changes_old op answer ≡ true → ⊥
  on_copy_asks (Create serial object) of e = absurd of
  on_copy_asks (Set p member value) of e = absurd of
  on_copy_asks (Destroy p) of e = absurd of
  on_copy_asks (Ask question) of e = true_false e refl

  -- a set or a destroy is done on what the owner sees
  pub on_view_where : changes_old asked.op answer ≡ true → t.step ≡ step_on_view S k.catalog t.is.owner asked.op
  on_view_where changes = by (either S k.catalog t.is.owner (copies_of k acting.session) asked)
    where
      by : (step_of S k.catalog t.is.owner (copies_of k acting.session) asked ≡ step_on_view S k.catalog t.is.owner asked.op)
          ⊎ ((a : PlainAnswer) × (step_of S k.catalog t.is.owner (copies_of k acting.session) asked ≡ step_on_copy asked.op a) × IsOnCopy k.catalog t.is.owner (copies_of k acting.session) asked a)
          → t.step ≡ step_on_view S k.catalog t.is.owner asked.op
      by (inl is) = t.step_is ∙ is
      by (inr is) = absurd (on_copy_asks asked.op is.2.of changes)

  -- any other step is quiet
  pub quiet_where : changes_old asked.op answer ≡ false → IsQuiet k.next t.step.own
  quiet_where quiet = by (either S k.catalog t.is.owner (copies_of k acting.session) asked)
    where
      by : (step_of S k.catalog t.is.owner (copies_of k acting.session) asked ≡ step_on_view S k.catalog t.is.owner asked.op)
          ⊎ ((a : PlainAnswer) × (step_of S k.catalog t.is.owner (copies_of k acting.session) asked ≡ step_on_copy asked.op a) × IsOnCopy k.catalog t.is.owner (copies_of k acting.session) asked a)
          → IsQuiet k.next t.step.own
      by (inl is) = quiet_at S k acting.owner t.is.owner t.is.owner_there t.step asked.op (t.step_is ∙ is) t.fair.serial (ap (changes_old asked.op) t.answer_is ∙ quiet)
      by (inr is) = inl (ap (λ (x : Step). x.own) (t.step_is ∙ is.1))

  pub outdates_where : changes_old asked.op answer ≡ false → OutdatesNone acting.owner t.step
  outdates_where quiet = outdates_none acting.owner t.step (ap (λ (op : PlainOp). changes_old op t.step.answer) op_is ∙ ap (changes_old asked.op) t.answer_is ∙ quiet)

  -- entries stay where they stand
  pub stay_where : changes_old asked.op answer ≡ false → (a : Attending)
      → (t.step.own ≡ [] → OutdatesNone acting.owner t.step → Attends k a → Attends (left_by k acting.owner t.step) a)
      → ((state : Option Object) → t.step.own ≡ record { serial = k.next; state = state } ∷ [] → OutdatesNone acting.owner t.step → IsSound S k → HomesAgree k → Attends k a → Attends (left_by k acting.owner t.step) a)
      → Attends k a → Attends (left_by k acting.owner t.step) a
  stay_where quiet a none one at = by (quiet_where quiet)
    where
      by : IsQuiet k.next t.step.own → Attends (left_by k acting.owner t.step) a
      by (inl is) = none is (outdates_where quiet) at
      by (inr is) = one is.0 is.1 (outdates_where quiet) (sound_at S limits k t.reached) (homes_reached S limits k t.reached) at

-- an answer that is not Done changes no object that was there
pub undone : (op : PlainOp) (a : PlainAnswer) → (a ≡ Done → ⊥) → changes_old op a ≡ false
undone (Create serial object) a other = refl
undone (Set p member value) Done other = absurd (other refl)
undone (Set q member value) (Found p) other = refl
undone (Set p member value) (IsThere b) other = refl
undone (Set p member value) (Val v) other = refl
undone (Set p member value) (Number n) other = refl
undone (Set p member value) (Listing n first) other = refl
undone (Set p member value) NotFound other = refl
undone (Set q member value) (Gone p) other = refl
undone (Set p member value) Nil other = refl
undone (Set p member value) (Duplicate key) other = refl
undone (Set p member value) TooLarge other = refl
undone (Set p member value) (Busy n) other = refl
undone (Destroy p) Done other = absurd (other refl)
undone (Destroy q) (Found p) other = refl
undone (Destroy p) (IsThere b) other = refl
undone (Destroy p) (Val v) other = refl
undone (Destroy p) (Number n) other = refl
undone (Destroy p) (Listing n first) other = refl
undone (Destroy p) NotFound other = refl
undone (Destroy q) (Gone p) other = refl
undone (Destroy p) Nil other = refl
undone (Destroy p) (Duplicate key) other = refl
undone (Destroy p) TooLarge other = refl
undone (Destroy p) (Busy n) other = refl
undone (Ask question) a other = refl

-- ---- sets and destroys

module _ {c : Parts} {acting : Acting} {p : Pid} (m : MayRewrite c acting p) where
  abbrev taken : IsTaken m.left.schema m.left.limits c m.left.kept acting m.left.asked Done
  taken = m.left.taken

  abbrev pub owner_here : IsOwner c.schema c.accounts acting.owner
  owner_here = record {
    limits = m.left.limits;
    kept = after m.left.taken.step;
    reached = subst (λ (S : Schema). IsReached S m.left.limits (after m.left.taken.step)) (sym m.left.taken.schema_is) m.left.taken.step.reaches;
    are = subst (λ (S : Schema). AreAccounts S c.accounts (after m.left.taken.step)) (sym m.left.taken.schema_is) m.left.taken.accounts;
    owner = stepped m.left.taken.step.step m.left.taken.step.is.owner;
    there = owner_after m.left.taken.step;
  }

  pub set_is : (before : Object) × (object_of (view m.left.kept.catalog m.left.taken.step.is.owner) p ≡ Some before) × SetsAt m.left.kept acting.owner m.left.taken.step.step p (slice_set before.values m.member m.value)
  set_is =
      sets_at m.left.schema m.left.kept acting.owner m.left.taken.step.is.owner m.left.taken.step.is.owner_there m.left.taken.step.step m.left.asked.op
      (on_view_where m.left.taken.step (ap (λ (op : PlainOp). changes_old op Done) m.left.op_is)) p m.member m.value m.left.op_is m.left.taken.step.answer_is

  -- what the owner sees of the object after it
  seen_after : get (view m.left.kept.catalog (stepped m.left.taken.step.step m.left.taken.step.is.owner)) p.serial ≡ Some set_is.2.object
  seen_after =
      ap (λ (M : Catalog). get M p.serial) (view_after m.left.taken.step)
      ∙ ap (λ cs. get (over (view m.left.kept.catalog m.left.taken.step.is.owner) cs) p.serial) set_is.2.changes.own
      ∙ insert_here (view m.left.kept.catalog m.left.taken.step.is.owner) p.serial set_is.2.object

  pub some_seen : (made : Option (List PlainValue)) → made ≡ option_map (λ (x : Object). x.values) (get (view m.left.kept.catalog (stepped m.left.taken.step.step m.left.taken.step.is.owner)) p.serial) → made ≡ Some (slice_set set_is.0.values m.member m.value)
  some_seen made is = is ∙ ap (option_map (λ (x : Object). x.values)) seen_after ∙ ap Some set_is.2.values_are

  pub sets_it : (value : List PlainValue) → Some value ≡ option_map (λ (x : Object). x.values) (get (view m.left.kept.catalog (stepped m.left.taken.step.step m.left.taken.step.is.owner)) p.serial) → SetsAt m.left.kept acting.owner m.left.taken.step.step p value
  sets_it value is = subst (SetsAt m.left.kept acting.owner m.left.taken.step.step p) (sym (same_some (some_seen (Some value) is))) set_is.2

pub destroys_it : {c : Parts} {acting : Acting} (p : Pid) (m : MayLeave c acting (Destroy p) Done) → DestroysAt m.kept acting.owner m.taken.step.step p
destroys_it {acting = acting} p m =
    destroys_at m.schema m.kept acting.owner m.taken.step.is.owner m.taken.step.is.owner_there m.taken.step.step m.asked.op
    (on_view_where m.taken.step (ap (λ (op : PlainOp). changes_old op Done) m.op_is)) p m.op_is m.taken.step.answer_is

pub left_here : (S : Schema) (limits : Limits) (k : Kept) (acting : Acting) (asked : Asked) (answer : PlainAnswer) (old new : Parts) (t : IsTaken S limits old k acting asked answer) → new.schema ≡ old.schema → new.limits ≡ old.limits → new.accounts ≡ old.accounts
    → Attends (left_by k acting.owner t.step.step) new.attended → IsOnWay S limits new (after t.step) (left_by k acting.owner t.step.step)
left_here S limits k acting asked answer old new t schema limited accounts attended = record {
  schema_is = schema ∙ t.schema_is;
  limits_is = limited ∙ t.limits_is;
  reached = t.step.reaches;
  accounts = subst (λ (a : Accounts). AreAccounts S a (after t.step)) (sym accounts) t.accounts;
  attended = attended;
  catalog = refl;
  owners = refl;
  sessions = refl;
}

-- ---- by what the words of the code are

-- the same step, under an operation and an answer that are equal
abbrev pub op_as : {c : Parts} {acting : Acting} {op : PlainOp} {answer : PlainAnswer} (other : PlainOp) → op ≡ other → MayLeave c acting op answer → MayLeave c acting other answer
op_as other is m = record { schema = m.schema; limits = m.limits; kept = m.kept; asked = m.asked; op_is = m.op_is ∙ is; taken = m.taken }

abbrev pub answer_as : {c : Parts} {acting : Acting} {op : PlainOp} {answer : PlainAnswer} (other : PlainAnswer) → answer ≡ other → MayLeave c acting op answer → MayLeave c acting op other
answer_as other is m = record {
  schema = m.schema;
  limits = m.limits;
  kept = m.kept;
  asked = m.asked;
  op_is = m.op_is;
  taken = record {
    schema_is = m.taken.schema_is;
    limits_is = m.taken.limits_is;
    step = record {
      reached = m.taken.step.reached;
      limited = m.taken.step.limited;
      performed = m.taken.step.performed;
      left = m.taken.step.left;
      few = m.taken.step.few;
      is = m.taken.step.is;
      fair = m.taken.step.fair;
      within_them = m.taken.step.within_them;
      step = m.taken.step.step;
      step_is = m.taken.step.step_is;
      answer_is = m.taken.step.answer_is ∙ is;
      reaches = m.taken.step.reaches;
    };
    accounts = m.taken.accounts;
    attended = m.taken.attended;
  };
}

abbrev pub set_by : {c : Parts} {acting : Acting} (p : Pid) (member : ℕ) (value : PlainValue) → MayLeave c acting (Set p member value) Done → MayRewrite c acting p
set_by p member value m = record { member = member; value = value; left = m }

-- an answer that is Done is told as Done
pub plain_done : (a : Answer) → plain_answer a ≡ Done → a ≡ answer.Done
plain_done answer.Done e = refl
plain_done (answer.Found q) e = absurd (cc)
plain_done (answer.Truth b) e = absurd (cc)
plain_done (answer.Val v) e = absurd (cc)
plain_done (answer.Count n) e = absurd (cc)
plain_done (answer.List n first) e = absurd (cc)
plain_done answer.NotFound e = absurd (cc)
plain_done (answer.Gone q) e = absurd (cc)
plain_done answer.Nil e = absurd (cc)
plain_done (answer.Duplicate key) e = absurd (cc)
plain_done answer.TooLarge e = absurd (cc)
plain_done (answer.Busy n) e = absurd (cc)

-- an operation that is no set and no destroy changes no object that was there
pub asks_old : (o : Op) (a : PlainAnswer) → changes_old (plain_op o) a ≡ true → ((p : Pid) (member : ℕ) (value : Value) → o ≡ operation.Set p member value → ⊥) → ((p : Pid) → o ≡ operation.Destroy p → ⊥) → ⊥
asks_old (operation.Create serial home values) a e sets destroys = true_false e refl
asks_old (operation.FindKey home key bytes) a e sets destroys = true_false e refl
asks_old (operation.FindPid p) a e sets destroys = true_false e refl
asks_old (operation.FindShort home serial) a e sets destroys = true_false e refl
asks_old (operation.Exists p) a e sets destroys = true_false e refl
asks_old (operation.Get p member) a e sets destroys = true_false e refl
asks_old (operation.Set p member value) a e sets destroys = sets p member value refl
asks_old (operation.Destroy p) a e sets destroys = destroys p refl
asks_old (operation.Follow p member) a e sets destroys = true_false e refl
asks_old (operation.Count home) a e sets destroys = true_false e refl
asks_old (operation.List home) a e sets destroys = true_false e refl

not_true : (b : Bool) → (b ≡ true → ⊥) → b ≡ false
not_true true h = absurd (h refl)
not_true false h = refl

module _ {c : Parts} {acting : Acting} {op : PlainOp} {answer : PlainAnswer} (m : MayLeave c acting op answer) where
  -- nothing of the parts has changed
  pub as_before : changes_old op answer ≡ false
      → (m.taken.step.step.own ≡ [] → OutdatesNone acting.owner m.taken.step.step → Attends m.kept c.attended → Attends (left_by m.kept acting.owner m.taken.step.step) c.attended)
      → ((state : Option Object) → m.taken.step.step.own ≡ record { serial = m.kept.next; state = state } ∷ [] → OutdatesNone acting.owner m.taken.step.step → IsSound m.schema m.kept → HomesAgree m.kept → Attends m.kept c.attended → Attends (left_by m.kept acting.owner m.taken.step.step) c.attended)
      → IsLeft m c
  as_before quiet none one =
      left_here m.schema m.limits m.kept acting m.asked answer c c m.taken refl refl refl
      (stay_where m.taken.step (ap (λ (o : PlainOp). changes_old o answer) m.op_is ∙ quiet) c.attended none one m.taken.attended)

-- nor has any where the operation is no set and no destroy
pub asks_quiet : (o : Op) (a : PlainAnswer) → ((p : Pid) (member : ℕ) (value : Value) → o ≡ operation.Set p member value → ⊥) → ((p : Pid) → o ≡ operation.Destroy p → ⊥) → changes_old (plain_op o) a ≡ false
asks_quiet o a sets destroys = not_true (changes_old (plain_op o) a) (λ e. asks_old o a e sets destroys)
