-- What is not granted leaves locks, and a serial that is used.
use Rattle.std.proofs.Common.{◌≡◌, ℕ, true, List, [], Option, Some, None, refl, sym, ap, ◌∙◌, subst}
use Rattle.std.specs.Prelude.{IsTrue, if◌then◌else◌}
use Rattle.std.specs.FinMap.{get}
use Rattle.type_layout.specs.Schemas.{given}
use Rattle.pss_machine.proofs.Cases.{of_given, of_if}
use Rattle.std.specs.FinSet as set
use Rattle.pss_base.specs.declared.owner.OwnerNo.{OwnerNo}
use Rattle.type_layout.specs.declared.schema.Schema.{Schema}
use Rattle.pss_catalog.specs.Changes.{Change}
use Rattle.pss_machine.specs.declared.limits.Limits.{Limits}
use Rattle.pss_machine.specs.declared.command.Command.{Command}
use Rattle.pss_machine.specs.declared.command.Command.TheVariants as command
use Rattle.pss_machine.specs.declared.reply.Reply.{Reply}
use Rattle.pss_machine.specs.declared.reply.Reply.TheVariants as reply
use Rattle.pss_machine.specs.Changes.{with_changes}
use Rattle.pss_machine.specs.Maps.{with_at}
use Rattle.pss_machine.specs.Owners.{Owner, Owners, Step, stepped}
use Rattle.pss_machine.specs.Sessions.{first_open}
use Rattle.pss_machine.specs.Kept.{Kept, copies_of, transaction_named}
use Rattle.pss_machine.specs.Effects.{Effect, Stays, OpensBasic, OpensTransactional, ClosesBasic, ClosesTransactional, Begins, Associates, Ends, Holds, Steps, Commits, Flushes, RollsBack, Decision, does, says}
use Rattle.pss_machine.specs.Deciding.{decision, is_over_full, is_marked, unless_full, committing}
use Rattle.pss_machine.specs.Moving.{moved}
use Rattle.pss_machine.specs.Allowed.{May, TakesNext, IsStepOf}
use Rattle.pss_machine.specs.Laws.{is_fruitless, ChangesNoObject}
use Rattle.pss_machine.specs.Granted.{with_locks, OnlyLocked, FruitlessKeepsLocks, MarkedIsRolledBack}
use Rattle.pss_machine.proofs.Allowing.{decision_right, step_is}
use Rattle.pss_machine.proofs.Fruitless.{is_no, answer_no, nothing_own, step_still}
use Rattle.pss_machine.proofs.Acting.{Known, decision_seen}
use Rattle.pss_machine.proofs.Logic.{true_false}

-- a step that changes nothing of its owner's leaves the owners with its locks
only_locks : (owners : Owners) (n : ℕ) (step : Step) → step.own ≡ [] → with_at owners n (stepped step) ≡ with_at owners n (with_locks step.needs)
only_locks owners n step none =
    ap (λ (own : List Change). with_at owners n (λ (owner : Owner). record { level = owner.level; locks = set.union owner.locks (set.from_list step.needs); changes = with_changes owner.changes own })) none

module _ (S : Schema) (limits : Limits) (k : Kept) (command : Command) where
  keeps : (effect : Effect) (reply : Reply) → Known S k command effect reply → May S limits k effect → IsTrue (is_fruitless reply) → OnlyLocked S k command (moved k effect)
  keeps (Steps n s step asked) reply known may e =
      let is = step_is S k.catalog may.owner (copies_of k s) asked in
      let refused : is_no step.answer ≡ true = answer_no S k (copies_of k s) asked step.answer (subst (λ (r : Reply). IsTrue (is_fruitless r)) known.reply e) in
      let none : step.own ≡ [] = ap (λ (x : Step). x.own) may.taken ∙ nothing_own S k.catalog may.owner (copies_of k s) asked (ap (λ (x : Step). is_no x.answer) (sym may.taken) ∙ refused) in
      let op : step.op ≡ asked.op = ap (λ (x : Step). x.op) may.taken ∙ is.1 in
      let still : ChangesNoObject k (moved k (Steps n s step asked)) = step_still k n s step asked refused none in
      record {
        name = known.name;
        number = s;
        session = known.session;
        in_session = known.in_session;
        named = known.named;
        n = n;
        acts = known.acts;
        owner = may.owner;
        there = may.there;
        step = step;
        taken = subst (IsStepOf S k.catalog may.owner) (sym may.taken) is.0;
        free = may.free;
        serial = subst (TakesNext k.next) (sym op) may.serial;
        after = λ i. record (moved k (Steps n s step asked)) { owners = only_locks k.owners n.0 step none i; copies = still.copies i };
      }
  keeps Stays reply known may e = absurd (true_false e known)
  keeps (OpensBasic name access) reply known may e = absurd (true_false e known)
  keeps (OpensTransactional name access) reply known may e = absurd (true_false e known)
  keeps (ClosesBasic s n) reply known may e = absurd (true_false e known)
  keeps (ClosesTransactional s) reply known may e = absurd (true_false e known)
  keeps (Begins name level) reply known may e = absurd (true_false e known)
  keeps (Associates s association) reply known may e = absurd (true_false e known.0)
  keeps (Ends s n failed) reply known may e = absurd (true_false e known)
  keeps (Holds s copies) reply known may e = absurd (true_false e known.0)
  keeps (Commits n) reply known may e = absurd (true_false e known)
  keeps (Flushes n) reply known may e = absurd (true_false e known)
  keeps (RollsBack n) reply known may e = absurd (true_false e known)

pub fruitless_keeps : FruitlessKeepsLocks
fruitless_keeps S limits k command e = keeps S limits k command (decision S limits k command).effect (decision S limits k command).reply (decision_seen S limits k command) (decision_right S limits k command) e

-- ---- a transaction that was marked

module _ (S : Schema) (limits : Limits) (k : Kept) where
  -- where the reply says so, the decision is the rollback
  abbrev RollsBackTo : OwnerNo → Decision → Type 0
  RollsBackTo n d = d.reply ≡ reply.RolledBack → d.effect ≡ RollsBack n

  full_no : (n : OwnerNo) → RollsBackTo n (unless_full S limits k n (Commits n))
  full_no n =
      of_given (RollsBackTo n) (get k.owners n.0) (says reply.Done) (λ owner. if is_over_full S limits k.catalog owner then says reply.Full else does (Commits n) reply.Done) (λ e. absurd cc)
      (λ owner there. of_if (RollsBackTo n) (is_over_full S limits k.catalog owner) (says reply.Full) (does (Commits n) reply.Done) (λ e. absurd cc) (λ e. absurd cc))

  committing_back : (n : OwnerNo) → RollsBackTo n (committing S limits k n)
  committing_back n =
      of_given (RollsBackTo n) (first_open k.sessions n) (if is_marked k n then does (RollsBack n) reply.RolledBack else unless_full S limits k n (Commits n)) (λ session. says (reply.StillOpen session.name))
      (of_if (RollsBackTo n) (is_marked k n) (does (RollsBack n) reply.RolledBack) (unless_full S limits k n (Commits n)) (λ e. refl) (full_no n))
      (λ session there e. absurd cc)

  back_to : (t : List ℕ) → (decision S limits k (command.Commit t)).reply ≡ reply.RolledBack → (decision S limits k (command.Commit t)).effect ≡ (decision S limits k (command.Rollback t)).effect
  back_to t e = by (transaction_named k t) e
    where
      by : (o : Option OwnerNo) → (given o (says reply.NoTransaction) (committing S limits k)).reply ≡ reply.RolledBack
          → (given o (says reply.NoTransaction) (committing S limits k)).effect ≡ (given o (says reply.NoTransaction) (λ n. does (RollsBack n) reply.Done)).effect
      by None e = absurd cc
      by (Some n) e = committing_back n e

pub marked_back : MarkedIsRolledBack
marked_back = back_to
