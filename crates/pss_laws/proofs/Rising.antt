-- The serials of creates rise.
use Rattle.std.proofs.Common.{◌≡◌, ℕ, ◌≤◌, ◌+◌, List, [], ◌∷◌, ◌++◌, refl, sym, ap, subst, ◌∙◌, arith}
use Rattle.type_layout.specs.declared.schema.Schema.{Schema}
use Rattle.pss_catalog.specs.Catalog.{Catalog}
use Rattle.pss_machine.specs.declared.limits.Limits.{Limits}
use Rattle.pss_machine.specs.Operations.{PlainOp, Create, Set, Destroy, Ask}
use Rattle.pss_machine.specs.Owners.{Step}
use Rattle.pss_machine.specs.Kept.{Kept, copies_of}
use Rattle.pss_machine.specs.Effects.{Effect, Stays, OpensBasic, OpensTransactional, ClosesBasic, ClosesTransactional, Begins, Associates, Ends, Holds as Seats, Steps, Commits, Flushes, RollsBack}
use Rattle.pss_machine.specs.Deciding.{decision}
use Rattle.pss_machine.specs.Moving.{next_after, moved, emptied, without_transaction_of}
use Rattle.pss_machine.specs.Beside.{Traced, Lists, traced, with_settled, grown}
use Rattle.pss_machine.specs.Run.{Said, Silent, Says, Wrong, Machine, first, turn, run}
use Rattle.pss_machine.specs.Allowed.{TakesNext, May}
use Rattle.pss_machine.specs.Live.{IsFrom, next_from, SerialsRise}
use Rattle.pss_machine.proofs.Allowing.{decision_right, step_is}
use Rattle.pss_laws.proofs.Turns.{settled_there}
use Rattle.pss_laws.proofs.History.{with_step_there, with_settled_there}

-- the serials rise from one number on, and stay below another
abbrev RiseTo : ℕ → ℕ → List Traced → Type 0
RiseTo n next [] = n ≤ next
RiseTo n next (e ∷ es) = IsFrom n e.op × RiseTo (next_from n e.op) next es

rise_more : (trace : List Traced) (n next : ℕ) (e : Traced) (op : PlainOp) → e.op ≡ op → TakesNext next op → RiseTo n next trace → RiseTo n (next_after next op) (trace ++ e ∷ [])
rise_more [] n next e (Create serial object) is takes le = (subst (IsFrom n) (sym is) (from n next serial takes le), subst (λ (op : PlainOp). next_from n op ≤ next + 1) (sym is) (to next serial takes))
  where
    from : (n next serial : ℕ) → serial ≡ next → n ≤ next → n ≤ serial
    from n next serial takes le = omega arith

    to : (next serial : ℕ) → serial ≡ next → serial + 1 ≤ next + 1
    to next serial takes = omega arith
rise_more [] n next e (Set p member value) is takes le = (subst (IsFrom n) (sym is) tt, subst (λ (op : PlainOp). next_from n op ≤ next) (sym is) le)
rise_more [] n next e (Destroy p) is takes le = (subst (IsFrom n) (sym is) tt, subst (λ (op : PlainOp). next_from n op ≤ next) (sym is) le)
rise_more [] n next e (Ask question) is takes le = (subst (IsFrom n) (sym is) tt, subst (λ (op : PlainOp). next_from n op ≤ next) (sym is) le)
rise_more (x ∷ trace) n next e op is takes h = (h.0, rise_more trace (next_from n x.op) next e op is takes h.1)

rise_is : (trace : List Traced) (n next : ℕ) → RiseTo n next trace → SerialsRise n trace
rise_is [] n next h = tt
rise_is (e ∷ trace) n next h = (h.0, rise_is trace (next_from n e.op) next h.1)

module _ (S : Schema) (limits : Limits) (n : ℕ) where
  effect_rises : (q : Machine) (effect : Effect) → May S limits q.kept effect → RiseTo n q.kept.next q.lists.trace → RiseTo n (moved q.kept effect).next (grown q.kept q.lists effect).trace
  effect_rises q Stays may h = h
  effect_rises q (OpensBasic name access) may h = h
  effect_rises q (OpensTransactional name access) may h = h
  effect_rises q (ClosesBasic s m) may h = h
  effect_rises q (ClosesTransactional s) may h = h
  effect_rises q (Begins name level) may h = h
  effect_rises q (Associates s association) may h = h
  effect_rises q (Ends s m failed) may h = h
  effect_rises q (Seats s copies) may h = h
  effect_rises q (Steps m s step asked) may h =
      let op : step.op ≡ asked.op = ap (λ (t : Step). t.op) may.taken ∙ (step_is S q.kept.catalog may.owner (copies_of q.kept s) asked).1 in
      subst (λ (lists : Lists). RiseTo n (next_after q.kept.next step.op) lists.trace) (sym (with_step_there q.kept q.lists m step may.owner may.there))
      (rise_more q.lists.trace n q.kept.next (traced q.lists m may.owner step) step.op refl (subst (TakesNext q.kept.next) (sym op) may.serial) h)
  effect_rises q (Commits m) may h =
      subst (λ (k : Kept). RiseTo n (without_transaction_of k m).next (with_settled q.kept q.lists m).trace) (sym (settled_there q.kept m may.owner may.there))
      (subst (λ (lists : Lists). RiseTo n q.kept.next lists.trace) (sym (with_settled_there q.kept q.lists m may.owner may.there)) h)
  effect_rises q (Flushes m) may h =
      subst (λ (k : Kept). RiseTo n (emptied k m).next (with_settled q.kept q.lists m).trace) (sym (settled_there q.kept m may.owner may.there))
      (subst (λ (lists : Lists). RiseTo n q.kept.next lists.trace) (sym (with_settled_there q.kept q.lists m may.owner may.there)) h)
  effect_rises q (RollsBack m) may h = h

  turn_rises : (q : Machine) (x : Said) → RiseTo n q.kept.next q.lists.trace → RiseTo n (turn S limits q x).kept.next (turn S limits q x).lists.trace
  turn_rises q Silent h = h
  turn_rises q (Wrong column) h = h
  turn_rises q (Says command) h = effect_rises q (decision S limits q.kept command).effect (decision_right S limits q.kept command) h

  run_rises : (lines : List Said) (q : Machine) → RiseTo n q.kept.next q.lists.trace → RiseTo n (run S limits q lines).kept.next (run S limits q lines).lists.trace
  run_rises [] q h = h
  run_rises (x ∷ lines) q h = run_rises lines (turn S limits q x) (turn_rises q x h)

pub always_rise : (S : Schema) (limits : Limits) (M : Catalog) (next : ℕ) (lines : List Said) → SerialsRise next (run S limits (first M next) lines).lists.trace
always_rise S limits M next lines = rise_is (run S limits (first M next) lines).lists.trace next (run S limits (first M next) lines).kept.next (run_rises S limits next lines (first M next) (omega arith))
