-- Commits are counted as the history is long.
use Rattle.std.proofs.Common.{◌≡◌, ℕ, ◌+◌, Bool, true, false, List, [], ◌∷◌, ◌++◌, length, length-append, refl, sym, subst, arith}
use Rattle.std.specs.Prelude.{if◌then◌else◌}
use Rattle.type_layout.specs.declared.schema.Schema.{Schema}
use Rattle.pss_machine.specs.declared.limits.Limits.{Limits}
use Rattle.pss_machine.specs.Owners.{net}
use Rattle.pss_machine.specs.Kept.{Kept}
use Rattle.pss_machine.specs.Effects.{Effect, Stays, OpensBasic, OpensTransactional, ClosesBasic, ClosesTransactional, Begins, Associates, Ends, Holds, Steps, Commits, Flushes, RollsBack}
use Rattle.pss_machine.specs.Deciding.{decision}
use Rattle.pss_machine.specs.Moving.{joins, without_transaction_of, emptied, moved}
use Rattle.pss_machine.specs.Beside.{Member, Lists, member_of, with_settled, grown}
use Rattle.pss_machine.specs.Run.{Said, Silent, Says, Wrong, Machine, first, turn, run}
use Rattle.pss_machine.specs.Allowed.{May}
use Rattle.pss_machine.proofs.Allowing.{decision_right}
use Rattle.pss_laws.specs.Runs.{CommitsAreCounted}
use Rattle.pss_laws.proofs.Turns.{settled_there}
use Rattle.pss_laws.proofs.History.{with_step_there, with_settled_there}

abbrev Counts : Machine → Type 0
Counts q = q.kept.commits ≡ length q.lists.history

-- one member more is one commit more
one_more : (b : Bool) (n : ℕ) (history : List Member) (x : Member) → n ≡ length history → (if b then n + 1 else n) ≡ length (if b then history ++ x ∷ [] else history)
one_more true n history x e = grind (arith, length-append)
one_more false n history x e = e

module _ (S : Schema) (limits : Limits) (q : Machine) (h : Counts q) where
  effect_counts : (effect : Effect) → May S limits q.kept effect → (moved q.kept effect).commits ≡ length (grown q.kept q.lists effect).history
  effect_counts Stays may = h
  effect_counts (OpensBasic name access) may = h
  effect_counts (OpensTransactional name access) may = h
  effect_counts (ClosesBasic s n) may = h
  effect_counts (ClosesTransactional s) may = h
  effect_counts (Begins name level) may = h
  effect_counts (Associates s association) may = h
  effect_counts (Ends s n failed) may = h
  effect_counts (Holds s copies) may = h
  effect_counts (Steps n s step asked) may = subst (λ (lists : Lists). q.kept.commits ≡ length lists.history) (sym (with_step_there q.kept q.lists n step may.owner may.there)) h
  effect_counts (Commits n) may =
      subst (λ (k : Kept). (without_transaction_of k n).commits ≡ length (with_settled q.kept q.lists n).history) (sym (settled_there q.kept n may.owner may.there))
      (subst (λ (lists : Lists). (if joins may.owner.level (net q.kept.catalog may.owner) then q.kept.commits + 1 else q.kept.commits) ≡ length lists.history) (sym (with_settled_there q.kept q.lists n may.owner may.there))
      (one_more (joins may.owner.level (net q.kept.catalog may.owner)) q.kept.commits q.lists.history (member_of q.kept q.lists n may.owner) h))
  effect_counts (Flushes n) may =
      subst (λ (k : Kept). (emptied k n).commits ≡ length (with_settled q.kept q.lists n).history) (sym (settled_there q.kept n may.owner may.there))
      (subst (λ (lists : Lists). (if joins may.owner.level (net q.kept.catalog may.owner) then q.kept.commits + 1 else q.kept.commits) ≡ length lists.history) (sym (with_settled_there q.kept q.lists n may.owner may.there))
      (one_more (joins may.owner.level (net q.kept.catalog may.owner)) q.kept.commits q.lists.history (member_of q.kept q.lists n may.owner) h))
  effect_counts (RollsBack n) may = h

  turn_counts : (x : Said) → Counts (turn S limits q x)
  turn_counts Silent = h
  turn_counts (Wrong column) = h
  turn_counts (Says command) = effect_counts (decision S limits q.kept command).effect (decision_right S limits q.kept command)

run_counts : (S : Schema) (limits : Limits) (lines : List Said) (q : Machine) → Counts q → Counts (run S limits q lines)
run_counts S limits [] q h = h
run_counts S limits (x ∷ lines) q h = run_counts S limits lines (turn S limits q x) (turn_counts S limits q h x)

pub always_counted : CommitsAreCounted
always_counted S limits M next lines = run_counts S limits lines (first M next) refl
