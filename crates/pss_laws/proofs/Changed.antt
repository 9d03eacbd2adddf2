-- Each member of the history changed an object, or is serializable.
use Rattle.std.proofs.Common.{◌≡◌, ◌<◌, Bool, true, false, cond, List, [], ◌∷◌, ◌++◌, length, refl, sym, subst, inl, inr, arith}
use Rattle.std.specs.Prelude.{◌⊎◌}
use Rattle.pss_base.specs.declared.owner.OwnerNo.{OwnerNo}
use Rattle.type_layout.specs.declared.schema.Schema.{Schema}
use Rattle.pss_catalog.specs.Changes.{Change}
use Rattle.pss_machine.specs.declared.limits.Limits.{Limits}
use Rattle.pss_machine.specs.declared.level.Level.{Level}
use Rattle.pss_machine.specs.declared.level.Level.TheVariants.{Serializable, ReadCommitted, Basic}
use Rattle.pss_machine.specs.Effects.{Effect, Stays, OpensBasic, OpensTransactional, ClosesBasic, ClosesTransactional, Begins, Associates, Ends, Holds, Steps, Commits, Flushes, RollsBack}
use Rattle.pss_machine.specs.Deciding.{decision}
use Rattle.pss_machine.specs.Moving.{joins}
use Rattle.pss_machine.specs.Beside.{Member, Lists, member_of, with_member, with_settled, grown}
use Rattle.pss_machine.specs.Run.{Said, Silent, Says, Wrong, Machine, first, turn, run}
use Rattle.pss_machine.specs.Allowed.{May}
use Rattle.pss_machine.proofs.Allowing.{decision_right}
use Rattle.pss_laws.specs.Runs.{ChangedOrSerializable, MembersChanged}
use Rattle.pss_laws.proofs.Logic.{unlike}
use Rattle.pss_laws.proofs.History.{with_step_there, with_settled_there}

one_changed : (level : Level) (changes : List Change) → joins level changes ≡ true → (level ≡ Serializable) ⊎ (0 < length changes)
one_changed Serializable changes e = inl refl
one_changed ReadCommitted [] e = unlike e
one_changed ReadCommitted (c ∷ cs) e = inr (omega arith)
one_changed Basic [] e = unlike e
one_changed Basic (c ∷ cs) e = inr (omega arith)

one_more : (history : List Member) (x : Member) → ChangedOrSerializable history → (x.level ≡ Serializable) ⊎ (0 < length x.changes) → ChangedOrSerializable (history ++ x ∷ [])
one_more [] x h here = (here, tt)
one_more (y ∷ history) x h here = (h.0, one_more history x h.1 here)

joined : (history : List Member) (x : Member) → ChangedOrSerializable history → ChangedOrSerializable (with_member history x)
joined history x h = by_join (joins x.level x.changes) refl
  where
    by_join : (b : Bool) → joins x.level x.changes ≡ b → ChangedOrSerializable (cond b (history ++ x ∷ []) history)
    by_join true e = one_more history x h (one_changed x.level x.changes e)
    by_join false e = h

module _ (S : Schema) (limits : Limits) (q : Machine) (h : ChangedOrSerializable q.lists.history) where
  settled_changed : (n : OwnerNo) → May S limits q.kept (Commits n) → ChangedOrSerializable (with_settled q.kept q.lists n).history
  settled_changed n may = subst (λ (lists : Lists). ChangedOrSerializable lists.history) (sym (with_settled_there q.kept q.lists n may.owner may.there)) (joined q.lists.history (member_of q.kept q.lists n may.owner) h)

  effect_changed : (effect : Effect) → May S limits q.kept effect → ChangedOrSerializable (grown q.kept q.lists effect).history
  effect_changed Stays may = h
  effect_changed (OpensBasic name access) may = h
  effect_changed (OpensTransactional name access) may = h
  effect_changed (ClosesBasic s n) may = h
  effect_changed (ClosesTransactional s) may = h
  effect_changed (Begins name level) may = h
  effect_changed (Associates s association) may = h
  effect_changed (Ends s n failed) may = h
  effect_changed (Holds s copies) may = h
  effect_changed (Steps n s step asked) may = subst (λ (lists : Lists). ChangedOrSerializable lists.history) (sym (with_step_there q.kept q.lists n step may.owner may.there)) h
  effect_changed (Commits n) may = settled_changed n may
  effect_changed (Flushes n) may = settled_changed n may
  effect_changed (RollsBack n) may = h

  turn_changed : (x : Said) → ChangedOrSerializable (turn S limits q x).lists.history
  turn_changed Silent = h
  turn_changed (Wrong column) = h
  turn_changed (Says command) = effect_changed (decision S limits q.kept command).effect (decision_right S limits q.kept command)

run_changed : (S : Schema) (limits : Limits) (lines : List Said) (q : Machine) → ChangedOrSerializable q.lists.history → ChangedOrSerializable (run S limits q lines).lists.history
run_changed S limits [] q h = h
run_changed S limits (x ∷ lines) q h = run_changed S limits lines (turn S limits q x) (turn_changed S limits q h x)

pub always_changed : MembersChanged
always_changed S limits M next lines = run_changed S limits lines (first M next) tt
