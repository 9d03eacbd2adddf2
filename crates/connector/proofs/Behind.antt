-- The next serial that is stored was given: no effect makes it greater than the machine's own.
use Rattle.std.proofs.Common.{◌≡◌, ℕ, ◌≤◌, List, [], ◌∷◌, refl, arith}
use Rattle.std.specs.FinMap.{get}
use Rattle.pss_base.specs.declared.owner.OwnerNo.{OwnerNo}
use Rattle.pss_machine.specs.Owners.{net}
use Rattle.pss_machine.specs.Kept.{Kept}
use Rattle.pss_machine.specs.Effects.{Effect, Stays, OpensBasic, OpensTransactional, ClosesBasic, ClosesTransactional, Begins, Associates, Ends, Holds, Steps, Commits, Flushes, RollsBack}
use Rattle.pss_machine.specs.Moving.{moved, settled, with_commit, title_of}
use Rattle.pss_machine.proofs.Cases.{of_given}
use Rattle.pss_laws.proofs.Turns.{goes_up}
use Rattle.commit_saving.specs.Saving.{saved_by, saved_next, changed_by}

module _ (k : Kept) (saved : ℕ) (behind : saved ≤ k.next) where
  settled_next : (n : OwnerNo) → (settled k n).next ≡ k.next
  settled_next n = of_given (λ (j : Kept). j.next ≡ k.next) (get k.owners n.0) k (λ owner. with_commit k n (title_of k n) owner.level (net k.catalog owner)) refl (λ owner there. refl)

  saved_under : {T : Type 0} (changes : List T) → saved_next saved k.next changes ≤ k.next
  saved_under [] = behind
  saved_under (c ∷ cs) = omega arith

  pub still_behind : (e : Effect) → saved_by k saved e ≤ (moved k e).next
  still_behind Stays = behind
  still_behind (OpensBasic name access) = behind
  still_behind (OpensTransactional name access) = behind
  still_behind (ClosesBasic s n) = behind
  still_behind (ClosesTransactional s) = behind
  still_behind (Begins name level) = behind
  still_behind (Associates s association) = behind
  still_behind (Ends s n failed) = behind
  still_behind (Holds s copies) = behind
  still_behind (Steps n s step asked) = omega (arith, behind, goes_up k.next step.op)
  still_behind (Commits n) = omega (arith, saved_under (changed_by k n), settled_next n)
  still_behind (Flushes n) = omega (arith, saved_under (changed_by k n), settled_next n)
  still_behind (RollsBack n) = behind
