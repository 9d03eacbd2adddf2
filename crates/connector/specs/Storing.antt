-- Which commands have to do with the store.
use Rattle.std.specs.Prelude.{ℕ, ◌≡◌}
use Rattle.pss_machine.specs.declared.command.Command.{Command}
use Rattle.pss_machine.specs.declared.command.Command.TheVariants as command
use Rattle.pss_machine.specs.Kept.{Kept}
use Rattle.pss_machine.specs.Effects.{Effect}
use Rattle.pss_machine.specs.Moving.{moved}
use Rattle.commit_saving.specs.Saving.{saved_by}

-- the command has nothing to do with the store
abbrev pub IsInMemory : Command → Type 0
IsInMemory (command.Commit t) = ⊥
IsInMemory (command.Flush name) = ⊥
IsInMemory command.Checkpoint = ⊥
IsInMemory _ = Unit {0}

-- the effect changes no committed object and stores nothing
pub record IsUnstored (k : Kept) (e : Effect) : Type 0 where
  pub catalog : (moved k e).catalog ≡ k.catalog
  pub saved : (saved : ℕ) → saved_by k saved e ≡ saved
