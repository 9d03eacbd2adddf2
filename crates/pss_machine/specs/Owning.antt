-- What holds of owners in every run.
use Rattle.std.specs.Prelude.{ℕ, ◌≡◌, List, length, Some, false, IsTrue}
use Rattle.std.specs.List.{flat_map}
use Rattle.std.specs.FinMap.{get, empty}
use Rattle.std.specs.FinSet as set
use Rattle.type_layout.specs.declared.schema.Schema.{Schema}
use Rattle.pss_catalog.specs.Catalog.{Catalog}
use Rattle.pss_machine.specs.declared.limits.Limits.{Limits}
use Rattle.pss_machine.specs.declared.lock.Need.{Need}
use Rattle.pss_catalog.specs.Changes.{Change}
use Rattle.pss_machine.specs.Changes.{with_changes}
use Rattle.pss_machine.specs.Needs.{clash}
use Rattle.pss_machine.specs.Owners.{Owner, Step}
use Rattle.pss_machine.specs.Kept.{Kept, Title}
use Rattle.pss_machine.specs.Beside.{steps_of}
use Rattle.pss_machine.specs.Run.{Said, Machine, first, run}

-- what steps needed, and what they changed, in their order
abbrev pub needed : List Step → List Need
needed steps = flat_map (λ step. step.needs) steps

abbrev pub changed_by : List Step → List Change
changed_by steps = flat_map (λ step. step.own) steps

-- an owner has locked what its steps needed, and has changed what they changed
pub record IsToldBy (steps : List Step) (owner : Owner) : Type 0 where
  pub locks : owner.locks ≡ set.from_list (needed steps)
  pub changes : owner.changes ≡ with_changes empty (changed_by steps)

-- so of each owner by its steps, whose number is told of it too
pub record OwnersAreTold (q : Machine) : Type 0 where
  pub owners : (n : ℕ) (owner : Owner) → get q.kept.owners n ≡ Some owner → IsToldBy (steps_of q.lists n) owner
  pub commands : (n : ℕ) (title : Title) → get q.kept.titles n ≡ Some title → title.commands ≡ length (steps_of q.lists n)

-- no lock of an owner clashes with one of another
abbrev pub LocksAreApart : Kept → Type 0
LocksAreApart k =
    (m n : ℕ) (a b : Owner) (x y : Need) → get k.owners m ≡ Some a → get k.owners n ≡ Some b → (m ≡ n → ⊥) → IsTrue (set.contains a.locks x) → IsTrue (set.contains b.locks y) → clash x y ≡ false

-- in each run over lines, from each catalog and next serial
abbrev pub InEveryRun : (Machine → Type 0) → Type 0
InEveryRun P = (S : Schema) (limits : Limits) (M : Catalog) (next : ℕ) (lines : List Said) → P (run S limits (first M next) lines)

abbrev pub OwnersAreAlwaysTold : Type 0
OwnersAreAlwaysTold = InEveryRun OwnersAreTold

abbrev pub LocksAreAlwaysApart : Type 0
LocksAreAlwaysApart = InEveryRun (λ q. LocksAreApart q.kept)
