-- What the changes of a body make of a catalog, with the keys that each object holds before and after.
use Rattle.std.specs.Prelude.{ℕ, ◌≡◌, ◌+◌, ◌-◌, ◌<◌, ◌≤◌, ◌++◌, List, length}
use Rattle.std.specs.List.{AllByRecursion}
use Rattle.pss_base.specs.declared.put.Put.{Put}
use Rattle.type_layout.specs.declared.schema.Schema.{Schema}
use Rattle.pss_catalog.specs.Catalog.{Catalog, IsUnique, total}
use Rattle.pss_catalog.specs.Changes.{Change as Step, over}
use Rattle.storage_home.specs.declared.change.Change.{Change}
use Rattle.storage_home.specs.declared.homes.Homes.{Homes}
use Rattle.storage_home.specs.Applied.{AreChanges, IsChange}
use Rattle.storage_home.specs.Changes.{least_next}
use Rattle.storage_home.specs.Kept.{IsKept}
use Rattle.pss_recovery.specs.Loading.{most_octets}
use Rattle.page_store.specs.Kept.{Kept}
use Rattle.page_format.specs.Objects.{IsRightPut}
use Rattle.redo_journal.specs.Journal.{journal_end, journal_start}
use Rattle.pss_recovery.specs.Noted.{AreNoted}
use Rattle.pss_recovery.specs.Replaying.{AreMade, AreReplayed, IsChanged, IsMade, Rise, gate_behind}
use Rattle.pss_recovery.specs.declared.body.Body.{Body}

-- the change is that of a put, and may be made
pub record MakesStep (S : Schema) (M : Catalog) (next : ℕ) (put : Put) (change : Change) : Type 0 where
  pub step : Step
  pub is : IsChange S M change step
  pub made : IsMade S M next put step

-- the changes are those of some puts, and each may be made
pub record MakeSteps (S : Schema) (M : Catalog) (next : ℕ) (puts : List Put) (changes : List Change) : Type 0 where
  pub steps : List Step
  pub are : AreChanges S M changes steps
  pub made : AreMade S M next puts steps

-- these homes keep a catalog of which the changes may be made
pub record AnyChanges (homes : Homes) (changes : List Change) : Type 0 where
  pub schema : Schema
  pub catalog : Catalog
  pub steps : List Step
  pub kept : IsKept schema catalog homes
  pub are : AreChanges schema catalog changes steps

-- with these steps keys stay unique, and the sum within its limit
pub record StaysWithin (S : Schema) (M : Catalog) (steps : List Step) : Type 0 where
  pub unique : IsUnique S (over M steps)
  pub bounded : total S (over M steps) ≤ most_octets

-- with these steps a catalog became another one that is kept
pub record AreApplied (S : Schema) (M : Catalog) (steps : List Step) (homes : Homes) : Type 0 where
  pub within : StaysWithin S M steps
  pub kept : IsKept S (over M steps) homes

-- a body has some changes and not too many, by rising serials below its next one, and this one is no less than the last
pub record IsOrdered (next : ℕ) (body : Body) : Type 0 where
  pub some : 1 ≤ length body.puts
  pub few : length body.puts ≤ 256
  pub later : next ≤ body.next
  pub rise : Rise 0 body.next body.puts

-- a body made another catalog, which is kept
pub record IsMadeOf (S : Schema) (M : Catalog) (next : ℕ) (body : Body) (homes : Homes) : Type 0 where
  pub catalog : Catalog
  pub changed : IsChanged S M next body catalog
  pub kept : IsKept S catalog homes

-- of all puts some front was made into changes, and these are left
pub record AreJoined (S : Schema) (homes : Homes) (next : ℕ) (all rest : List Put) (changes : List Change) : Type 0 where
  pub front : List Put
  pub split : front ++ rest ≡ all
  pub made : (M : Catalog) → IsKept S M homes → MakeSteps S M next front changes
  pub last : ℕ
  pub rise : Rise last next rest
  pub least : least_next 0 changes ≤ last + 1

-- of the changes some front was noted, and these are left
pub record AreNotedSoFar (before : Kept) (all rest : List Put) (pages : Kept) : Type 0 where
  pub front : List Put
  pub split : front ++ rest ≡ all
  pub now : pages ≡ record before { noted = before.noted ++ front; room = before.room - length front }
  pub room : length all ≤ before.room
  pub right : AllByRecursion IsRightPut rest

-- of the bodies this front was made of what the homes kept first
pub record AreReplayedSoFar (S : Schema) (next : ℕ) (before : Homes) (all front : List (List ℕ)) (homes : Homes) (last : ℕ) (puts : List Put) (gate : ℕ) : Type 0 where
  pub made : (M : Catalog) → IsKept S M before → (N : Catalog) × AreReplayed S M next front N last × IsKept S N homes
  pub noted : AreNoted front puts
  pub right : AllByRecursion IsRightPut puts
  pub place : gate_behind journal_start all < journal_end → gate ≡ gate_behind journal_start front
