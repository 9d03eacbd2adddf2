-- What holds of every run over the lines of a script.
use Rattle.std.specs.Prelude.{ℕ, ◌≡◌, List}
use Rattle.pss_base.specs.declared.lines.LineStep.{LineStep}
use Rattle.type_layout.specs.declared.schema.Schema.{Schema}
use Rattle.type_layout.specs.Sound.{IsSoundSchema}
use Rattle.pss_catalog.specs.Catalog.{Catalog, IsGood}
use Rattle.pss_machine.specs.declared.limits.Limits.{Limits}
use Rattle.pss_machine.specs.Run.{Machine}
use Rattle.pss_machine.specs.Serial.{Serial, OwnOrLast, AllUnique, catalog_after}
use Rattle.pss_machine.specs.Live.{Live}
use Rattle.script_service.specs.Turns.{run_over}

-- of the history of a machine that began with these objects and the next serial, and of its trace
pub record IsRightful (S : Schema) (M : Catalog) (next : ℕ) (q : Machine) : Type 0 where
  -- each serializable member of the history answered and changed the catalog as if it ran alone, in the order of commits
  pub serial : Serial S M q.lists.history
  -- and after all members the catalog is the one that is kept
  pub last : catalog_after M q.lists.history ≡ q.kept.catalog
  -- each read-committed owner was answered from its own changes, and else from what was committed last
  pub reads : OwnOrLast S M q.lists.history q.lists.trace
  -- no key has two holders, at first and after each member
  pub unique : AllUnique S M q.lists.history
  -- each reference that was followed, or nil, was there at first or given before, and no serial was given twice
  pub live : Live M next q.lists.trace

-- so of the run over any lines, under each sound schema, from each good catalog on
abbrev pub RunsAreRight : Type 0
RunsAreRight = (S : Schema) (limits : Limits) (M : Catalog) (next : ℕ) (lines : List LineStep) → IsSoundSchema S → IsGood S M next → IsRightful S M next (run_over S limits M next lines)
