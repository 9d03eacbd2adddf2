-- What the store holds between the lines of a script, and what a crash may leave while one is served.
use Rattle.std.specs.Prelude.{ℕ, ◌≡◌, ◌⊎◌, List, true, Some, IfSome}
use Rattle.std.specs.declared.option.Option.{Option}
use Rattle.pss_base.specs.declared.lines.LineStep.{LineStep}
use Rattle.pss_disk.specs.Moments.{Disk, Moment, IsOnlyImage}
use Rattle.type_layout.specs.declared.schema.Schema.{Schema}
use Rattle.pss_catalog.specs.Catalog.{Catalog}
use Rattle.page_store.specs.Stores.{AllHave}
use Rattle.pss_recovery.specs.declared.mounting.Mounted.{Mounted}
use Rattle.pss_recovery.specs.declared.parts.Parts.{Parts as Store}
use Rattle.pss_recovery.specs.Mounted.{HasNoRecord, IsMounted}
use Rattle.pss_recovery.specs.Stands.{Stands}
use Rattle.commit_saving.specs.Saving.{IfTold}
use Rattle.connector.specs.Keeping.{HasObjects}
use Rattle.line_service.specs.Spoken.{SaidOf}
use Rattle.script_service.specs.Turns.{Running, turn_from}

-- the image stands for the objects that are kept and the next serial that is stored
abbrev pub StandsFor : Running → List ℕ → Type 0
StandsFor r image = IfSome r.saved (λ next. Stands r.schema r.kept.catalog next image)

-- A moment at which a line is served, where so much had been spoken before: some first bytes of its reply were spoken. Each image
-- stands for what was before the line or for what is after it; from the first byte of the reply on, for the latter.
pub record Passes (r : Running) (line : LineStep) (before : Option (List ℕ)) (m : Moment) : Type 0 where
  pub spoken : SaidOf (turn_from r line).1 before m.spoken
  pub images : AllHave (λ image. StandsFor r image ⊎ StandsFor (turn_from r line).0 image) m
  pub begun : (m.spoken ≡ before) ⊎ AllHave (StandsFor (turn_from r line).0) m

-- The disk between two lines: its content is the only image, and stands, with what is known of it in memory, for what is kept and
-- stored; after a checkpoint its journal has no record.
pub record IsHeld (r : Running) (store : Store) (content : Option (List ℕ)) (disk : Option Disk) : Type 0 where
  pub mounted : IfSome r.saved (λ next. IfTold content (IsMounted r.schema r.kept.catalog next store))
  pub settled : IfSome disk (λ disk. (octets : List ℕ) × (content ≡ Some octets) × IsOnlyImage disk octets)
  pub empty : r.cleared ≡ true → IfSome content HasNoRecord

-- a disk whose only image stands for what is kept and stored
abbrev pub OnlyStandsFor : Running → Option Disk → Type 0
OnlyStandsFor r disk = IfSome disk (λ disk. (octets : List ℕ) × IsOnlyImage disk octets × StandsFor r octets)

-- ---- before a script, and after it

-- what was mounted: these objects and a next serial, for which the content stands
pub record IsFirst (S : Schema) (M : Catalog) (mounted : Mounted) (content : Option (List ℕ)) : Type 0 where
  pub objects : HasObjects S M mounted
  pub stands : IfSome content (IsMounted S M mounted.next mounted.store)

-- the content and the disk that a script leaves: they stand for what is kept and stored
pub record IsLeft (content : Option (List ℕ)) (disk : Option Disk) (r : Running) : Type 0 where
  pub stands : IfSome r.saved (λ next. IfTold content (Stands r.schema r.kept.catalog next))
  pub settled : IfSome disk (λ disk. (octets : List ℕ) × (content ≡ Some octets) × IsOnlyImage disk octets)
  pub empty : r.cleared ≡ true → IfSome content HasNoRecord
