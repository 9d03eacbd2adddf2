-- A store while it is mounted.
use Rattle.std.specs.Prelude.{ℕ, ◌≡◌, ◌++◌, List, [], IfSome, ⊤}
use Rattle.std.specs.declared.option.Option.{Option}
use Rattle.pss_base.specs.declared.damage.DamageKind.{DamageKind}
use Rattle.pss_base.specs.declared.damage.DamageKind.TheVariants as kind
use Rattle.pss_base.specs.declared.put.Put.{Put}
use Rattle.type_layout.specs.declared.schema.Schema.{Schema}
use Rattle.pss_catalog.specs.Catalog.{Catalog, IsGood}
use Rattle.storage_home.specs.Kept.{IsKept}
use Rattle.redo_journal.specs.Journal.{Holds}
use Rattle.page_store.specs.declared.pages.Fetched.{Fetched}
use Rattle.page_format.specs.declared.root.Root.{Root}
use Rattle.page_store.specs.Kept.{IsKept as ArePagesKept, Kept, rows_in}
use Rattle.page_format.specs.Pages.{ArePages}
use Rattle.redo_journal.specs.declared.fault.ReplayFault.{ReplayFault}
use Rattle.redo_journal.specs.declared.fault.ReplayFault.TheVariants as replay
use Rattle.redo_journal.specs.declared.replayed.Replay.{Replay}
use Rattle.pss_recovery.specs.declared.fault.MountFault.{MountFault}
use Rattle.pss_recovery.specs.declared.fault.MountFault.TheVariants as fault
use Rattle.pss_recovery.specs.declared.loading.LoadStop.{LoadStop}
use Rattle.pss_recovery.specs.declared.loading.LoadStop.TheVariants as load
use Rattle.pss_recovery.specs.declared.paging.Loaded.{Loaded}
use Rattle.pss_recovery.specs.declared.mounting.Mounted.{Mounted}
use Rattle.pss_recovery.specs.declared.parts.Parts.{Parts}
use Rattle.pss_recovery.specs.declared.replaying.BodyStop.{BodyStop}
use Rattle.pss_recovery.specs.declared.replaying.BodyStop.TheVariants as stop
use Rattle.pss_recovery.specs.declared.replaying.Replayed.{Replayed}
use Rattle.pss_recovery.specs.Mounted.{IsWhole}
use Rattle.pss_recovery.specs.Noted.{AreNoted}
use Rattle.pss_recovery.specs.Replaying.{AreReplayed}
use Rattle.pss_recovery.specs.Stands.{IsLoaded}
use Rattle.pss_recovery.specs.inner.Rowwise.{AreOver, IsWrongAt}

-- the pages of the root are right, and these are they and their rows
pub record IsFetched (root : Root) (fetched : Fetched) (content : List ℕ) : Type 0 where
  pub pages_ : ArePages root.next root.slots content
  pub kept : ArePagesKept root fetched.pages content
  pub rows_ : fetched.rows ≡ rows_in content root.slots

-- why rows are not loaded
abbrev pub IsLoadStop : Schema → ℕ → List Put → LoadStop → Type 0
IsLoadStop S next rows (load.Wrong index k) = IsWrongAt S next rows index k
IsLoadStop S next rows load.Total = AreOver S next rows
IsLoadStop S next rows load.NoMemory = ⊤

-- how far behind the start of its entry this is wrong
abbrev pub offset_of : DamageKind → ℕ
offset_of kind.Record = 16
offset_of _ = 0

-- the content has this root and these objects in its pages, and this is known of the pages
pub record IsLoadedFrom (S : Schema) (root : Root) (base : Catalog) (loaded : Loaded) (content : List ℕ) : Type 0 where
  pub loaded_ : IsLoaded S root base content
  pub pages_ : ArePagesKept root loaded.pages content

-- the objects of the pages were loaded
pub record HasLoaded (S : Schema) (root : Root) (loaded : Loaded) (content : Option (List ℕ)) : Type 0 where
  pub base : Catalog
  pub good : IsGood S base root.next
  pub kept : IsKept S base loaded.homes
  pub told : IfSome content (IsLoadedFrom S root base loaded)
  pub noted : loaded.pages.noted ≡ []

-- the content stands for the catalog and the next serial, and this is known of it, but for the gate that ends its journal
pub record IsRead (S : Schema) (M : Catalog) (next : ℕ) (store : Parts) (content : List ℕ) : Type 0 where
  pub root : Root
  pub base : Catalog
  pub bodies : List (List ℕ)
  pub loaded : IsLoaded S root base content
  pub replayed : AreReplayed S base root.next bodies M next
  pub holds : Holds store.journal bodies content
  pub of_epoch : store.journal.epoch ≡ root.epoch
  pub epoch_ : store.epoch ≡ root.epoch
  pub next_ : store.next ≡ next
  pub pages_ : ArePagesKept root store.pages content
  pub noted : AreNoted bodies store.pages.noted

-- the content holds the journal of the root
abbrev pub IsJournalOf : Root → Replay → List ℕ → Type 0
IsJournalOf root journal content = Holds (record { end = journal.end; epoch = root.epoch }) journal.bodies content

-- why a store is not mounted whose journal is not read
abbrev pub journal_fault : ReplayFault → MountFault
journal_fault (replay.Damaged at) = fault.Damaged at kind.Journal
journal_fault replay.DiskFault = fault.DiskFault
journal_fault replay.NoMemory = fault.NoMemory

-- why a store is not mounted of whose journal a body is wrong
abbrev pub body_fault : BodyStop → MountFault
body_fault (stop.Wrong gate) = fault.Damaged gate kind.Change
body_fault stop.NoMemory = fault.NoMemory

-- the store was read
pub record HasRead (S : Schema) (mounted : Mounted) (content : Option (List ℕ)) : Type 0 where
  pub catalog : Catalog
  pub good : IsGood S catalog mounted.next
  pub kept : IsKept S catalog mounted.homes
  pub next_ : mounted.store.next ≡ mounted.next
  pub whole : IsWhole mounted.store
  pub told : IfSome content (IsRead S catalog mounted.next mounted.store)

-- these changes were noted
pub record HasNoted (old : Kept) (puts : List Put) (new : Kept) : Type 0 where
  pub room : ℕ
  pub is : new ≡ record old { noted = old.noted ++ puts; room = room }

-- a store of these parts, once the changes of its journal were made
pub record IsBuilt (root : Root) (loaded : Loaded) (end : ℕ) (replayed : Replayed) (mounted : Mounted) : Type 0 where
  pub room : ℕ
  pub pages_ : mounted.store.pages ≡ record loaded.pages { noted = loaded.pages.noted ++ replayed.puts; room = room }
  pub journal_ : mounted.store.journal ≡ record { end = end; epoch = root.epoch }
  pub epoch_ : mounted.store.epoch ≡ root.epoch
  pub next_ : mounted.store.next ≡ replayed.next
  pub homes_ : mounted.homes ≡ loaded.homes
  pub answer : mounted.next ≡ replayed.next
