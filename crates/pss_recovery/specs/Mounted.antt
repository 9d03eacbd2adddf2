-- What is known in memory of a store, and what the images of its moments stand for.
use Rattle.std.specs.Prelude.{ℕ, ◌≡◌, ◌⊎◌, ◌<◌, ◌≤◌, List, [], length}
use Rattle.std.specs.List.{AllByRecursion}
use Rattle.type_layout.specs.declared.schema.Schema.{Schema}
use Rattle.pss_catalog.specs.Catalog.{Catalog}
use Rattle.redo_journal.specs.Journal.{Fits, Holds, IsReady, journal_end, journal_start}
use Rattle.page_format.specs.declared.root.Root.{Root}
use Rattle.page_store.specs.Kept.{IsKept}
use Rattle.page_format.specs.Objects.{IsRightPut}
use Rattle.pss_recovery.specs.declared.body.Body.{Body}
use Rattle.pss_recovery.specs.declared.parts.Parts.{Parts}
use Rattle.pss_recovery.specs.declared.prepared.Prepared.{Prepared}
use Rattle.pss_recovery.specs.Bodies.{Spells}
use Rattle.pss_recovery.specs.Noted.{AreNoted}
use Rattle.pss_recovery.specs.Replaying.{AreReplayed, IsChanged}
use Rattle.pss_recovery.specs.Stands.{IsLoaded, Stands}

-- The content stands for the catalog and the next serial, and this is known of it: its root, which page holds each object, where its
-- journal ends, whose gate is there and closed, and which changes the bodies of the journal make.
pub record IsMounted (S : Schema) (M : Catalog) (next : ℕ) (store : Parts) (content : List ℕ) : Type 0 where
  pub root : Root
  pub base : Catalog
  pub bodies : List (List ℕ)
  pub loaded : IsLoaded S root base content
  pub replayed : AreReplayed S base root.next bodies M next
  pub ready : IsReady store.journal bodies content
  pub of_epoch : store.journal.epoch ≡ root.epoch
  pub epoch_ : store.epoch ≡ root.epoch
  pub next_ : store.next ≡ next
  pub pages_ : IsKept root store.pages content
  pub noted : AreNoted bodies store.pages.noted

-- what is so of each store: a next serial is never 0, and the gate that ends the journal lies in it
pub record IsWhole (store : Parts) : Type 0 where
  pub some : 1 ≤ store.next
  pub behind : journal_start ≤ store.journal.end
  pub within : store.journal.end < journal_end

-- a body that may come next by what memory knows: few changes, each with a record that has some octets, but not many, and no lesser next
-- serial
pub record MayFollow (next : ℕ) (body : Body) : Type 0 where
  pub few : length body.puts ≤ 256
  pub each : AllByRecursion IsRightPut body.puts
  pub later : next ≤ body.next

-- a body for which there is room: its octets fit into the journal, and its changes may be noted
pub record HasRoom (store : Parts) (prepared : Prepared) : Type 0 where
  pub may : MayFollow store.next prepared.body
  pub spells : Spells prepared.octets prepared.body
  pub fits : Fits store.journal.end (length prepared.octets)
  pub room : length prepared.body.puts ≤ store.pages.room

-- the content stands for a catalog and a next serial, and the body makes another catalog of it
pub record IsPrepared (S : Schema) (M : Catalog) (next : ℕ) (store : Parts) (body : Body) (N : Catalog) (content : List ℕ) : Type 0 where
  pub mounted : IsMounted S M next store content
  pub changed : IsChanged S M next body N

-- the image stands for one of two catalogs, each with its next serial
abbrev pub StandsEither : Schema → Catalog → ℕ → Catalog → ℕ → List ℕ → Type 0
StandsEither S M next N last image = Stands S M next image ⊎ Stands S N last image

-- the journal of the image has no record, whatever the epoch
abbrev pub HasNoRecord : List ℕ → Type 0
HasNoRecord image = (epoch : ℕ) → Holds (record { end = journal_start; epoch = epoch }) [] image
