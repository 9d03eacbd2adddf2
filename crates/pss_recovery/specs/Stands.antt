-- What an image of a store stands for under a schema, or why it is refused. Each round goes over all that it reads
-- before the next one begins.
use Rattle.std.specs.Prelude.{ℕ, ◌≡◌, ◌⊎◌, ◌≤◌, List, ⊤}
use Rattle.std.specs.FinMap.{empty}
use Rattle.pss_base.specs.declared.damage.DamageKind.{DamageKind}
use Rattle.pss_base.specs.declared.damage.DamageKind.TheVariants as kind
use Rattle.type_layout.specs.declared.schema.Schema.{Schema}
use Rattle.type_layout.specs.ShapeText.{shape_text}
use Rattle.pss_catalog.specs.Catalog.{Catalog, total}
use Rattle.redo_journal.specs.Journal.{Holds, IsDamaged}
use Rattle.page_format.specs.declared.root.Root.{Root}
use Rattle.page_store.specs.Kept.{rows_in}
use Rattle.page_format.specs.PageDamage.{IsPageDamage}
use Rattle.page_format.specs.Pages.{ArePages}
use Rattle.page_format.specs.Roots.{HasRoot, IsNoStore, IsRootDamage}
use Rattle.pss_recovery.specs.declared.fault.MountFault.{MountFault}
use Rattle.pss_recovery.specs.declared.fault.MountFault.TheVariants.{NotAStore, ShapeDiffers, Damaged, DiskFault, NoMemory}
use Rattle.pss_recovery.specs.Shapes.{DifferAt}
use Rattle.pss_recovery.specs.Loading.{AreLoaded, IsRowDamage, IsTotalDamage, entry_places, most_octets}
use Rattle.pss_recovery.specs.Replaying.{AreReplayed, IsChangeDamage}

-- ---- what is right after each round

-- the image has this root, whose shape is that of the schema
pub record IsRooted (S : Schema) (root : Root) (image : List ℕ) : Type 0 where
  pub root_ : HasRoot root image
  pub shape : root.shape ≡ shape_text S

-- and its pages
pub record IsPaged (S : Schema) (root : Root) (image : List ℕ) : Type 0 where
  pub rooted : IsRooted S root image
  pub pages : ArePages root.next root.slots image

-- and the objects in them
pub record IsLoaded (S : Schema) (root : Root) (base : Catalog) (image : List ℕ) : Type 0 where
  pub paged : IsPaged S root image
  pub loaded : AreLoaded S root.next empty (rows_in image root.slots) base
  pub bounded : total S base ≤ most_octets

-- and the journal of its epoch
pub record IsRead (S : Schema) (root : Root) (base : Catalog) (end : ℕ) (bodies : List (List ℕ)) (image : List ℕ) : Type 0 where
  pub loaded : IsLoaded S root base image
  pub journal : Holds (record { end = end; epoch = root.epoch }) bodies image

-- the image stands for the catalog and the next serial: those of the pages, changed by the bodies of the journal
pub record Stands (S : Schema) (M : Catalog) (next : ℕ) (image : List ℕ) : Type 0 where
  pub root : Root
  pub base : Catalog
  pub end : ℕ
  pub bodies : List (List ℕ)
  pub read : IsRead S root base end bodies image
  pub replayed : AreReplayed S base root.next bodies M next

-- ---- what is wrong first

-- the shape of the root differs from that of the schema, first at this home
pub record IsOtherShape (S : Schema) (home : ℕ) (image : List ℕ) : Type 0 where
  pub root : Root
  pub root_ : HasRoot root image
  pub differ : DifferAt (shape_text S) root.shape home

-- a page is wrong
pub record ArePagesWrong (S : Schema) (at : ℕ) (k : DamageKind) (image : List ℕ) : Type 0 where
  pub root : Root
  pub rooted : IsRooted S root image
  pub wrong : IsPageDamage root.next root.slots at k image

-- an object in the pages is wrong, or all of them are too many octets
pub record AreRowsWrong (S : Schema) (at : ℕ) (k : DamageKind) (image : List ℕ) : Type 0 where
  pub root : Root
  pub paged : IsPaged S root image
  pub wrong : IsRowDamage S root.next (rows_in image root.slots) (entry_places image root.slots) at k ⊎ IsTotalDamage S root.next (rows_in image root.slots) at k

-- a gate of the journal is wrong
pub record IsJournalWrong (S : Schema) (at : ℕ) (k : DamageKind) (image : List ℕ) : Type 0 where
  pub kind_ : k ≡ kind.Journal
  pub root : Root
  pub base : Catalog
  pub loaded : IsLoaded S root base image
  pub wrong : IsDamaged root.epoch at image

-- a body of the journal is wrong
pub record AreBodiesWrong (S : Schema) (at : ℕ) (k : DamageKind) (image : List ℕ) : Type 0 where
  pub kind_ : k ≡ kind.Change
  pub root : Root
  pub base : Catalog
  pub end : ℕ
  pub bodies : List (List ℕ)
  pub read : IsRead S root base end bodies image
  pub wrong : IsChangeDamage S base root.next bodies at

-- the image is damaged at this place
abbrev pub IsDamage : Schema → ℕ → DamageKind → List ℕ → Type 0
IsDamage S at k image =
    ((k ≡ kind.Root) × IsRootDamage image at) ⊎ ArePagesWrong S at k image ⊎ AreRowsWrong S at k image ⊎ IsJournalWrong S at k image ⊎ AreBodiesWrong S at k image

-- why an image is refused with this fault; of the disk and of memory an image says nothing
abbrev pub IsRefusal : Schema → MountFault → List ℕ → Type 0
IsRefusal S NotAStore image = IsNoStore image
IsRefusal S (ShapeDiffers home) image = IsOtherShape S home.0 image
IsRefusal S (Damaged at k) image = IsDamage S at k image
IsRefusal S DiskFault image = ⊤
IsRefusal S NoMemory image = ⊤
