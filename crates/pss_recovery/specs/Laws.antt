-- What the definitions come to.
use Rattle.std.specs.Prelude.{ℕ, ◌≡◌, ◌⊎◌, List, ⊤}
use Rattle.type_layout.specs.declared.schema.Schema.{Schema}
use Rattle.type_layout.specs.Sound.{IsSoundSchema}
use Rattle.pss_catalog.specs.Catalog.{Catalog, IsGood}
use Rattle.redo_journal.specs.Laws.{AreOctets}
use Rattle.pss_recovery.specs.Bodies.{Spells}
use Rattle.pss_recovery.specs.Mounted.{IsMounted}
use Rattle.pss_recovery.specs.Stands.{IsRefusal, Stands}
use Rattle.pss_recovery.specs.declared.body.Body.{Body}
use Rattle.pss_recovery.specs.declared.parts.Parts.{Parts}
use Rattle.pss_recovery.specs.declared.fault.MountFault.{MountFault}
use Rattle.pss_recovery.specs.declared.fault.MountFault.TheVariants.{NotAStore, ShapeDiffers, Damaged, DiskFault, NoMemory}

-- octets spell one body
abbrev pub SpellsOneBody : Type 0
SpellsOneBody = (octets : List ℕ) (one other : Body) → Spells octets one → Spells octets other → one ≡ other

-- the image itself tells this fault, and not the disk or a want of memory
abbrev pub IsOfImage : MountFault → Type 0
IsOfImage NotAStore = ⊤
IsOfImage (ShapeDiffers home) = ⊤
IsOfImage (Damaged at k) = ⊤
IsOfImage DiskFault = ⊥
IsOfImage NoMemory = ⊥

-- an image either stands for one catalog and one next serial, or is refused with one fault
pub record IsImageOneThing : Type 0 where
  pub either : (S : Schema) (image : List ℕ) → IsSoundSchema S → AreOctets image → ((M : Catalog) × (next : ℕ) × Stands S M next image) ⊎ ((fault : MountFault) × IsOfImage fault × IsRefusal S fault image)
  pub one_store : (S : Schema) (M N : Catalog) (next last : ℕ) (image : List ℕ) → Stands S M next image → Stands S N last image → (M ≡ N) × (next ≡ last)
  pub one_fault : (S : Schema) (fault other : MountFault) (image : List ℕ) → IsOfImage fault → IsOfImage other → IsRefusal S fault image → IsRefusal S other image → fault ≡ other
  pub never_both : (S : Schema) (M : Catalog) (next : ℕ) (fault : MountFault) (image : List ℕ) → IsOfImage fault → Stands S M next image → IsRefusal S fault image → ⊥

-- what an image stands for is a good catalog with its next serial
abbrev pub StoresAreGood : Type 0
StoresAreGood = (S : Schema) (M : Catalog) (next : ℕ) (image : List ℕ) → Stands S M next image → IsGood S M next

-- the content of a store that is mounted stands for its catalog and its next serial
abbrev pub MountedStands : Type 0
MountedStands = (S : Schema) (M : Catalog) (next : ℕ) (store : Parts) (content : List ℕ) → IsMounted S M next store content → Stands S M next content
