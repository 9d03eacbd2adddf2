-- What an image has where a root or its pages are refused.
use Rattle.std.specs.Prelude.{ℕ, ◌≡◌, List, ⊤}
use Rattle.pss_base.specs.declared.damage.DamageKind.TheVariants as kind
use Rattle.page_format.specs.PageDamage.{IsPageDamage}
use Rattle.page_format.specs.Roots.{IsNoStore, IsRootDamage}
use Rattle.page_format.specs.declared.fault.PageFault.{PageFault}
use Rattle.page_format.specs.declared.fault.PageFault.TheVariants as page
use Rattle.page_format.specs.declared.fault.RootFault.{RootFault}
use Rattle.page_format.specs.declared.fault.RootFault.TheVariants.{NotAStore, Damaged, DiskFault, NoMemory}

-- why a root is refused with this fault; of the disk and of memory an image says nothing
abbrev pub IsRootRefusal : RootFault → List ℕ → Type 0
IsRootRefusal NotAStore image = IsNoStore image
IsRootRefusal (Damaged at k) image = (k ≡ kind.Root) × IsRootDamage image at
IsRootRefusal DiskFault image = ⊤
IsRootRefusal NoMemory image = ⊤

-- why the pages of these slots are refused with this fault, where the next serial is this one
abbrev pub IsPageRefusal : ℕ → List ℕ → PageFault → List ℕ → Type 0
IsPageRefusal next slots (page.Damaged at k) image = IsPageDamage next slots at k image
IsPageRefusal next slots page.DiskFault image = ⊤
IsPageRefusal next slots page.NoMemory image = ⊤
