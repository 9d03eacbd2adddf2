-- What is kept of the current root and its pages.
use Rattle.std.specs.Prelude.{ℕ, ◌≡◌, List, map}
use Rattle.std.specs.Ordering.{nat_cmp}
use Rattle.std.specs.declared.option.Option.{Option}
use Rattle.std.specs.FinMap as finite
use Rattle.pss_base.specs.declared.put.Put.{Put}
use Rattle.page_format.specs.Pages.{IsSmallOne, entries_in, places_in, put_of}
use Rattle.page_format.specs.Roots.{IsWithinLimits}
use Rattle.page_format.specs.declared.root.Root.{Root}

-- the current root but for its next serial; which page holds each object; the page with little in use, where there is
-- one; the changes noted for the next checkpoint; and for how many more there is room
pub record Kept : Type 0 where
  pub area : ℕ
  pub epoch : ℕ
  pub shape : List ℕ
  pub slots : List ℕ
  pub places : finite.FinMap nat_cmp ℕ
  pub small : Option ℕ
  pub noted : List Put
  pub room : ℕ

-- what the limits of a store make of a root but for its next serial
abbrev pub AreWithinLimits : ℕ → List ℕ → List ℕ → Type 0
AreWithinLimits area shape slots = IsWithinLimits (record { area = area; epoch = 0; next = 1; shape = shape; slots = slots })

-- this is kept of a root and its pages
pub record IsKept (root : Root) (kept : Kept) (image : List ℕ) : Type 0 where
  pub area_ : kept.area ≡ root.area
  pub epoch_ : kept.epoch ≡ root.epoch
  pub shape_ : kept.shape ≡ root.shape
  pub slots_ : kept.slots ≡ root.slots
  pub places_ : kept.places ≡ finite.from_entries (places_in image root.slots)
  pub small_ : IsSmallOne image root.slots kept.small

-- the objects in the pages of these slots
abbrev pub rows_in : List ℕ → List ℕ → List Put
rows_in image slots = map put_of (entries_in image slots)
