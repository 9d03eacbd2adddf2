-- What a checkpoint was planned to write.
use Rattle.std.specs.Prelude.{ℕ, ◌≡◌, ◌+◌, ◌-◌, ◌%◌, ◌^◌, ◌<◌, List, ◌++◌, length, map}
use Rattle.std.specs.FinMap.{from_entries}
use Rattle.page_store.specs.Checkpoints.{IsCheckpointed, IsSmallAmong, kept_slots}
use Rattle.page_store.specs.Kept.{Kept}
use Rattle.page_format.specs.Packing.{AreLeastFree}
use Rattle.page_format.specs.Pages.{entries_in, places_in}
use Rattle.page_format.specs.Pages.{Entry}
use Rattle.page_store.specs.Switch.{MayFollow, Next, Old, objects_of, places_of, slots_of}
use Rattle.page_format.specs.declared.new_page.NewPage.{NewPage}
use Rattle.page_store.specs.declared.pages.planning.Plan.{Plan}
use Rattle.page_format.specs.declared.root.Root.{Root}

-- the root follows the one that is kept, with the slots of these pages behind those that stay
pub record IsNextRoot (kept : Kept) (stay : List ℕ) (pages : List NewPage) (next : ℕ) (root : Root) : Type 0 where
  pub area_ : root.area ≡ 1 - kept.area
  pub given : kept.epoch < 2 ^ 64
  pub epoch_ : root.epoch ≡ (kept.epoch + 1) % 2 ^ 64
  pub next_ : root.next ≡ next
  pub shape_ : root.shape ≡ kept.shape
  pub slots_ : root.slots ≡ stay ++ slots_of pages

-- these are planned: the root that follows, and pages with these entries in the least free slots
pub record IsPlan (kept : Kept) (stay : List ℕ) (packed : List (List Entry)) (next : ℕ) (plan : Plan) : Type 0 where
  pub root_ : IsNextRoot kept stay plan.pages.items next plan.root
  pub packed_ : map (λ page. page.entries) plan.pages.items ≡ packed
  pub free : AreLeastFree kept.slots (length packed) (slots_of plan.pages.items)
  pub small_ : IsSmallAmong plan.pages.items plan.small

-- the next root and its objects, of what was planned over a content
abbrev pub next_of : Kept → Plan → List ℕ → Next
next_of kept plan content = record { root = plan.root; kept = kept_slots kept; pages = plan.pages.items; objects = entries_in content (kept_slots kept) ++ objects_of plan.pages.items }

-- what was planned may follow the store of a content; this is kept until then, but that the places are those of the next root
pub record IsPlanned (old : Old) (kept : Kept) (next : ℕ) (plan : Plan) (now : Kept) (content : List ℕ) : Type 0 where
  pub follow : MayFollow old (next_of kept plan content) content
  pub made : IsCheckpointed old kept next plan.root (next_of kept plan content).objects
  pub places_ : now.places ≡ from_entries (places_in content (kept_slots kept) ++ places_of plan.pages.items)
  pub small_ : IsSmallAmong plan.pages.items plan.small
