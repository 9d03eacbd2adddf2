-- Objects with the slots of their pages.
use Rattle.std.specs.Prelude.{ℕ, ◌≡◌, ◌==◌, List, [], ◌∷◌, ◌++◌, map, None, ⊤}
use Rattle.std.specs.Map.{lookup}
use Rattle.std.specs.declared.option.Option.{Option}
pub use Rattle.page_format.specs.Objects.{after, left_by}
use Rattle.page_format.specs.Objects.{stored_of}
use Rattle.page_format.specs.Pages.{entries_of}
use Rattle.page_format.specs.Pages.{Entry}
use Rattle.page_format.specs.Places.{slot_start}
use Rattle.page_format.specs.declared.objects.Stored.{Stored}

module _ {X : Type 0} where
  -- what stands first under a key
  abbrev pub at : ℕ → List (ℕ × X) → Option X
  at q es = lookup (λ k. q == k) es

  -- each key stands once
  abbrev pub Apart : List (ℕ × X) → Type 0
  Apart [] = ⊤
  Apart (e ∷ es) = (at e.0 es ≡ None) × Apart es

-- the entries of a page with its slot, and those of pages
abbrev pub located_of : ℕ → List Entry → List (ℕ × (ℕ × Stored))
located_of slot es = map (λ e. (e.serial, (slot, (stored_of e).1))) es

abbrev pub located : List ℕ → List ℕ → List (ℕ × (ℕ × Stored))
located image [] = []
located image (slot ∷ slots) = located_of slot (entries_of image (slot_start slot)) ++ located image slots
