-- Where objects are while a checkpoint places them.
use Rattle.std.specs.Prelude.{ℕ, ◌==◌, Bool, cond, List, [], ◌∷◌, Some}
use Rattle.std.specs.List.{list_any}
use Rattle.std.specs.Map.{lookup}
use Rattle.std.specs.declared.option.Option.{Option}
use Rattle.pss_base.specs.declared.put.Put.{Put}
use Rattle.page_format.specs.Pages.{Entry}
use Rattle.page_format.specs.declared.new_page.NewPage.{NewPage}

-- the slot under a serial
abbrev pub slot_under : ℕ → List (ℕ × ℕ) → Option ℕ
slot_under q places = lookup (λ k. q == k) places

-- a change of the object is among these
abbrev pub is_noted : ℕ → List Put → Bool
is_noted q puts = list_any (λ put. put.serial == q) puts

-- the object is among these
abbrev pub is_object : ℕ → List Entry → Bool
is_object q es = list_any (λ e. e.serial == q) es

-- the slot of an object after it was put where new pages have it
abbrev pub placed : List NewPage → ℕ → Option ℕ → Option ℕ
placed [] q slot = slot
placed (page ∷ pages) q slot = placed pages q (cond (is_object q page.entries) (Some page.slot) slot)
