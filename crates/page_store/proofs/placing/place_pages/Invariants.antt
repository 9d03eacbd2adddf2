use Rattle.std.proofs.Common.{ℕ, ◌≡◌, take}
use Rattle.page_store.specs.Placed.{placed, slot_under}
use Rattle.page_store.proofs.placing.place_pages.Given as goal

abbrev pub invariant-loop-page : goal.invariant-loop-page
invariant-loop-page l = (q : ℕ) → slot_under q l.places.entries ≡ placed (take l.page-index l.pages) q (slot_under q l.fn.places.entries)
