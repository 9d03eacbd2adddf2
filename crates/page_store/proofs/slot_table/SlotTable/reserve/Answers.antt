use Rattle.std.proofs.Common.{◌∙◌, ap}
use Rattle.page_store.specs.Placed.{slot_under}
use Rattle.page_store.specs.inner.SlotTables.{Slots}
use Rattle.page_store.proofs.SlotTables.{same_cells}
use Rattle.page_store.proofs.slot_table.SlotTable.reserve.Goals as goal

pub returns-then-are_dense : goal.returns-then-are_dense
returns-then-are_dense c q = same_cells c.self.inside.cells.items c.make_cells.new.cells.items c.self.inside.others.entries c.in_ok-make_cells.ensures q ∙ ap (λ (s : Slots). slot_under q s.entries) c.self.view_is
