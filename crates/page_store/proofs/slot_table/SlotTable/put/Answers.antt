use Rattle.std.proofs.Common.{◌==◌, ◌∙◌, Some, ap, arith, cond}
use Rattle.page_store.specs.Placed.{slot_under}
use Rattle.page_store.specs.inner.SlotTables.{Slots}
use Rattle.page_store.proofs.SlotTables.{put_in_cell, put_in_map}
use Rattle.page_store.proofs.slot_table.SlotTable.put.Goals as goal

pub returns-then-serial-len : goal.returns-then-serial-len
returns-then-serial-len c q =
    put_in_cell c.self.inside.cells.items c.fill_cell-is_new.new.cells.items c.self.inside.others.entries c.args.serial c.args.slot c.fill_cell-is_new.ensures q
    ∙ ap (λ (s : Slots). cond (c.args.serial == q) (Some c.args.slot) (slot_under q s.entries)) c.self.view_is

pub returns : goal.returns
returns c q =
    put_in_map c.self.inside.cells.items c.self.inside.others.entries c.insert.new.self.entries c.args.serial c.args.slot (omega (arith, c.if-serial-len.false, c.len.ensures)) c.in_ok-insert.ensures.updates.0 q
    ∙ ap (λ (s : Slots). cond (c.args.serial == q) (Some c.args.slot) (slot_under q s.entries)) c.self.view_is
