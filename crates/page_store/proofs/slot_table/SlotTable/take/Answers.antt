use Rattle.std.proofs.Common.{ℕ, ◌==◌, ◌∙◌, None, ap, cond, get_or, sym}
use Rattle.std.specs.declared.option.Option.{Option}
use Rattle.page_store.specs.Placed.{slot_under}
use Rattle.page_store.specs.inner.SlotTables.{Slots, first_of}
use Rattle.page_store.proofs.SlotTables.{taken_of_both, under}
use Rattle.page_store.proofs.slot_table.SlotTable.take.Goals as goal

pub returns-clause-found : goal.returns-clause-found
returns-clause-found c =
    let cells = c.self.inside.cells.items in
    let others = c.self.inside.others.entries in
    let serial = c.args.serial in
    c.first_of.ensures ∙ ap (λ (o : Option ℕ). first_of o c.take_other-other.result) c.take_cell-cell.ensures.found ∙ ap (first_of (get_or cells serial None)) c.take_other-other.ensures.found
    ∙ sym (under cells others serial) ∙ ap (λ (s : Slots). slot_under serial s.entries) c.self.view_is

pub returns-clause-taken : goal.returns-clause-taken
returns-clause-taken c q =
    taken_of_both c.self.inside.cells.items c.take_cell-cell.new.cells.items c.self.inside.others.entries c.take_other-other.new.others.entries c.args.serial c.take_cell-cell.ensures.taken c.take_other-other.ensures.taken q
    ∙ ap (λ (s : Slots). cond (c.args.serial == q) None (slot_under q s.entries)) c.self.view_is
