use Rattle.std.proofs.Common.{refl, sym, ap, ◌∙◌}
use Rattle.link_pool.specs.Cells.{next_of, prev_of}
use Rattle.link_pool.specs.declared.cells.Side.TheVariants.{Rows, Cols}
use Rattle.link_pool.proofs.Sound.{has_seat, prev_live, next_live}
use Rattle.link_pool.proofs.Taken.{nothing_set, others_set, taken_by, live_after}
use Rattle.link_pool.proofs.cells.take_out.Goals as goal

pub set_next-requires : goal.set_next-requires
set_next-requires g c =
    let h = has_seat c.args.cells.now c.args.node c.requires.node in
    let p = prev_live Rows c.args.cells.now c.requires.sound.rows c.args.node h.seat h.at in
    live_after _ c.remove-cell.new.self c.remove-cell.new.self c.args.node _ _ c.remove-cell.ensures.updates (λ y. refl) (ap (prev_of Rows) c.remove-cell.ensures.value) p.0 p.1

pub set_prev-requires : goal.set_prev-requires
set_prev-requires g c =
    let h = has_seat c.args.cells.now c.args.node c.requires.node in
    let p = next_live Rows c.args.cells.now c.requires.sound.rows c.args.node h.seat h.at in
    live_after _ c.remove-cell.new.self c.set_next.new.cells c.args.node _ _ c.remove-cell.ensures.updates c.set_next.ensures.kind (ap (next_of Rows) c.remove-cell.ensures.value) p.0 p.1

pub set_next-requires-2 : goal.set_next-requires-2
set_next-requires-2 g c =
    let h = has_seat c.args.cells.now c.args.node c.requires.node in
    let p = prev_live Cols c.args.cells.now c.requires.sound.cols c.args.node h.seat h.at in
    live_after _ c.remove-cell.new.self c.set_prev.new.cells c.args.node _ _ c.remove-cell.ensures.updates (λ y. c.set_prev.ensures.kind y ∙ c.set_next.ensures.kind y) (ap (prev_of Cols) c.remove-cell.ensures.value) p.0 p.1

pub set_prev-requires-2 : goal.set_prev-requires-2
set_prev-requires-2 g c =
    let h = has_seat c.args.cells.now c.args.node c.requires.node in
    let p = next_live Cols c.args.cells.now c.requires.sound.cols c.args.node h.seat h.at in
    live_after _ c.remove-cell.new.self c.set_next-2.new.cells c.args.node _ _ c.remove-cell.ensures.updates (λ y. c.set_next-2.ensures.kind y ∙ c.set_prev.ensures.kind y ∙ c.set_next.ensures.kind y)
    (ap (next_of Cols) c.remove-cell.ensures.value) p.0 p.1

pub returns-clause-rows : goal.returns-clause-rows
returns-clause-rows g c =
    taken_by Rows c.args.cells.now c.remove-cell.new.self _ _ _ c.set_prev-2.new.cells c.args.node _ _ (sym (ap (prev_of Rows) c.remove-cell.ensures.value)) (sym (ap (next_of Rows) c.remove-cell.ensures.value)) c.remove-cell.ensures.updates
    (nothing_set Rows _) c.set_next.ensures c.set_prev.ensures (others_set Cols _ _ _ _ _ _ _ c.set_next-2.ensures c.set_prev-2.ensures)

pub returns-clause-cols : goal.returns-clause-cols
returns-clause-cols g c =
    taken_by Cols c.args.cells.now c.remove-cell.new.self _ _ _ c.set_prev-2.new.cells c.args.node _ _ (sym (ap (prev_of Cols) c.remove-cell.ensures.value)) (sym (ap (next_of Cols) c.remove-cell.ensures.value)) c.remove-cell.ensures.updates
    (others_set Rows _ _ _ _ _ _ _ c.set_next.ensures c.set_prev.ensures) c.set_next-2.ensures c.set_prev-2.ensures (nothing_set Cols _)
