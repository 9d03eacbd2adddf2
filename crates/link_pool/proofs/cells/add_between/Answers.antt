use Rattle.std.proofs.Common.{refl, ap, ◌∙◌}
use Rattle.link_pool.specs.Cells.{kind_of}
use Rattle.link_pool.specs.declared.cells.Side.TheVariants.{Rows, Cols}
use Rattle.link_pool.proofs.Sound.{not_vacant}
use Rattle.link_pool.proofs.Taken.{nothing_set, others_set}
use Rattle.link_pool.proofs.Added.{added_by, live_beside}
use Rattle.link_pool.proofs.cells.add_between.Goals as goal

pub set_next-requires : goal.set_next-requires
set_next-requires g c = let i = c.insert_reserved-node in live_beside c.args.cells.now i.new.self i.new.self i.result _ _ i.ensures.updates (λ y. refl) (ap kind_of i.ensures.was_vacant) c.requires.row.prev

pub set_prev-requires : goal.set_prev-requires
set_prev-requires g c = let i = c.insert_reserved-node in live_beside c.args.cells.now i.new.self c.set_next.new.cells i.result _ _ i.ensures.updates c.set_next.ensures.kind (ap kind_of i.ensures.was_vacant) c.requires.row.next

pub set_next-requires-2 : goal.set_next-requires-2
set_next-requires-2 g c =
    let i = c.insert_reserved-node in
    live_beside c.args.cells.now i.new.self c.set_prev.new.cells i.result _ _ i.ensures.updates (λ y. c.set_prev.ensures.kind y ∙ c.set_next.ensures.kind y) (ap kind_of i.ensures.was_vacant) c.requires.col.prev

pub set_prev-requires-2 : goal.set_prev-requires-2
set_prev-requires-2 g c =
    let i = c.insert_reserved-node in
    live_beside c.args.cells.now i.new.self c.set_next-2.new.cells i.result _ _ i.ensures.updates (λ y. c.set_next-2.ensures.kind y ∙ c.set_prev.ensures.kind y ∙ c.set_next.ensures.kind y) (ap kind_of i.ensures.was_vacant) c.requires.col.next

pub returns-clause-rows : goal.returns-clause-rows
returns-clause-rows g c =
    let s = c.args.cells.now in
    let i = c.insert_reserved-node in
    let free = ap kind_of i.ensures.was_vacant in
    added_by Rows s i.new.self _ _ _ c.set_prev-2.new.cells i.result _ c.args.seat c.args.row (not_vacant s _ i.result c.requires.row.prev free) (not_vacant s _ i.result c.requires.row.next free) i.ensures.updates refl refl
    (nothing_set Rows _) c.set_next.ensures c.set_prev.ensures (others_set Cols _ _ _ _ _ _ _ c.set_next-2.ensures c.set_prev-2.ensures)

pub returns-clause-cols : goal.returns-clause-cols
returns-clause-cols g c =
    let s = c.args.cells.now in
    let i = c.insert_reserved-node in
    let free = ap kind_of i.ensures.was_vacant in
    added_by Cols s i.new.self _ _ _ c.set_prev-2.new.cells i.result _ c.args.seat c.args.col (not_vacant s _ i.result c.requires.col.prev free) (not_vacant s _ i.result c.requires.col.next free) i.ensures.updates refl refl
    (others_set Rows _ _ _ _ _ _ _ c.set_next.ensures c.set_prev.ensures) c.set_next-2.ensures c.set_prev-2.ensures (nothing_set Cols _)
