use Rattle.incarnations.specs.Stock.{Last}
use Rattle.incarnations.proofs.Moved.{row_left, col_left, moved}
use Rattle.incarnations.proofs.moves.move_node.Goals as goal

pub insert_reserved-requires-clause-row : goal.insert_reserved-requires-clause-row
insert_reserved-requires-clause-row c = row_left c.args.pool.now c.unlink_uncounted-slot.new.self c.args.node c.unlink_uncounted-slot.ensures.unlinked c.requires.node c.args.row c.requires.row

pub insert_reserved-requires-clause-col : goal.insert_reserved-requires-clause-col
insert_reserved-requires-clause-col c = col_left c.args.pool.now c.unlink_uncounted-slot.new.self c.args.node c.unlink_uncounted-slot.ensures.unlinked c.requires.node c.rings_hold.ensures.rings c.col_of-col.result c.col_of-col.ensures

pub returns-clause-moved : goal.returns-clause-moved
returns-clause-moved c =
    moved c.args.pool.now c.unlink_uncounted-slot.new.self c.args.node c.unlink_uncounted-slot.ensures.unlinked c.requires.node Last c.unlink_uncounted-slot.ensures.rings c.insert_reserved.new.self c.args.row c.col_of-col.result c.unlink_uncounted-slot.result c.insert_reserved.result c.col_of-col.ensures
    c.unlink_uncounted-slot.ensures.item c.insert_reserved.ensures.new c.insert_reserved.ensures.inserted
