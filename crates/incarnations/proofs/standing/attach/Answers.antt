use Rattle.std.proofs.Common.{◌^◌, sym, subst, arith}
use Rattle.std.specs.FinMap.{get}
use Rattle.incarnations.specs.Stock.{IsSound}
use Rattle.incarnations.proofs.Sets.{some}
use Rattle.incarnations.proofs.Stood.{room_attached}
use Rattle.incarnations.proofs.Shared.{home_room, row_q, node_q, undone_sound, undone_is, made_sound, made_is}
use Rattle.incarnations.proofs.standing.attach.Goals as goal

pub move_ahead-node-requires-clause-node : goal.move_ahead-node-requires-clause-node
move_ahead-node-requires-clause-node c = node_q c.args.stock.now c.requires.sound c.args.slot c.args.was c.requires.entry c.requires.loose c.args.view c.requires.free c.in_ok-row.row c.in_ok-row.ensures.new c.add_row.new.self c.in_ok-row.ensures.ok c.add_row.ensures.rings

pub move_ahead-node-requires-clause-row : goal.move_ahead-node-requires-clause-row
move_ahead-node-requires-clause-row c = some (get c.add_row.new.self.rows c.in_ok-row.row) (row_q c.args.stock.now c.requires.sound c.args.slot c.args.was c.requires.entry c.requires.loose c.args.view c.requires.free c.in_ok-row.row c.in_ok-row.ensures.new c.add_row.new.self c.in_ok-row.ensures.ok c.add_row.ensures.rings)

pub overflow_add-stock : goal.overflow_add-stock
overflow_add-stock c = omega (arith, room_attached c.args.stock.now c.requires.sound c.args.slot c.args.was c.requires.entry c.requires.loose c.args.view, c.len.ensures.len, c.len.ensures.small)

pub remove_row-requires : goal.remove_row-requires
remove_row-requires c = row_q c.args.stock.now c.requires.sound c.args.slot c.args.was c.requires.entry c.requires.loose c.args.view c.requires.free c.in_ok-row.row c.in_ok-row.ensures.new c.add_row.new.self c.in_ok-row.ensures.ok c.add_row.ensures.rings

pub returns-in-Ok-clause-sound : goal.returns-in-Ok-clause-sound
returns-in-Ok-clause-sound c = made_sound c.args.stock.now c.requires.sound c.args.slot c.args.was c.requires.entry c.requires.loose c.args.view c.requires.free c.in_ok-row.row c.in_ok-row.ensures.new c.add_row.new.self c.in_ok-row.ensures.ok c.add_row.ensures.rings c.args.value c.add.new.self c.in-Ok.ensures.ok c.move_ahead-node.new.pool c.move_ahead-node.result c.move_ahead-node.ensures.moved c.move_ahead-node.ensures.rings c.count_up.new.self c.count_up.ensures c.set.new.self c.set.ensures

pub returns-in-Ok-clause-ok : goal.returns-in-Ok-clause-ok
returns-in-Ok-clause-ok c = made_is c.args.stock.now c.requires.sound c.args.slot c.args.was c.requires.entry c.requires.loose c.args.view c.requires.free c.in_ok-row.row c.in_ok-row.ensures.new c.add_row.new.self c.in_ok-row.ensures.ok c.add_row.ensures.rings c.args.value c.add.new.self c.in-Ok.ensures.ok c.move_ahead-node.new.pool c.move_ahead-node.result c.move_ahead-node.ensures.moved c.move_ahead-node.ensures.rings c.count_up.new.self c.count_up.ensures c.set.new.self c.set.ensures

pub returns-in-Err-clause-sound : goal.returns-in-Err-clause-sound
returns-in-Err-clause-sound c = undone_sound c.args.stock.now c.requires.sound c.args.slot c.args.was c.requires.entry c.requires.loose c.args.view c.requires.free c.in_ok-row.row c.in_ok-row.ensures.new c.add_row.new.self c.in_ok-row.ensures.ok c.add_row.ensures.rings c.remove_row.new.self c.remove_row.ensures.removed c.remove_row.ensures.rings c.add.new.self c.in-Err.ensures.err

pub returns-in-Err-clause-err : goal.returns-in-Err-clause-err
returns-in-Err-clause-err c = undone_is c.args.stock.now c.requires.sound c.args.slot c.args.was c.requires.entry c.requires.loose c.args.view c.requires.free c.in_ok-row.row c.in_ok-row.ensures.new c.add_row.new.self c.in_ok-row.ensures.ok c.add_row.ensures.rings c.remove_row.new.self c.remove_row.ensures.removed c.remove_row.ensures.rings c.add.new.self c.in-Err.ensures.err

pub returns-in_err-row-clause-sound : goal.returns-in_err-row-clause-sound
returns-in_err-row-clause-sound c =
    subst (λ p. IsSound (record { pool = p; sessions = c.args.stock.now.sessions; entries = c.args.stock.now.entries; objects = c.args.stock.now.objects; bodies = c.args.stock.now.bodies; attached = c.args.stock.now.attached })) (sym c.in_err-row.ensures.err) c.requires.sound

pub count_up-requires : goal.count_up-requires
count_up-requires c = home_room c.args.stock.now c.requires.sound c.args.slot c.args.was c.requires.entry c.requires.loose c.args.view (2 ^ 63) (omega (arith, c.len.ensures.len, c.len.ensures.small))
