use Rattle.std.proofs.Common.{◌^◌, arith}
use Rattle.incarnations.proofs.Sets.{node_there}
use Rattle.incarnations.proofs.Stood.{room_attached}
use Rattle.incarnations.proofs.Shared.{home_room, shared_row, shared_room, shared_sound, shared_is}
use Rattle.incarnations.proofs.standing.share.Goals as goal

pub move_ahead-node-requires-clause-node : goal.move_ahead-node-requires-clause-node
move_ahead-node-requires-clause-node c = node_there c.args.stock.now c.requires.sound c.args.slot c.args.was c.requires.entry

pub move_ahead-node-requires-clause-row : goal.move_ahead-node-requires-clause-row
move_ahead-node-requires-clause-row c = shared_row c.args.stock.now c.requires.sound c.args.slot c.args.was c.requires.entry c.requires.loose c.args.view c.in-Some.place c.in-Some.ensures

pub overflow_add-place : goal.overflow_add-place
overflow_add-place c = omega (arith, shared_room c.args.stock.now c.requires.sound c.args.slot c.args.was c.requires.entry c.requires.loose c.args.view c.in-Some.place c.in-Some.ensures, c.len.ensures.len, c.len.ensures.small)

pub overflow_add-stock : goal.overflow_add-stock
overflow_add-stock c = omega (arith, room_attached c.args.stock.now c.requires.sound c.args.slot c.args.was c.requires.entry c.requires.loose c.args.view, c.len.ensures.len, c.len.ensures.small)

pub returns-clause-sound : goal.returns-clause-sound
returns-clause-sound c = shared_sound c.args.stock.now c.requires.sound c.args.slot c.args.was c.requires.entry c.requires.loose c.args.view c.in-Some.place c.in-Some.ensures c.move_ahead-node.new.pool c.move_ahead-node.result c.move_ahead-node.ensures.moved c.move_ahead-node.ensures.rings c.count_up.new.self c.count_up.ensures c.set.new.self c.set.ensures c.set_entries.new.self c.set_entries.ensures

pub returns-clause-shared : goal.returns-clause-shared
returns-clause-shared c = shared_is c.args.stock.now c.requires.sound c.args.slot c.args.was c.requires.entry c.requires.loose c.args.view c.in-Some.place c.in-Some.ensures c.move_ahead-node.new.pool c.move_ahead-node.result c.move_ahead-node.ensures.moved c.move_ahead-node.ensures.rings c.count_up.new.self c.count_up.ensures c.set.new.self c.set.ensures c.set_entries.new.self c.set_entries.ensures

pub count_up-requires : goal.count_up-requires
count_up-requires c = home_room c.args.stock.now c.requires.sound c.args.slot c.args.was c.requires.entry c.requires.loose c.args.view (2 ^ 63) (omega (arith, c.len.ensures.len, c.len.ensures.small))
