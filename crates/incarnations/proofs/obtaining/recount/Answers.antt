use Rattle.incarnations.proofs.Passed.{counted_sound, counted_is}
use Rattle.incarnations.proofs.obtaining.recount.Goals as goal

pub returns-clause-sound : goal.returns-clause-sound
returns-clause-sound c = counted_sound c.args.stock.now c.requires.sound c.args.slot c.args.was c.requires.entry c.args.count c.requires.some c.set.new.self c.set.ensures

pub returns-clause-counted : goal.returns-clause-counted
returns-clause-counted c = counted_is c.args.stock.now c.requires.sound c.args.slot c.args.was c.requires.entry c.args.count c.requires.some c.set.new.self c.set.ensures
