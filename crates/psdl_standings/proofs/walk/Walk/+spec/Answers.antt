use Rattle.psdl_standings.proofs.Arrayed.{sequence_walked}
use Rattle.psdl_standings.proofs.walk.Walk.+spec.Goals as goal

pub returns-in_ok-number-in-Sequence : goal.returns-in_ok-number-in-Sequence
returns-in_ok-number-in-Sequence t c =
    sequence_walked c.args.self.now c.spec.new.self c.bound.new.self c.add_sequence.new.self c.args.spot c.args.spec.now c.deref.result.now c.in-Sequence.item c.in-Sequence.bound c.in_ok-item_number-in-Sequence.item_number
    c.in_ok-most-in-Sequence.most c.in_ok-number-in-Sequence.number c.in-Sequence.is c.deref.ensures c.in_ok-item_number-in-Sequence.ensures c.in_ok-most-in-Sequence.ensures c.in_ok-number-in-Sequence.ensures
