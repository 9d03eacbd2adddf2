use Rattle.std.proofs.lemmas.Option.{IfSome_then}
use Rattle.data_calls.proofs.Tellings.{object_told}
use Rattle.data_calls.proofs.telling.shown_by.Goals as goal

pub returns-in-Some-clause-pid : goal.returns-in-Some-clause-pid
returns-in-Some-clause-pid c k at =
    IfSome_then c.shown.result c.shown.ensures.pid
    (λ shown is. object_told c.args.parts.now k at c.copies-copies.result.now c.copies-copies.ensures c.copies_hold.ensures c.args.acting.session c.in-Some.number c.args.entry c.in-Some.ensures shown.pid is)
