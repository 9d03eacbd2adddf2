use Rattle.std.proofs.Common.{refl, sym, ap, ◌∙◌, subst}
use Rattle.std.specs.Option.{option_and_then}
use Rattle.std.specs.FinMap.{get}
use Rattle.incarnations.specs.Meaning.{Meaning, AreCopies, slot, body_under}
use Rattle.data_calls.proofs.Seats.{seated_now, attached_here}
use Rattle.data_calls.proofs.seating.seat.Goals as goal

pub returns-in-Some : goal.returns-in-Some
returns-in-Some c m =
    seated_now m _ refl refl refl
    (c.entries_stay.ensures.attached m.on.now c.args.acting.session c.args.number m.can.entry m.can.there
    (attached_here m (subst AreCopies c.copies-copies.ensures c.copies_hold.ensures) c.copies-copies.result.now c.copies-copies.ensures _ c.in-Some.ensures) m.on.way.attended)

pub place-requires-clause-loose : goal.place-requires-clause-loose
place-requires-clause-loose c =
    ap (λ (x : Meaning). option_and_then (get x.bodies) (body_under x (slot c.args.acting.session c.args.number))) (sym c.copies-copies.ensures) ∙ sym c.in-None.ensures
