use Rattle.std.proofs.Common.{refl}
use Rattle.data_calls.proofs.Places.{session_there, has_room, count_left, number_left, may_seat_obtained, obtained_way}
use Rattle.data_calls.proofs.obtaining.obtain.Goals as goal

pub obtain-requires : goal.obtain-requires
obtain-requires c = record { session = session_there c.requires; room = has_room c.requires; count = count_left c.requires; number = number_left c.requires }

pub seat-requires : goal.seat-requires
seat-requires c =
    let m = c.requires in
    may_seat_obtained m _ c.in_ok-number.number refl refl refl (c.in_ok-number.ensures.ok m.on.now m.can.orderly m.on.way.attended)

pub returns : goal.returns
returns c m =
    let is = c.in_ok-number.ensures.ok m.on.now m.can.orderly m.on.way.attended in
    obtained_way m _ c.in_ok-number.number refl refl refl is _ (c.in_ok-seat.ensures (may_seat_obtained m _ c.in_ok-number.number refl refl refl is))
