use Rattle.std.proofs.Common.{sym, ◌∙◌}
use Rattle.owner_view.proofs.Outcomes.{on_ok}
use Rattle.data_calls.proofs.Places.{undone_way, unnamed_way, may_seat_named, named_way}
use Rattle.data_calls.proofs.obtaining.seat_named.Goals as goal

pub returns-then-not-is_done : goal.returns-then-not-is_done
returns-then-not-is_done c m = undone_way m (sym c.is_done.ensures ∙ c.if-not-is_done.true)

pub seat-requires : goal.seat-requires
seat-requires c = may_seat_named c.requires (sym c.is_done.ensures ∙ c.if-not-is_done.false) c.in-Some.number c.in-Some.is

pub returns-in-Some : goal.returns-in-Some
returns-in-Some c =
    on_ok c.seat.result
    (λ seated m.
    let done = sym c.is_done.ensures ∙ c.if-not-is_done.false in
    named_way m done c.in-Some.number c.in-Some.is _ (seated (may_seat_named m done c.in-Some.number c.in-Some.is)))
    c.seat.ensures

pub returns-in-None : goal.returns-in-None
returns-in-None c m = unnamed_way m c.in-None.is
