use Rattle.std.proofs.Common.{ap, sym, subst}
use Rattle.owner_view.specs.Sized.{AreSized}
use Rattle.owner_view.specs.States.{state_at}
use Rattle.owner_view.specs.declared.states.Slot.TheVariants as slot
use Rattle.owner_view.proofs.Lengths.{sized_turned}
use Rattle.owner_view.proofs.Ordered.{reserved_keeps, slot_reserved}
use Rattle.owner_view.proofs.Outcomes.{on_ok, on_both}
use Rattle.owner_view.proofs.states.reserve.Goals as goal

pub returns-in-None-clause-kept : goal.returns-in-None-clause-kept
returns-in-None-clause-kept c =
    on_both c.insert.result (reserved_keeps c.args.states.now c.insert.new.self c.args.serial (sym c.in-None.ensures)) (λ same q. ap (state_at q) same) c.insert.ensures.ok c.insert.ensures.err

pub returns-in-None-clause-sized : goal.returns-in-None-clause-sized
returns-in-None-clause-sized c S all =
    on_both c.insert.result (λ turned. sized_turned S c.args.states.now c.insert.new.self c.args.serial slot.Reserved turned all tt) (λ same. subst (AreSized S) (sym same) all) c.insert.ensures.ok c.insert.ensures.err

pub returns-in-None-clause-ok : goal.returns-in-None-clause-ok
returns-in-None-clause-ok c = on_ok c.insert.result (slot_reserved c.args.states.now c.insert.new.self c.args.serial) c.insert.ensures.ok
