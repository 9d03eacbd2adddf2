use Rattle.std.proofs.Common.{Some, refl, subst}
use Rattle.pss_machine.specs.Needs.{same_resource}
use Rattle.lock_table.specs.inner.Tables.{Turns}
use Rattle.lock_table.proofs.Added.{ready_same, place_added, place_grows}
use Rattle.lock_table.proofs.grants.add_place.Goals as goal

pub returns-in_err-reserve-clause-ready : goal.returns-in_err-reserve-clause-ready
returns-in_err-reserve-clause-ready c locks among ready = ready_same c.args.links.now _ refl c.in_err-reserve.ensures.entries refl refl locks ready

pub returns-in_err-row-clause-ready : goal.returns-in_err-row-clause-ready
returns-in_err-row-clause-ready c locks among ready = ready_same c.args.links.now _ c.in_err-row.ensures.err c.in_ok-reserve.ensures.entries refl refl locks ready

pub returns-clause-grows : goal.returns-clause-grows
returns-clause-grows c =
    place_grows c.args.links.now _ c.args.resource c.in_ok-row.row c.requires c.in_ok-row.ensures.new
    (subst (λ es. Turns same_resource es c.put-at.new.places.table.entries c.args.resource (Some (record { row = c.in_ok-row.row; locks = 0 }))) c.in_ok-reserve.ensures.entries c.put-at.ensures.turns) c.in_ok-row.ensures.ok refl refl c.in_ok-row.ensures.rings

pub returns-clause-ready : goal.returns-clause-ready
returns-clause-ready c =
    place_added c.args.links.now _ c.args.resource c.in_ok-row.row c.requires c.in_ok-row.ensures.new
    (subst (λ es. Turns same_resource es c.put-at.new.places.table.entries c.args.resource (Some (record { row = c.in_ok-row.row; locks = 0 }))) c.in_ok-reserve.ensures.entries c.put-at.ensures.turns) c.in_ok-row.ensures.ok refl refl c.in_ok-row.ensures.rings

pub returns-clause-ok : goal.returns-clause-ok
returns-clause-ok c = record { at = c.put-at.ensures.at; place = c.put-at.ensures.turns.here }
