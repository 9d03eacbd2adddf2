use Rattle.std.proofs.Common.{Some, refl, subst}
use Rattle.lock_table.specs.inner.Tables.{Turns}
use Rattle.lock_table.specs.inner.Links.{same_owner}
use Rattle.lock_table.proofs.Added.{ready_same, column_added, column_grows}
use Rattle.lock_table.proofs.grants.add_column.Goals as goal

pub returns-in_err-reserve-clause-ready : goal.returns-in_err-reserve-clause-ready
returns-in_err-reserve-clause-ready c locks among ready = ready_same c.args.links.now _ refl refl c.in_err-reserve.ensures.entries refl locks ready

pub returns-in_err-col-clause-ready : goal.returns-in_err-col-clause-ready
returns-in_err-col-clause-ready c locks among ready = ready_same c.args.links.now _ c.in_err-col.ensures.err refl c.in_ok-reserve.ensures.entries refl locks ready

pub returns-clause-grows : goal.returns-clause-grows
returns-clause-grows c =
    column_grows c.args.links.now _ c.args.owner c.in_ok-col.col c.requires c.in_ok-col.ensures.new
    (subst (λ es. Turns same_owner es c.put.new.table.entries c.args.owner (Some c.in_ok-col.col)) c.in_ok-reserve.ensures.entries c.put.ensures) c.in_ok-col.ensures.ok refl refl c.in_ok-col.ensures.rings

pub returns-clause-ready : goal.returns-clause-ready
returns-clause-ready c =
    column_added c.args.links.now _ c.args.owner c.in_ok-col.col c.requires c.in_ok-col.ensures.new
    (subst (λ es. Turns same_owner es c.put.new.table.entries c.args.owner (Some c.in_ok-col.col)) c.in_ok-reserve.ensures.entries c.put.ensures) c.in_ok-col.ensures.ok refl refl c.in_ok-col.ensures.rings
