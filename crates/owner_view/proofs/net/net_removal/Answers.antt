use Rattle.std.proofs.Common.{Option, None, not, ap}
use Rattle.pss_catalog.specs.Catalog.{Object}
use Rattle.pss_machine.specs.Same.{same_state}
use Rattle.owner_view.proofs.Viewing.{shown_at}
use Rattle.owner_view.proofs.net.net_removal.Goals as goal

pub returns-in-Ok : goal.returns-in-Ok
returns-in-Ok g c v =
    let S = c.args.view.now.schema.now in
    let there = c.in-Some.ensures S v.catalog v.shown in
    (ap (λ (o : Option Object). not (same_state None o)) there.1, c.in-Ok.ensures (shown_at S v.catalog c.args.serial c.in-Some.seen there) v.catalog there.1)
