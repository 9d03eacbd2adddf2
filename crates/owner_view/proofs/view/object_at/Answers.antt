use Rattle.std.proofs.Common.{sym, Some, None, refl}
use Rattle.owner_view.specs.Overlay.{changes_in}
use Rattle.owner_view.specs.Seen.{plain_object}
use Rattle.owner_view.proofs.Viewing.{untouched, touched}
use Rattle.owner_view.proofs.view.object_at.Goals as goal

pub returns-in-Untouched : goal.returns-in-Untouched
returns-in-Untouched g c v = untouched c.args.view.now.schema.now v.catalog (changes_in c.args.view.now.overlay.now) c.args.serial c.stored_at.result (sym c.in-Untouched.ensures) (c.stored_at.ensures c.args.view.now.schema.now v.catalog v.shown)

pub returns-in-Gone : goal.returns-in-Gone
returns-in-Gone g c v = touched v.catalog (changes_in c.args.view.now.overlay.now) c.args.serial None (sym c.in-Gone.ensures)

pub returns-in-There : goal.returns-in-There
returns-in-There g c v =
    let there = sym c.in-There.ensures in
    (plain_object c.in-There.object.now, touched v.catalog (changes_in c.args.view.now.overlay.now) c.args.serial (Some (plain_object c.in-There.object.now)) there, v.fits c.args.serial (plain_object c.in-There.object.now) there, refl)
