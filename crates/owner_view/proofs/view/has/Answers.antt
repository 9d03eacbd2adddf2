use Rattle.std.proofs.Common.{Option, false, ◌==◌, sym, ap}
use Rattle.type_layout.specs.Schemas.{given}
use Rattle.pss_catalog.specs.Catalog.{Object}
use Rattle.owner_view.specs.Overlay.{changes_in}
use Rattle.owner_view.specs.Views.{seen_with}
use Rattle.owner_view.proofs.Viewing.{shows_of, has_seen}
use Rattle.owner_view.proofs.view.has.Goals as goal

pub object_at-requires : goal.object_at-requires
object_at-requires g c = shows_of c.requires

pub returns-in-Some : goal.returns-in-Some
returns-in-Some g c v = has_seen c.args.view.now.schema.now (seen_with v.catalog (changes_in c.args.view.now.overlay.now)) c.args.pid c.in-Some.seen c.home_of.result c.home_of.ensures (c.in-Some.ensures (shows_of v))

pub returns-in-None : goal.returns-in-None
returns-in-None g c v = sym (ap (λ (o : Option Object). given o false (λ object. object.home.0 == c.args.pid.home)) (c.in-None.ensures (shows_of v)))
