use Rattle.std.proofs.Common.{Option, None, Some, ◌==◌, sym, ap, subst}
use Rattle.std.specs.Prelude.{if◌then◌else◌}
use Rattle.type_layout.specs.Schemas.{given}
use Rattle.pss_catalog.specs.Catalog.{Object}
use Rattle.owner_view.specs.Stored.{IsSeenAs}
use Rattle.owner_view.proofs.Viewing.{shows_of}
use Rattle.owner_view.proofs.view.object_of.Goals as goal

pub object_at-requires : goal.object_at-requires
object_at-requires g c = shows_of c.requires

pub returns-in-Some : goal.returns-in-Some
returns-in-Some g c v =
    let there = c.in-Some.ensures (shows_of v) in
    subst (λ (o : Option Object). IsSeenAs c.args.view.now.schema.now (given o None (λ object. if object.home.0 == c.args.pid.home then Some object else None)) c.of_home.result) (sym there.1) (c.of_home.ensures c.args.view.now.schema.now there.0 there.2 there.3)

pub returns-in-None : goal.returns-in-None
returns-in-None g c v = ap (λ (o : Option Object). given o None (λ object. if object.home.0 == c.args.pid.home then Some object else None)) (c.in-None.ensures (shows_of v))
