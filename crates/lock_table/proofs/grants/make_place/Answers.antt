use Rattle.std.proofs.Common.{sym, subst, ap, ◌∙◌}
use Rattle.std.specs.Prelude.{Contains}
use Rattle.lock_table.specs.inner.Links.{resources, place_at}
use Rattle.lock_table.proofs.Turning.{found_one, found_none}
use Rattle.lock_table.proofs.grants.make_place.Goals as goal

pub returns-in-Some-clause-ok : goal.returns-in-Some-clause-ok
returns-in-Some-clause-ok c = found_one c.args.links.now c.args.resource.now c.args.found c.in-Some.found c.requires c.in-Some.is

pub add_place-requires : goal.add_place-requires
add_place-requires c = ap (place_at c.args.links.now) c.in_ok-copy-in-None.ensures ∙ found_none c.args.links.now c.args.resource.now c.args.found c.requires c.in-None.is

pub returns-in_ok-copy-in-None-clause-ready : goal.returns-in_ok-copy-in-None-clause-ready
returns-in_ok-copy-in-None-clause-ready c locks among ready = c.add_place.ensures.ready locks (subst (Contains (resources locks)) (sym c.in_ok-copy-in-None.ensures) among) ready
