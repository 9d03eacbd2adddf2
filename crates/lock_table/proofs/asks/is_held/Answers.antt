use Rattle.std.proofs.Common.{sym, ap}
use Rattle.std.specs.Option.{option_map}
use Rattle.lock_table.proofs.Rows.{none_held}
use Rattle.lock_table.proofs.Turning.{found_one, found_none}
use Rattle.lock_table.proofs.asks.is_held.Goals as goal

pub is_held_at-requires-clause-row : goal.is_held_at-requires-clause-row
is_held_at-requires-clause-row c =
    c.requires.linked.rows.there c.args.need.now.resource c.in-Some.found.place.row (ap (option_map (λ place. place.row)) (found_one c.args.links.now c.args.need.now.resource c.args.found c.in-Some.found c.requires.found c.in-Some.is).place)

pub returns-in-Some : goal.returns-in-Some
returns-in-Some c = c.is_held_at.ensures c.args.need.now.resource (found_one c.args.links.now c.args.need.now.resource c.args.found c.in-Some.found c.requires.found c.in-Some.is).place

pub returns-in-None : goal.returns-in-None
returns-in-None c = sym (none_held c.args.links.now c.requires.linked c.args.need.now.resource (found_none c.args.links.now c.args.need.now.resource c.args.found c.requires.found c.in-None.is) c.args.owner c.args.need.now.mode)
