use Rattle.std.proofs.Common.{ap, ◌∙◌}
use Rattle.std.specs.Option.{option_map}
use Rattle.lock_table.proofs.Blocking.{row_blocker, none_blocker}
use Rattle.lock_table.proofs.asks.blocker_of_one.Goals as goal

pub least_against-requires : goal.least_against-requires
least_against-requires c = c.requires.rows.there c.args.need.now.resource c.in-Some.found.place.row (ap (option_map (λ place. place.row)) c.in-Some.ensures.some.place)

pub returns-in-Some : goal.returns-in-Some
returns-in-Some c = c.least_against.ensures ∙ row_blocker c.args.links.now c.requires c.args.need.now c.in-Some.found.place.row (ap (option_map (λ place. place.row)) c.in-Some.ensures.some.place) c.args.owner

pub returns-in-None : goal.returns-in-None
returns-in-None c = none_blocker c.args.links.now c.requires c.args.need.now c.in-None.ensures.none c.args.owner
