use Rattle.std.proofs.Common.{sym, ◌∙◌, ap}
use Rattle.std.specs.Option.{option_map}
use Rattle.lock_table.proofs.Keyed.{no_value}
use Rattle.lock_table.proofs.Emptied.{drops_none}
use Rattle.lock_table.proofs.Turning.{found_none}
use Rattle.lock_table.proofs.rings.drop_empty_place.Goals as goal

pub drop_empty_row-requires-clause-there : goal.drop_empty_row-requires-clause-there
drop_empty_row-requires-clause-there c = record { resource = c.args.resource.now; is = c.in-Some.ensures.some }

pub returns-in-Some-clause-drops : goal.returns-in-Some-clause-drops
returns-in-Some-clause-drops c = c.drop_empty_row.ensures.drops c.args.resource.now c.in-Some.ensures.some

pub returns-in_default-clause-drops : goal.returns-in_default-clause-drops
returns-in_default-clause-drops c = drops_none c.args.links.now c.requires c.args.resource.now (λ s e h. no_value s (sym (ap (option_map (λ place. place.row)) (found_none c.args.links.now c.args.resource.now _ c.look_up.ensures c.in_default.is)) ∙ h))
