use Rattle.key_index.proofs.Turning.{found_key}
use Rattle.key_index.proofs.slots.known_place.Goals as goal

pub returns : goal.returns
returns c = found_key c.args.table.now.entries c.in-Some.place c.args.key.now c.in-Some.field-0-1.now c.in-Some.field-0-2.now c.in-Some.ensures.key c.in-Some.ensures.entry
