use Rattle.key_index.proofs.Turning.{place_turned, none_stands}
use Rattle.key_index.proofs.slots.write_short.Goals as goal

pub returns-in-Some : goal.returns-in-Some
returns-in-Some c = place_turned c.args.table.now c.known_place-place.result c.args.key.now c.in-Some.there.now c.args.slot c.in-Some.ensures.unique c.known_place-place.ensures c.in-Some.ensures.value

pub returns-in_default : goal.returns-in_default
returns-in_default c = absurd (none_stands c.args.table.now.entries c.known_place-place.result c.args.key.now c.known_place-place.ensures c.in_default.ensures.value)
