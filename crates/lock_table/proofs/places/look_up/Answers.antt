use Rattle.lock_table.proofs.Turning.{found_key, found_value}
use Rattle.lock_table.proofs.places.look_up.Goals as goal

pub returns-in-Some-clause-some : goal.returns-in-Some-clause-some
returns-in-Some-clause-some c = record {
  at = found_key c.args.table.now.entries c.in-Some.at c.args.resource.now c.in-Some.field-0-1.now c.in-Some.place.now c.in-Some.ensures.key c.in-Some.ensures.entry;
  place = found_value c.args.table.now.entries c.args.resource.now c.in-Some.place.now c.in-Some.ensures.value;
}
