use Rattle.recent_table.proofs.Standing.{stands_found}
use Rattle.recent_table.proofs.table.find_place.Goals as goal

pub returns-in-Some : goal.returns-in-Some
returns-in-Some g c = record {
  some = stands_found g.K.PartialEq.eq c.args.table.now.entries c.in-Some.place c.args.key c.in-Some.field-0-1.now c.in-Some.field-0-2.now c.in-Some.ensures.key c.in-Some.ensures.value c.in-Some.ensures.entry;
  none = tt;
}
