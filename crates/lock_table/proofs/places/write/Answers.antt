use Rattle.lock_table.proofs.Turning.{written_there, keys_stand, none_there}
use Rattle.lock_table.proofs.places.write.Goals as goal

pub returns-in-Some-clause-turns : goal.returns-in-Some-clause-turns
returns-in-Some-clause-turns c resource is = written_there c.args.places.now.table c.args.at resource c.in-Some.there.now c.args.place c.in-Some.ensures.unique is c.in-Some.ensures.value

pub returns-in-Some-clause-stand : goal.returns-in-Some-clause-stand
returns-in-Some-clause-stand c n = keys_stand c.args.places.now.table.entries c.args.at n c.args.place

pub returns-in_default-clause-turns : goal.returns-in_default-clause-turns
returns-in_default-clause-turns c resource is = absurd (none_there c.args.places.now.table.entries c.args.at resource is c.in_default.ensures.value)
