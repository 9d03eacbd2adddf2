use Rattle.std.proofs.Common.{arith}
use Rattle.lock_table.proofs.Emptied.{drops_none, row_bare, row_full}
use Rattle.lock_table.proofs.rings.drop_empty_row.Goals as goal

pub remove_place-requires : goal.remove_place-requires
remove_place-requires c = row_bare c.args.links.now c.requires.linked c.requires.there.resource c.args.found.place c.requires.there.is.place (omega arith)

pub returns-then-found-eq0-clause-drops : goal.returns-then-found-eq0-clause-drops
returns-then-found-eq0-clause-drops c resource found = c.remove_place.ensures.drops resource c.requires.linked found

pub returns-else-found-eq0-clause-drops : goal.returns-else-found-eq0-clause-drops
returns-else-found-eq0-clause-drops c resource found = drops_none c.args.links.now c.requires.linked resource (row_full c.args.links.now c.requires.linked resource c.args.found.place found.place (λ e. omega (arith, e)))
