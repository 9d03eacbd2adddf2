use Rattle.std.proofs.Common.{refl}
use Rattle.lock_table.proofs.Telling.{none_whole}
use Rattle.lock_table.proofs.locks.no_links.Goals as goal

pub returns-clause-held : goal.returns-clause-held
returns-clause-held c = (none_whole (record { alloc = c.args.alloc; pool = c.new.result; places = c.none.result; columns = c.empty.result; held = 0 }) c.new.ensures.empty c.none.ensures c.empty.ensures refl c.new.ensures.rings).0

pub returns-clause-whole : goal.returns-clause-whole
returns-clause-whole c = (none_whole (record { alloc = c.args.alloc; pool = c.new.result; places = c.none.result; columns = c.empty.result; held = 0 }) c.new.ensures.empty c.none.ensures c.empty.ensures refl c.new.ensures.rings).1
