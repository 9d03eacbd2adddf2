use Rattle.std.proofs.Common.{sym}
use Rattle.psdl_directory.specs.inner.Tables.{found}
use Rattle.psdl_directory.proofs.Tabled.{entered, stays}
use Rattle.psdl_directory.proofs.table.enter.Goals as goal

pub returns-in-Some : goal.returns-in-Some
returns-in-Some c = stays (found c.args.table.now) c.args.key c.args.number _ (sym c.in-Some.ensures.value)

pub returns-in_ok-insert-in-None : goal.returns-in_ok-insert-in-None
returns-in_ok-insert-in-None c = entered (found c.args.table.now) (found c.insert.new.self) c.args.key c.args.number (sym c.in-None.ensures.value) c.in_ok-insert-in-None.ensures.updates.0
