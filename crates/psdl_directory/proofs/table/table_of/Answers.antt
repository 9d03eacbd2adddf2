use Rattle.psdl_directory.proofs.Tabled.{one_more}
use Rattle.psdl_directory.proofs.table.table_of.Goals as goal

pub loop-i-preserved : goal.loop-i-preserved
loop-i-preserved c =
    one_more c.loop-i.table c.enter.new.table c.args.keys.now c.loop-i.i c.index-keys-i.result c.loop-i-test.true c.loop-i.invariant (rw (← c.index-keys-i.is, ← c.new.ensures) c.in_ok-enter.ensures)
