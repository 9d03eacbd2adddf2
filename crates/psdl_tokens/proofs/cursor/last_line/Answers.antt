use Rattle.std.proofs.Common.{arith}
use Rattle.std.proofs.lemmas.Bool.{ne_eqb}
use Rattle.psdl_tokens.proofs.Placing.{last_line-start, last_line-more}
use Rattle.psdl_tokens.proofs.cursor.last_line.Goals as goal
use Rattle.psdl_tokens.proofs.cursor.last_line.Goals.{then-byte-eq10, else-byte-eq10}

pub loop-i-preserved : goal.loop-i-preserved
loop-i-preserved c =
    elim c.if-byte-eq10.branch [
      | then-byte-eq10 w ↦ (omega arith, rw w.start-is (last_line-start c.args.front.now c.loop-i.i c.loop-i-test.true w.if-byte-eq10.true))
      | else-byte-eq10 w ↦ (omega arith, rw w.start-is (last_line-more c.args.front.now c.loop-i.i c.loop-i.start c.loop-i-test.true c.loop-i.invariant.0 (ne_eqb _ 10 w.if-byte-eq10.false) c.loop-i.invariant.1))
    ]
