use Rattle.std.proofs.Common.{◌∙◌}
use Rattle.psdl_lineage.proofs.Idle.{idle}
use Rattle.psdl_lineage.proofs.Reaching.{alone}
use Rattle.psdl_lineage.proofs.lines.begun.Goals as goal

pub begin-requires-clause-idle : goal.begin-requires-clause-idle
begin-requires-clause-idle c =
    idle c.args.graph.now c.args.marks.now c.clear.new.self c.new-walk.result c.requires.sized c.clear.ensures c.new-walk.ensures.way c.new-walk.ensures.found

pub returns-clause-lines : goal.returns-clause-lines
returns-clause-lines c =
    record {
      on = c.in_ok-begin.ensures.on;
      ends = c.in_ok-begin.ensures.same ∙ alone c.args.graph.now c.new-walk.result.found.items c.args.from c.new-walk.ensures.found;
    }
