use Rattle.std.proofs.Common.{◌∙◌}
use Rattle.psdl_lineage.proofs.Idle.{idle}
use Rattle.psdl_lineage.proofs.Reaching.{alone}
use Rattle.psdl_lineage.proofs.ancestry.ancestry.Goals as goal

pub run-requires-clause-idle : goal.run-requires-clause-idle
run-requires-clause-idle c =
    idle c.args.graph.now c.args.marks.now c.clear.new.self c.new-walk.result c.requires.sized c.clear.ensures c.new-walk.ensures.way c.new-walk.ensures.found

pub returns-clause-ancestry : goal.returns-clause-ancestry
returns-clause-ancestry c =
    c.into_found.ensures ∙ c.in_ok-run.ensures.found ∙ alone c.args.graph.now c.new-walk.result.found.items c.args.number c.new-walk.ensures.found
