use Rattle.std.proofs.Common.{rules}
use Rattle.psdl_lineage.specs.Lineages.{text_of}
use Rattle.psdl_check.proofs.Declared.{are_declared}
use Rattle.psdl_check.proofs.home_factories.graph_with.Goals as goal

pub returns : goal.returns
returns c = are_declared (text_of c.args.lineage.now) c.in_ok-shared.shared.value (search rules) (search rules)
