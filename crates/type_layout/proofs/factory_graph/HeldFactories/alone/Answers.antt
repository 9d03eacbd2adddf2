use Rattle.std.proofs.Common.{rules}
use Rattle.type_layout.proofs.Searching.{held_alone}
use Rattle.type_layout.proofs.factory_graph.HeldFactories.alone.Goals as goal

pub returns : goal.returns
returns c = held_alone c.in_ok-graph.graph.value c.args.declared (search rules) (search rules)
