use Rattle.std.proofs.Common.{◌∙◌, [], ap, rules}
use Rattle.type_layout.specs.Factories.{first_of_each, same_declared}
use Rattle.psdl_lineage.specs.Lineages.{text_of}
use Rattle.psdl_check.proofs.Declared.{held_are}
use Rattle.psdl_check.proofs.home_factories.HomeFactories.of.Goals as goal

pub returns : goal.returns
returns c =
    ap (first_of_each same_declared []) (search rules) ∙ held_are (text_of c.args.self.now.lineage.now) c.args.self.now.graph.value c.args.home c.args.self.now.had c.args.self.now.rising
