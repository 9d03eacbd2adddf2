use Rattle.type_layout.proofs.Bases.{means}
use Rattle.type_layout.proofs.descent.descends.Goals as goal

pub returns-clause-meaning : goal.returns-clause-meaning
returns-clause-meaning c = means c.args.schema.now c.args.home c.args.of c.comes_to.result c.comes_to.ensures
