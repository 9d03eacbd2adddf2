use Rattle.std.proofs.Common.{◌∙◌}
use Rattle.owner_view.proofs.Roots.{family_by_roots}
use Rattle.owner_view.proofs.ask.are_kin.Goals as goal

pub returns : goal.returns
returns c S sound bases there = c.eq.ensures ∙ family_by_roots S sound c.args.home c.args.of c.root.result c.root-2.result (c.root.ensures S sound bases) (c.root-2.ensures S sound bases) there
