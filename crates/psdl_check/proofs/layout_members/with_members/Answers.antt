use Rattle.std.proofs.Common.{◌∙◌}
use Rattle.psdl_check.specs.inner.Lists.{homes_in}
use Rattle.psdl_check.proofs.Membered.{lines_behind}
use Rattle.psdl_check.proofs.layout_members.with_members.Goals as goal

pub returns : goal.returns
returns c = c.with_lines.ensures ∙ lines_behind c.args.types.now (homes_in c.args.referents.now) c.with.result.0 c.args.front.0 c.args.members.now c.with.ensures
