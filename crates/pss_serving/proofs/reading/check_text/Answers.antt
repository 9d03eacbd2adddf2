use Rattle.std.proofs.Common.{subst}
use Rattle.psdl_tree.specs.Views.{tree_view}
use Rattle.pss_serving.specs.Checked.{IsOneThing}
use Rattle.pss_serving.proofs.OneThing.{any, of_tree}
use Rattle.pss_serving.proofs.reading.check_text.Goals as goal

pub returns-in-Ok-clause-one : goal.returns-in-Ok-clause-one
returns-in-Ok-clause-one c =
    any c.check_tree.result c.args.text (subst IsOneThing c.as_slice.ensures (of_tree c.a_text_has_one_fault.ensures.no_tree c.as_slice.result.now (tree_view c.in-Ok.tree) c.in-Ok.ensures.only))
