use Rattle.std.proofs.Common.{◌∙◌}
use Rattle.psdl_tree.specs.Views.{tree_view}
use Rattle.psdl_syntax.proofs.Parsed.{behind_tree, not_deep}
use Rattle.psdl_syntax.proofs.parsing.parse.Goals as goal

pub returns-in-Ok-clause-fault : goal.returns-in-Ok-clause-fault
returns-in-Ok-clause-fault c =
    c.no_token.ensures c.args.text.now
    (behind_tree c.args.text.now c.deref.result.now (c.deref.ensures.value ∙ c.in_ok-scanned.ensures.tokens)
    c.in_ok-scanned.scanned.fault c.in-Some.fault (tree_view c.in-Ok.tree) c.if-text-gt-MOST_BYTES.false c.in_ok-scanned.ensures.fault c.in-Some.is
    c.in-Ok.ensures.found c.in-Ok.ensures.room)

pub returns-in-Err-Fault-TooDeep-clause-only : goal.returns-in-Err-Fault-TooDeep-clause-only
returns-in-Err-Fault-TooDeep-clause-only c tree is =
    absurd
    (not_deep c.args.text.now c.deref.result.now (c.deref.ensures.value ∙ c.in_ok-scanned.ensures.tokens)
    c.in-Err-Fault-TooDeep.left tree (rw (c.in-Err-Fault-TooDeep.field-0-is, c.in-Err-Fault-TooDeep.field-0-0-is) at c.in-Err-Fault-TooDeep.ensures.deep) is)
