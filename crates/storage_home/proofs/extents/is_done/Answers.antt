use Rattle.std.proofs.Common.{Some, sym, ap, ◌∙◌, rules}
use Rattle.storage_home.specs.Blocks.{enters_in}
use Rattle.storage_home.proofs.Places.{same_number}
use Rattle.storage_home.proofs.Marking.{found_is, unmarked_words}
use Rattle.storage_home.proofs.extents.is_done.Goals as goal

pub returns-then-block-eq0 : goal.returns-then-block-eq0
returns-then-block-eq0 c held q =
    ap (λ o. enters_in o q) (sym (found_is c.args.extent.now.entries c.args.serial (search rules) (Some c.in-Some.block.now) c.in-Some.ensures.value)) ∙ unmarked_words c.in-Some.block.now c.if-block-eq0.true (same_number _ 0 held) q
