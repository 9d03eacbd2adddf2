use Rattle.std.proofs.Common.{◌∙◌, ℕ, List, get_or, ap, sym}
use Rattle.psdl_lineage.specs.Descent.{has}
use Rattle.psdl_lineage.specs.inner.SourceTables.{kept_in}
use Rattle.psdl_lineage.proofs.Firsts.{there_at}
use Rattle.psdl_lineage.proofs.Kept.{none_kept}
use Rattle.psdl_lineage.proofs.source_lists.SourceLists.new.Goals as goal

pub loop-number-init : goal.loop-number-init
loop-number-init c =
    record {
      sized = c.order.ensures.sized ∙ c.requires.sized;
      table = none_kept c.args.graph.now c.args.own.now (kept_in c.in_ok-table.table) (c.in_ok-table.ensures.sized ∙ c.len.ensures) c.in_ok-table.ensures.none;
    }

pub add-requires-clause-number : goal.add-requires-clause-number
add-requires-clause-number c =
    let items : List ℕ = c.deref-number-items.result.now in
    let number : ℕ = get_or items c.loop-number.number-index 0 in
    c.in_ok-order.ensures.below number (ap (λ (l : List ℕ). has l number) (sym c.deref-number-items.ensures.value) ∙ there_at items c.loop-number.number-index c.loop-number-test.true)
