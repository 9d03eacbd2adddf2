use Rattle.std.proofs.Common.{◌&&◌, ◌+◌, ◌∙◌, ap, sym, map, drop, arith}
use Rattle.type_layout.specs.Types.{values_of}
use Rattle.type_layout.specs.Views.{plain_value}
use Rattle.pss_catalog.specs.Catalog.{all_references}
use Rattle.pss_recovery.specs.inner.Below.{are_given}
use Rattle.pss_recovery.proofs.Givens.{given_there, sizes_there}
use Rattle.pss_recovery.proofs.references.+refers.Goals as goal

pub all_refer_below-returns-then-not-refers_below : goal.all_refer_below-returns-then-not-refers_below
all_refer_below-returns-then-not-refers_below t c =
    let rest = are_given c.args.next (all_references (values_of (map plain_value (drop (c.loop-value.value-index + 1) c.args.values.now)))) in
    ap (λ b. b && rest) (sym c.if-not-refers_below.true ∙ c.refers_below.ensures) ∙ sym (given_there c.args.values.now c.loop-value.value-index c.value-item.result c.loop-value-test.true c.value-item.is c.args.next) ∙ c.loop-value.invariant.1

pub all_refer_below-loop-value-preserved : goal.all_refer_below-loop-value-preserved
all_refer_below-loop-value-preserved t c =
    let rest = are_given c.args.next (all_references (values_of (map plain_value (drop (c.loop-value.value-index + 1) c.args.values.now)))) in (
      omega (arith, c.loop-value.invariant.0, sizes_there c.args.values.now c.loop-value.value-index c.value-item.result c.loop-value-test.true c.value-item.is),
      ap (λ b. b && rest) (sym c.if-not-refers_below.false ∙ c.refers_below.ensures) ∙ sym (given_there c.args.values.now c.loop-value.value-index c.value-item.result c.loop-value-test.true c.value-item.is c.args.next) ∙ c.loop-value.invariant.1,
    )
