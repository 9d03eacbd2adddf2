use Rattle.std.proofs.Common.{◌∙◌, ap, refl, map}
use Rattle.psdl_tree.specs.declared.expressions.Primary.TheViews as nodes
use Rattle.psdl_tree.specs.Trees.{Product, Sum, Shift, And, Xor, Expression}
use Rattle.psdl_tree.specs.Views as views
use Rattle.psdl_tree.proofs.Opened as levels
use Rattle.psdl_standings.specs.Expressions as expressions
use Rattle.psdl_standings.specs.Values as values
use Rattle.psdl_standings.specs.inner.Assessments.{seen}
use Rattle.psdl_standings.specs.inner.Sights.{scene_of, value_at}
use Rattle.psdl_standings.proofs.Assessing as assessing
use Rattle.psdl_standings.proofs.Operands as operands
use Rattle.psdl_standings.proofs.assess.+levels.Goals as goal

pub product-loop-part-init : goal.product-loop-part-init
product-loop-part-init t c =
    let s = scene_of c.args.sight.now in
    let env = value_at s in
    let x = c.args.node.now in
    record {
      value =
          assessing.begins views.product_part_view (assessing.product_part env c.args.width) c.deref-part-items.result.now (nodes.out-Product x).others.items (seen (values.unary env c.args.width (views.unary_view (nodes.out-Product x).first))) _ _
          c.in_ok-so_far.ensures.value c.deref-part-items.ensures.value
          (ap (λ (p : Product). seen (values.product env c.args.width p)) (levels.product_opened x) ∙ assessing.product_folded env c.args.width (views.unary_view (nodes.out-Product x).first) (map views.product_part_view (nodes.out-Product x).others.items));
      noted =
          operands.notes_begin s views.product_part_view operands.product_operands c.deref-part-items.result.now (nodes.out-Product x).others.items c.args.faults.now _ (expressions.in_unary (views.unary_view (nodes.out-Product x).first)) _
          c.in_ok-so_far.ensures.faults c.deref-part-items.ensures.value
          (ap (λ (p : Product). expressions.in_product p) (levels.product_opened x) ∙ operands.product_parts (views.unary_view (nodes.out-Product x).first) (map views.product_part_view (nodes.out-Product x).others.items));
    }

pub product-loop-part-preserved : goal.product-loop-part-preserved
product-loop-part-preserved t c =
    let s = scene_of c.args.sight.now in
    record {
      value =
          assessing.goes_on views.product_part_view (assessing.product_part (value_at s) c.args.width) c.deref-part-items.result.now c.loop-part.part-index c.part-item.result c.loop-part.so_far _ _ c.loop-part-test.true c.part-item.is c.loop-part.invariant.value
          (rw (levels.product_part_opened c.part-item.result) (c.operated-so_far.ensures ∙ rw (c.product_operator.ensures, c.in_ok-next.ensures.value) refl));
      noted =
          operands.notes_go_on s views.product_part_view operands.product_operands c.deref-part-items.result.now c.loop-part.part-index c.part-item.result c.loop-part.faults _ _ c.loop-part-test.true c.part-item.is c.loop-part.invariant.noted
          (rw (levels.product_part_opened c.part-item.result) c.in_ok-next.ensures.faults);
    }

pub product-returns-clause-value : goal.product-returns-clause-value
product-returns-clause-value t c =
    assessing.ends views.product_part_view (assessing.product_part (value_at (scene_of c.args.sight.now)) c.args.width) c.deref-part-items.result.now c.loop-part.part-index c.loop-part.so_far _ c.loop-part-test.false c.loop-part.invariant.value

pub product-returns-clause-faults : goal.product-returns-clause-faults
product-returns-clause-faults t c =
    operands.notes_end (scene_of c.args.sight.now) views.product_part_view operands.product_operands c.deref-part-items.result.now c.loop-part.part-index c.loop-part.faults _ c.loop-part-test.false c.loop-part.invariant.noted

pub sum-loop-part-init : goal.sum-loop-part-init
sum-loop-part-init t c =
    let s = scene_of c.args.sight.now in
    let env = value_at s in
    let x = c.args.node.now in
    record {
      value =
          assessing.begins views.sum_part_view (assessing.sum_part env c.args.width) c.deref-part-items.result.now (nodes.out-Sum x).others.items (seen (values.product env c.args.width (views.product_view (nodes.out-Sum x).first))) _ _
          c.in_ok-so_far.ensures.value c.deref-part-items.ensures.value
          (ap (λ (p : Sum). seen (values.sum env c.args.width p)) (levels.sum_opened x) ∙ assessing.sum_folded env c.args.width (views.product_view (nodes.out-Sum x).first) (map views.sum_part_view (nodes.out-Sum x).others.items));
      noted =
          operands.notes_begin s views.sum_part_view operands.sum_operands c.deref-part-items.result.now (nodes.out-Sum x).others.items c.args.faults.now _ (expressions.in_product (views.product_view (nodes.out-Sum x).first)) _
          c.in_ok-so_far.ensures.faults c.deref-part-items.ensures.value
          (ap (λ (p : Sum). expressions.in_sum p) (levels.sum_opened x) ∙ operands.sum_parts (views.product_view (nodes.out-Sum x).first) (map views.sum_part_view (nodes.out-Sum x).others.items));
    }

pub sum-loop-part-preserved : goal.sum-loop-part-preserved
sum-loop-part-preserved t c =
    let s = scene_of c.args.sight.now in
    record {
      value =
          assessing.goes_on views.sum_part_view (assessing.sum_part (value_at s) c.args.width) c.deref-part-items.result.now c.loop-part.part-index c.part-item.result c.loop-part.so_far _ _ c.loop-part-test.true c.part-item.is c.loop-part.invariant.value
          (rw (levels.sum_part_opened c.part-item.result) (c.operated-so_far.ensures ∙ rw (c.sum_operator.ensures, c.in_ok-next.ensures.value) refl));
      noted =
          operands.notes_go_on s views.sum_part_view operands.sum_operands c.deref-part-items.result.now c.loop-part.part-index c.part-item.result c.loop-part.faults _ _ c.loop-part-test.true c.part-item.is c.loop-part.invariant.noted
          (rw (levels.sum_part_opened c.part-item.result) c.in_ok-next.ensures.faults);
    }

pub sum-returns-clause-value : goal.sum-returns-clause-value
sum-returns-clause-value t c =
    assessing.ends views.sum_part_view (assessing.sum_part (value_at (scene_of c.args.sight.now)) c.args.width) c.deref-part-items.result.now c.loop-part.part-index c.loop-part.so_far _ c.loop-part-test.false c.loop-part.invariant.value

pub sum-returns-clause-faults : goal.sum-returns-clause-faults
sum-returns-clause-faults t c =
    operands.notes_end (scene_of c.args.sight.now) views.sum_part_view operands.sum_operands c.deref-part-items.result.now c.loop-part.part-index c.loop-part.faults _ c.loop-part-test.false c.loop-part.invariant.noted

pub shift-loop-part-init : goal.shift-loop-part-init
shift-loop-part-init t c =
    let s = scene_of c.args.sight.now in
    let env = value_at s in
    let x = c.args.node.now in
    record {
      value =
          assessing.begins views.shift_part_view (assessing.shift_part env c.args.width) c.deref-part-items.result.now (nodes.out-Shift x).others.items (seen (values.sum env c.args.width (views.sum_view (nodes.out-Shift x).first))) _ _
          c.in_ok-so_far.ensures.value c.deref-part-items.ensures.value
          (ap (λ (p : Shift). seen (values.shift env c.args.width p)) (levels.shift_opened x) ∙ assessing.shift_folded env c.args.width (views.sum_view (nodes.out-Shift x).first) (map views.shift_part_view (nodes.out-Shift x).others.items));
      noted =
          operands.notes_begin s views.shift_part_view operands.shift_operands c.deref-part-items.result.now (nodes.out-Shift x).others.items c.args.faults.now _ (expressions.in_sum (views.sum_view (nodes.out-Shift x).first)) _
          c.in_ok-so_far.ensures.faults c.deref-part-items.ensures.value
          (ap (λ (p : Shift). expressions.in_shift p) (levels.shift_opened x) ∙ operands.shift_parts (views.sum_view (nodes.out-Shift x).first) (map views.shift_part_view (nodes.out-Shift x).others.items));
    }

pub shift-loop-part-preserved : goal.shift-loop-part-preserved
shift-loop-part-preserved t c =
    let s = scene_of c.args.sight.now in
    record {
      value =
          assessing.goes_on views.shift_part_view (assessing.shift_part (value_at s) c.args.width) c.deref-part-items.result.now c.loop-part.part-index c.part-item.result c.loop-part.so_far _ _ c.loop-part-test.true c.part-item.is c.loop-part.invariant.value
          (rw (levels.shift_part_opened c.part-item.result) (c.operated-so_far.ensures ∙ rw (c.shift_operator.ensures, c.in_ok-next.ensures.value) refl));
      noted =
          operands.notes_go_on s views.shift_part_view operands.shift_operands c.deref-part-items.result.now c.loop-part.part-index c.part-item.result c.loop-part.faults _ _ c.loop-part-test.true c.part-item.is c.loop-part.invariant.noted
          (rw (levels.shift_part_opened c.part-item.result) c.in_ok-next.ensures.faults);
    }

pub shift-returns-clause-value : goal.shift-returns-clause-value
shift-returns-clause-value t c =
    assessing.ends views.shift_part_view (assessing.shift_part (value_at (scene_of c.args.sight.now)) c.args.width) c.deref-part-items.result.now c.loop-part.part-index c.loop-part.so_far _ c.loop-part-test.false c.loop-part.invariant.value

pub shift-returns-clause-faults : goal.shift-returns-clause-faults
shift-returns-clause-faults t c =
    operands.notes_end (scene_of c.args.sight.now) views.shift_part_view operands.shift_operands c.deref-part-items.result.now c.loop-part.part-index c.loop-part.faults _ c.loop-part-test.false c.loop-part.invariant.noted

pub and-loop-part-init : goal.and-loop-part-init
and-loop-part-init t c =
    let s = scene_of c.args.sight.now in
    let env = value_at s in
    let x = c.args.node.now in
    record {
      value =
          assessing.begins views.and_part_view (assessing.and_part env c.args.width) c.deref-part-items.result.now (nodes.out-And x).others.items (seen (values.shift env c.args.width (views.shift_view (nodes.out-And x).first))) _ _
          c.in_ok-so_far.ensures.value c.deref-part-items.ensures.value
          (ap (λ (p : And). seen (values.and env c.args.width p)) (levels.and_opened x) ∙ assessing.and_folded env c.args.width (views.shift_view (nodes.out-And x).first) (map views.and_part_view (nodes.out-And x).others.items));
      noted =
          operands.notes_begin s views.and_part_view operands.and_operands c.deref-part-items.result.now (nodes.out-And x).others.items c.args.faults.now _ (expressions.in_shift (views.shift_view (nodes.out-And x).first)) _
          c.in_ok-so_far.ensures.faults c.deref-part-items.ensures.value
          (ap (λ (p : And). expressions.in_and p) (levels.and_opened x) ∙ operands.and_parts (views.shift_view (nodes.out-And x).first) (map views.and_part_view (nodes.out-And x).others.items));
    }

pub and-loop-part-preserved : goal.and-loop-part-preserved
and-loop-part-preserved t c =
    let s = scene_of c.args.sight.now in
    record {
      value =
          assessing.goes_on views.and_part_view (assessing.and_part (value_at s) c.args.width) c.deref-part-items.result.now c.loop-part.part-index c.part-item.result c.loop-part.so_far _ _ c.loop-part-test.true c.part-item.is c.loop-part.invariant.value
          (rw (levels.and_part_opened c.part-item.result) (c.operated-so_far.ensures ∙ rw (c.in_ok-next.ensures.value) refl));
      noted =
          operands.notes_go_on s views.and_part_view operands.and_operands c.deref-part-items.result.now c.loop-part.part-index c.part-item.result c.loop-part.faults _ _ c.loop-part-test.true c.part-item.is c.loop-part.invariant.noted
          (rw (levels.and_part_opened c.part-item.result) c.in_ok-next.ensures.faults);
    }

pub and-returns-clause-value : goal.and-returns-clause-value
and-returns-clause-value t c =
    assessing.ends views.and_part_view (assessing.and_part (value_at (scene_of c.args.sight.now)) c.args.width) c.deref-part-items.result.now c.loop-part.part-index c.loop-part.so_far _ c.loop-part-test.false c.loop-part.invariant.value

pub and-returns-clause-faults : goal.and-returns-clause-faults
and-returns-clause-faults t c =
    operands.notes_end (scene_of c.args.sight.now) views.and_part_view operands.and_operands c.deref-part-items.result.now c.loop-part.part-index c.loop-part.faults _ c.loop-part-test.false c.loop-part.invariant.noted

pub xor-loop-part-init : goal.xor-loop-part-init
xor-loop-part-init t c =
    let s = scene_of c.args.sight.now in
    let env = value_at s in
    let x = c.args.node.now in
    record {
      value =
          assessing.begins views.xor_part_view (assessing.xor_part env c.args.width) c.deref-part-items.result.now (nodes.out-Xor x).others.items (seen (values.and env c.args.width (views.and_view (nodes.out-Xor x).first))) _ _
          c.in_ok-so_far.ensures.value c.deref-part-items.ensures.value
          (ap (λ (p : Xor). seen (values.xor env c.args.width p)) (levels.xor_opened x) ∙ assessing.xor_folded env c.args.width (views.and_view (nodes.out-Xor x).first) (map views.xor_part_view (nodes.out-Xor x).others.items));
      noted =
          operands.notes_begin s views.xor_part_view operands.xor_operands c.deref-part-items.result.now (nodes.out-Xor x).others.items c.args.faults.now _ (expressions.in_and (views.and_view (nodes.out-Xor x).first)) _
          c.in_ok-so_far.ensures.faults c.deref-part-items.ensures.value
          (ap (λ (p : Xor). expressions.in_xor p) (levels.xor_opened x) ∙ operands.xor_parts (views.and_view (nodes.out-Xor x).first) (map views.xor_part_view (nodes.out-Xor x).others.items));
    }

pub xor-loop-part-preserved : goal.xor-loop-part-preserved
xor-loop-part-preserved t c =
    let s = scene_of c.args.sight.now in
    record {
      value =
          assessing.goes_on views.xor_part_view (assessing.xor_part (value_at s) c.args.width) c.deref-part-items.result.now c.loop-part.part-index c.part-item.result c.loop-part.so_far _ _ c.loop-part-test.true c.part-item.is c.loop-part.invariant.value
          (rw (levels.xor_part_opened c.part-item.result) (c.operated-so_far.ensures ∙ rw (c.in_ok-next.ensures.value) refl));
      noted =
          operands.notes_go_on s views.xor_part_view operands.xor_operands c.deref-part-items.result.now c.loop-part.part-index c.part-item.result c.loop-part.faults _ _ c.loop-part-test.true c.part-item.is c.loop-part.invariant.noted
          (rw (levels.xor_part_opened c.part-item.result) c.in_ok-next.ensures.faults);
    }

pub xor-returns-clause-value : goal.xor-returns-clause-value
xor-returns-clause-value t c =
    assessing.ends views.xor_part_view (assessing.xor_part (value_at (scene_of c.args.sight.now)) c.args.width) c.deref-part-items.result.now c.loop-part.part-index c.loop-part.so_far _ c.loop-part-test.false c.loop-part.invariant.value

pub xor-returns-clause-faults : goal.xor-returns-clause-faults
xor-returns-clause-faults t c =
    operands.notes_end (scene_of c.args.sight.now) views.xor_part_view operands.xor_operands c.deref-part-items.result.now c.loop-part.part-index c.loop-part.faults _ c.loop-part-test.false c.loop-part.invariant.noted

pub assess-loop-part-init : goal.assess-loop-part-init
assess-loop-part-init t c =
    let s = scene_of c.args.sight.now in
    let env = value_at s in
    let x = c.args.node.now in
    record {
      value =
          assessing.begins views.or_part_view (assessing.assessed_part env c.args.width) c.deref-part-items.result.now (nodes.out-Expression x).others.items (seen (values.xor env c.args.width (views.xor_view (nodes.out-Expression x).first))) _ _
          c.in_ok-so_far.ensures.value c.deref-part-items.ensures.value
          (ap (λ (p : Expression). seen (values.assessed env c.args.width p)) (levels.expression_opened x) ∙ assessing.assessed_folded env c.args.width (views.xor_view (nodes.out-Expression x).first) (map views.or_part_view (nodes.out-Expression x).others.items));
      noted =
          operands.notes_begin s views.or_part_view operands.expression_operands c.deref-part-items.result.now (nodes.out-Expression x).others.items c.args.faults.now _ (expressions.in_xor (views.xor_view (nodes.out-Expression x).first)) _
          c.in_ok-so_far.ensures.faults c.deref-part-items.ensures.value
          (ap (λ (p : Expression). expressions.operands p) (levels.expression_opened x) ∙ operands.expression_parts (views.xor_view (nodes.out-Expression x).first) (map views.or_part_view (nodes.out-Expression x).others.items));
    }

pub assess-loop-part-preserved : goal.assess-loop-part-preserved
assess-loop-part-preserved t c =
    let s = scene_of c.args.sight.now in
    record {
      value =
          assessing.goes_on views.or_part_view (assessing.assessed_part (value_at s) c.args.width) c.deref-part-items.result.now c.loop-part.part-index c.part-item.result c.loop-part.so_far _ _ c.loop-part-test.true c.part-item.is c.loop-part.invariant.value
          (rw (levels.or_part_opened c.part-item.result) (c.operated-so_far.ensures ∙ rw (c.in_ok-next.ensures.value) refl));
      noted =
          operands.notes_go_on s views.or_part_view operands.expression_operands c.deref-part-items.result.now c.loop-part.part-index c.part-item.result c.loop-part.faults _ _ c.loop-part-test.true c.part-item.is c.loop-part.invariant.noted
          (rw (levels.or_part_opened c.part-item.result) c.in_ok-next.ensures.faults);
    }

pub assess-returns-clause-value : goal.assess-returns-clause-value
assess-returns-clause-value t c =
    assessing.ends views.or_part_view (assessing.assessed_part (value_at (scene_of c.args.sight.now)) c.args.width) c.deref-part-items.result.now c.loop-part.part-index c.loop-part.so_far _ c.loop-part-test.false c.loop-part.invariant.value

pub assess-returns-clause-faults : goal.assess-returns-clause-faults
assess-returns-clause-faults t c =
    operands.notes_end (scene_of c.args.sight.now) views.or_part_view operands.expression_operands c.deref-part-items.result.now c.loop-part.part-index c.loop-part.faults _ c.loop-part-test.false c.loop-part.invariant.noted
