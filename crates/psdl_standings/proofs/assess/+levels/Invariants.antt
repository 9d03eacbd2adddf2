use Rattle.std.proofs.Common.{◌≡◌, drop, map}
use Rattle.std.specs.List.{flat_map}
use Rattle.psdl_tree.specs.Views as views
use Rattle.psdl_standings.specs.Expressions as expressions
use Rattle.psdl_standings.specs.Values as values
use Rattle.psdl_standings.specs.inner.Assessments.{seen}
use Rattle.psdl_standings.specs.inner.Sights.{scene_of, value_at}
use Rattle.psdl_standings.specs.inner.Walks.{noted}
use Rattle.psdl_standings.proofs.Assessing as assessing
use Rattle.psdl_standings.proofs.Operands as operands
use Rattle.psdl_standings.proofs.assess.+levels.Given as goal

abbrev pub invariant-product-loop-part : goal.invariant-product-loop-part
invariant-product-loop-part l =
    record {
      value : assessing.folded l.so_far (map (assessing.product_part (value_at (scene_of l.sight)) l.width) (map views.product_part_view (drop l.part-index l.part-items))) ≡ seen (values.product (value_at (scene_of l.sight)) l.width (views.product_view l.node));
      noted : noted (scene_of l.sight) l.faults (flat_map operands.product_operands (map views.product_part_view (drop l.part-index l.part-items))) ≡ noted (scene_of l.sight) l.fn.faults (expressions.in_product (views.product_view l.node));
    }

abbrev pub invariant-sum-loop-part : goal.invariant-sum-loop-part
invariant-sum-loop-part l =
    record {
      value : assessing.folded l.so_far (map (assessing.sum_part (value_at (scene_of l.sight)) l.width) (map views.sum_part_view (drop l.part-index l.part-items))) ≡ seen (values.sum (value_at (scene_of l.sight)) l.width (views.sum_view l.node));
      noted : noted (scene_of l.sight) l.faults (flat_map operands.sum_operands (map views.sum_part_view (drop l.part-index l.part-items))) ≡ noted (scene_of l.sight) l.fn.faults (expressions.in_sum (views.sum_view l.node));
    }

abbrev pub invariant-shift-loop-part : goal.invariant-shift-loop-part
invariant-shift-loop-part l =
    record {
      value : assessing.folded l.so_far (map (assessing.shift_part (value_at (scene_of l.sight)) l.width) (map views.shift_part_view (drop l.part-index l.part-items))) ≡ seen (values.shift (value_at (scene_of l.sight)) l.width (views.shift_view l.node));
      noted : noted (scene_of l.sight) l.faults (flat_map operands.shift_operands (map views.shift_part_view (drop l.part-index l.part-items))) ≡ noted (scene_of l.sight) l.fn.faults (expressions.in_shift (views.shift_view l.node));
    }

abbrev pub invariant-and-loop-part : goal.invariant-and-loop-part
invariant-and-loop-part l =
    record {
      value : assessing.folded l.so_far (map (assessing.and_part (value_at (scene_of l.sight)) l.width) (map views.and_part_view (drop l.part-index l.part-items))) ≡ seen (values.and (value_at (scene_of l.sight)) l.width (views.and_view l.node));
      noted : noted (scene_of l.sight) l.faults (flat_map operands.and_operands (map views.and_part_view (drop l.part-index l.part-items))) ≡ noted (scene_of l.sight) l.fn.faults (expressions.in_and (views.and_view l.node));
    }

abbrev pub invariant-xor-loop-part : goal.invariant-xor-loop-part
invariant-xor-loop-part l =
    record {
      value : assessing.folded l.so_far (map (assessing.xor_part (value_at (scene_of l.sight)) l.width) (map views.xor_part_view (drop l.part-index l.part-items))) ≡ seen (values.xor (value_at (scene_of l.sight)) l.width (views.xor_view l.node));
      noted : noted (scene_of l.sight) l.faults (flat_map operands.xor_operands (map views.xor_part_view (drop l.part-index l.part-items))) ≡ noted (scene_of l.sight) l.fn.faults (expressions.in_xor (views.xor_view l.node));
    }

abbrev pub invariant-assess-loop-part : goal.invariant-assess-loop-part
invariant-assess-loop-part l =
    record {
      value : assessing.folded l.so_far (map (assessing.assessed_part (value_at (scene_of l.sight)) l.width) (map views.or_part_view (drop l.part-index l.part-items))) ≡ seen (values.assessed (value_at (scene_of l.sight)) l.width (views.expression_view l.node));
      noted : noted (scene_of l.sight) l.faults (flat_map operands.expression_operands (map views.or_part_view (drop l.part-index l.part-items))) ≡ noted (scene_of l.sight) l.fn.faults (expressions.operands (views.expression_view l.node));
    }
