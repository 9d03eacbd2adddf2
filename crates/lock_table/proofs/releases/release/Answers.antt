use Rattle.std.proofs.Common.{[], refl, sym, ◌∙◌, arith}
use Rattle.lock_table.specs.inner.Nodes.{held_in}
use Rattle.lock_table.proofs.Releasing.{whole_releasing, all_released, all_counted, no_column, no_count, released_already}
use Rattle.lock_table.proofs.releases.release.Goals as goal

pub loop-init : goal.loop-init
loop-init g c = record { still = whole_releasing c.args.links.now c.requires c.args.owner c.in-Some.col (sym c.in-Some.ensures); others = refl; steps_are = refl }

pub loop-preserved : goal.loop-preserved
loop-preserved g c = record {
  still = c.release_first.ensures.still c.args.owner c.loop.invariant.still;
  others = c.release_first.ensures.others c.args.owner c.loop.invariant.still ∙ c.loop.invariant.others;
  steps_are = omega (arith, c.loop-test.ensures.fewer c.args.owner c.loop.invariant.still, c.release_first.ensures.steps, c.loop.invariant.steps_are);
}

pub returns-after-loop-clause-whole : goal.returns-after-loop-clause-whole
returns-after-loop-clause-whole g c = record {
  linked = c.remove_column.ensures.linked;
  rows = c.remove_column.ensures.rows [] (c.release_first.ensures.still c.args.owner c.loop.invariant.still).rows;
  cols = c.remove_column.ensures.cols [] (c.release_first.ensures.still c.args.owner c.loop.invariant.still).cols;
}

pub returns-after-loop-clause-held : goal.returns-after-loop-clause-held
returns-after-loop-clause-held g c =
    all_released c.args.links.now c.loop.links c.release_first.new.links c.remove_column.new.links c.args.owner c.in-Some.col c.args.steps.now c.loop.steps c.loop.invariant (c.release_first.ensures.still c.args.owner c.loop.invariant.still) (c.release_first.ensures.others c.args.owner c.loop.invariant.still) (c.loop-test.ensures.fewer c.args.owner c.loop.invariant.still) (c.release_first.ensures.end c.loop-test.false)
    c.remove_column.ensures.nodes

pub returns-after-loop-clause-each : goal.returns-after-loop-clause-each
returns-after-loop-clause-each g c =
    omega (
      arith,
      c.release_first.ensures.steps,
      all_counted c.args.links.now c.loop.links c.release_first.new.links c.remove_column.new.links c.args.owner c.in-Some.col c.args.steps.now c.loop.steps c.loop.invariant (c.release_first.ensures.still c.args.owner c.loop.invariant.still) (c.release_first.ensures.others c.args.owner c.loop.invariant.still) (c.loop-test.ensures.fewer c.args.owner c.loop.invariant.still) (c.release_first.ensures.end c.loop-test.false)
          c.remove_column.ensures.nodes,
    )

pub returns-after-loop-clause-at_most : goal.returns-after-loop-clause-at_most
returns-after-loop-clause-at_most g c =
    omega (
      arith,
      c.release_first.ensures.steps,
      all_counted c.args.links.now c.loop.links c.release_first.new.links c.remove_column.new.links c.args.owner c.in-Some.col c.args.steps.now c.loop.steps c.loop.invariant (c.release_first.ensures.still c.args.owner c.loop.invariant.still) (c.release_first.ensures.others c.args.owner c.loop.invariant.still) (c.loop-test.ensures.fewer c.args.owner c.loop.invariant.still) (c.release_first.ensures.end c.loop-test.false)
          c.remove_column.ensures.nodes,
    )

pub returns-in_default-clause-held : goal.returns-in_default-clause-held
returns-in_default-clause-held g c = sym (released_already (held_in c.args.links.now.pool) c.args.owner (no_column c.args.links.now c.requires.linked c.args.owner (sym c.find.ensures ∙ c.in_default.is)))

pub returns-in_default-clause-each : goal.returns-in_default-clause-each
returns-in_default-clause-each g c = omega (arith, no_count (held_in c.args.links.now.pool) c.args.owner (no_column c.args.links.now c.requires.linked c.args.owner (sym c.find.ensures ∙ c.in_default.is)))
