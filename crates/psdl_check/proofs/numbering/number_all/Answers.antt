use Rattle.std.proofs.Common.{◌∙◌, sym, arith, refl}
use Rattle.psdl_lineage.specs.Lineages.{asked_of}
use Rattle.psdl_check.proofs.Counted.{none_counted, one_counted, all_counted, length_stopped, not_over}
use Rattle.psdl_check.proofs.numbering.number_all.Goals as goal

pub loop-key-init : goal.loop-key-init
loop-key-init c = record {
  same = refl;
  numbered = λ ids introduced more can. none_counted (asked_of c.args.conformity.now) ids introduced more c.args.home.now c.args.held.now c.args.keys.now c.args.front.0 _ can c.new.ensures c.with.ensures;
}

pub loop-key-preserved : goal.loop-key-preserved
loop-key-preserved c =
    let all = asked_of c.args.conformity.now in
    record {
      same = c.number_next.ensures.same ∙ c.loop-key.invariant.same;
      numbered = λ ids introduced more can.
          one_counted all (asked_of c.loop-key.conformity) ids introduced more c.args.home.now c.args.held.now c.args.keys.now c.args.front.0 c.loop-key.key-index c.key-item.result c.loop-key.keys c.number_next.new.keys c.loop-key.numbered c.number_next.new.numbered
          c.loop-key.invariant.same can c.loop-key-test.true c.key-item.is (sym c.is_over.ensures ∙ c.if-is_over.false) c.in_ok-number_next.ensures.numbered (c.loop-key.invariant.numbered ids introduced more can);
    }

pub returns-then-is_over-clause-numbered : goal.returns-then-is_over-clause-numbered
returns-then-is_over-clause-numbered c ids introduced more can =
    let over = not_over c.loop-key.numbered.length.0 (sym c.is_over.ensures ∙ c.if-is_over.true) in
    record {
      reached = length_stopped (asked_of c.args.conformity.now) ids introduced more c.args.home.now c.args.held.now c.args.keys.now c.args.front.0 c.loop-key.key-index c.loop-key.keys c.loop-key.numbered (sym c.is_over.ensures ∙ c.if-is_over.true) (c.loop-key.invariant.numbered ids introduced more can);
      counted = λ fits. absurd (over fits);
      known = λ fits. absurd (over fits);
    }

pub returns-clause-numbered : goal.returns-clause-numbered
returns-clause-numbered c ids introduced more can =
    let all = all_counted (asked_of c.args.conformity.now) ids introduced c.args.home.now c.args.held.now c.args.front.0 c.loop-key.key-index c.loop-key.keys c.loop-key.numbered (omega (arith, c.loop-key-test.false)) (c.loop-key.invariant.numbered ids introduced more can) in
    record {
      reached = all.reached;
      counted = λ fits. all.counted;
      known = λ fits. all.known;
    }
