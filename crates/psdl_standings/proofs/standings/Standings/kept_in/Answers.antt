use Rattle.std.proofs.Common.{◌∙◌, ℕ, length, ap, arith, rules}
use Rattle.std.specs.List.{flat_map}
use Rattle.std.proofs.lemmas.List.{take_all}
use Rattle.psdl_standings.specs.States.{own_types}
use Rattle.psdl_standings.specs.Texts.{text_of, types_in}
use Rattle.psdl_standings.proofs.BodyStates.{one_body_more, below_more}
use Rattle.psdl_standings.proofs.standings.Standings.kept_in.Goals as goal

pub loop-body-preserved : goal.loop-body-preserved
loop-body-preserved c =
    let all = text_of c.args.self.now in
    let types = types_in c.args.self.now in
    let n : ℕ = c.body-item.result in
    record {
      types = one_body_more all types c.args.bodies.now c.loop-body.body-index n n c.loop-body-test.true c.body-item.is c.loop-body.kept.items c.states.result.now c.extend_from_slice.new.self.items (search rules) (search rules) c.loop-body.invariant.types;
      below = below_more all types c.args.bodies.now c.loop-body.body-index n n c.loop-body-test.true c.body-item.is c.loop-body.kept.items c.states.result.now c.extend_from_slice.new.self.items (search rules) (length all) c.states.ensures.below c.loop-body.invariant.below;
    }

pub returns-clause-types : goal.returns-clause-types
returns-clause-types c homes =
    c.loop-body.invariant.types homes ∙ ap (flat_map (own_types (text_of c.args.self.now) homes)) (take_all c.loop-body.body-index c.args.bodies.now (omega (arith, c.loop-body-test.false)))
