use Rattle.std.proofs.Common.{◌≡◌, Some, None, sym, subst, ◌∙◌}
use Rattle.pss_machine.specs.Operations.{plain_op}
use Rattle.pss_machine.specs.Owners.{view}
use Rattle.owner_view.specs.Steps.{IsStep}
use Rattle.owner_view.proofs.Outcomes.{if_ok}
use Rattle.tx_session.proofs.Actors.{its_level, its_view, its_may_step, is_kept}
use Rattle.tx_session.proofs.parts.Parts.step_of.Goals as goal

pub step_of-requires : goal.step_of-requires
step_of-requires c = its_may_step c.args.schema.now c.args.homes.now c.args.self.now c.args.owner (plain_op c.args.op.now) c.requires.may c.requires.under c.in-Some.owned.now (sym c.in-Some.ensures)

pub unreachable-requires : goal.unreachable-requires
unreachable-requires c = (let k = is_kept c.args.schema.now c.args.homes.now c.args.self.now c.args.owner c.requires.may.sees in let no : None ≡ Some k.0 = c.in-None.ensures ∙ k.1 in cc)

pub returns : goal.returns
returns c =
    let at = sym c.in-Some.ensures in
    if_ok c.step_of.result
    (λ step all m.
    subst (λ level. IsStep c.args.schema.now level (view m.sees.catalog m.sees.owner) (plain_op c.args.op.now) step) (its_level c.args.schema.now c.args.homes.now c.args.self.now c.args.owner m.sees c.in-Some.owned.now at)
    (subst (λ V. IsStep c.args.schema.now c.in-Some.owned.now.level V (plain_op c.args.op.now) step) (its_view c.args.schema.now c.args.homes.now c.args.self.now c.args.owner m.sees c.in-Some.owned.now at)
    (all (its_may_step c.args.schema.now c.args.homes.now c.args.self.now c.args.owner (plain_op c.args.op.now) m c.requires.under c.in-Some.owned.now at))))
    c.step_of.ensures
