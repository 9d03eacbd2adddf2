use Rattle.std.proofs.Common.{◌≡◌, None, Some, sym, ap, ◌∙◌}
use Rattle.std.specs.Option.{option_map}
use Rattle.std.specs.FinMap.{get}
use Rattle.owner_view.proofs.Outcomes.{if_ok}
use Rattle.tx_session.proofs.Actors.{its_view, its_may_look, is_kept, within}
use Rattle.tx_session.proofs.owners.Owners.state_of.Goals as goal

pub state_of-requires : goal.state_of-requires
state_of-requires c =
    its_may_look c.args.schema.now c.args.homes.now c.self.inside.parts c.args.owner (within c.args.schema.now c.args.homes.now c.args.self.now c.self.inside.parts c.args.owner c.self.view_is c.requires) c.in-Some.owned.now (sym c.in-Some.ensures)

pub unreachable-requires : goal.unreachable-requires
unreachable-requires c =
    let m = within c.args.schema.now c.args.homes.now c.args.self.now c.self.inside.parts c.args.owner c.self.view_is c.requires in
    let k = is_kept c.args.schema.now c.args.homes.now c.self.inside.parts c.args.owner m in
    let no : None ≡ Some k.0 = c.in-None.ensures ∙ k.1 in
    cc

pub returns : goal.returns
returns c =
    if_ok c.state_of.result
    (λ made all given.
    let m = within c.args.schema.now c.args.homes.now c.args.self.now c.self.inside.parts c.args.owner c.self.view_is given in
    all (its_may_look c.args.schema.now c.args.homes.now c.self.inside.parts c.args.owner m c.in-Some.owned.now (sym c.in-Some.ensures))
    ∙ ap (λ V. option_map (λ object. object.values) (get V c.args.serial)) (its_view c.args.schema.now c.args.homes.now c.self.inside.parts c.args.owner m c.in-Some.owned.now (sym c.in-Some.ensures)))
    c.state_of.ensures
