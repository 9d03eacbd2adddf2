use Rattle.std.proofs.Common.{◌≡◌, None, Some, sym, subst, ◌∙◌}
use Rattle.storage_home.specs.Applied.{AreChanges}
use Rattle.owner_view.specs.Net.{net_of, AreNet}
use Rattle.owner_view.proofs.Outcomes.{if_ok}
use Rattle.tx_session.proofs.Actors.{its_changes, its_may_look, is_kept, within}
use Rattle.tx_session.proofs.owners.Owners.changes.Goals as goal

pub changes-requires : goal.changes-requires
changes-requires c =
    its_may_look c.args.schema.now c.args.homes.now c.self.inside.parts c.args.owner (within c.args.schema.now c.args.homes.now c.args.self.now c.self.inside.parts c.args.owner c.self.view_is c.requires) c.in-Some.owned.now (sym c.in-Some.ensures)

pub unreachable-requires : goal.unreachable-requires
unreachable-requires c =
    let m = within c.args.schema.now c.args.homes.now c.args.self.now c.self.inside.parts c.args.owner c.self.view_is c.requires in
    let k = is_kept c.args.schema.now c.args.homes.now c.self.inside.parts c.args.owner m in
    let no : None ≡ Some k.0 = c.in-None.ensures ∙ k.1 in
    cc

pub returns-clause-net : goal.returns-clause-net
returns-clause-net c =
    if_ok c.changes.result
    (λ made all given.
    let m = within c.args.schema.now c.args.homes.now c.args.self.now c.self.inside.parts c.args.owner c.self.view_is given in
    subst (λ changes. AreNet c.args.schema.now m.catalog (net_of m.catalog changes) made) (its_changes c.args.schema.now c.args.homes.now c.self.inside.parts c.args.owner m c.in-Some.owned.now (sym c.in-Some.ensures))
    (all (its_may_look c.args.schema.now c.args.homes.now c.self.inside.parts c.args.owner m c.in-Some.owned.now (sym c.in-Some.ensures))))
    c.changes.ensures.net

pub returns-clause-wanted : goal.returns-clause-wanted
returns-clause-wanted c =
    if_ok c.changes.result
    (λ made all given.
    let m = within c.args.schema.now c.args.homes.now c.args.self.now c.self.inside.parts c.args.owner c.self.view_is given in
    subst (λ changes. AreChanges c.args.schema.now m.catalog made (net_of m.catalog changes)) (its_changes c.args.schema.now c.args.homes.now c.self.inside.parts c.args.owner m c.in-Some.owned.now (sym c.in-Some.ensures))
    (all (its_may_look c.args.schema.now c.args.homes.now c.self.inside.parts c.args.owner m c.in-Some.owned.now (sym c.in-Some.ensures))))
    c.changes.ensures.wanted
