use Rattle.std.proofs.Common.{◌≡◌, ◌^◌, None, Some, min, sym, ap, subst, ◌∙◌}
use Rattle.pss_catalog.specs.Catalog.{total}
use Rattle.pss_catalog.specs.Changes.{over}
use Rattle.owner_view.specs.Net.{net_of}
use Rattle.tx_session.specs.Owners.{Under}
use Rattle.tx_session.proofs.Actors.{its_changes, its_may_look, is_kept, within}
use Rattle.tx_session.proofs.owners.Owners.total_with.Goals as goal

pub total_with-requires-clause-look : goal.total_with-requires-clause-look
total_with-requires-clause-look c =
    its_may_look c.args.schema.now c.args.homes.now c.self.inside.parts c.args.owner (within c.args.schema.now c.args.homes.now c.args.self.now c.self.inside.parts c.args.owner c.self.view_is c.requires.sees) c.in-Some.owned.now (sym c.in-Some.ensures)

pub total_with-requires-clause-under : goal.total_with-requires-clause-under
total_with-requires-clause-under c = subst (Under c.args.schema.now) (sym c.self.view_is) c.requires.under c.args.owner.0 c.in-Some.owned.now (sym c.in-Some.ensures)

pub unreachable-requires : goal.unreachable-requires
unreachable-requires c =
    let m = within c.args.schema.now c.args.homes.now c.args.self.now c.self.inside.parts c.args.owner c.self.view_is c.requires.sees in
    let k = is_kept c.args.schema.now c.args.homes.now c.self.inside.parts c.args.owner m in
    let no : None ≡ Some k.0 = c.in-None.ensures ∙ k.1 in
    cc

pub returns : goal.returns
returns c given =
    let m = within c.args.schema.now c.args.homes.now c.args.self.now c.self.inside.parts c.args.owner c.self.view_is given in
    c.total_with.ensures (its_may_look c.args.schema.now c.args.homes.now c.self.inside.parts c.args.owner m c.in-Some.owned.now (sym c.in-Some.ensures))
    ∙ ap (λ changes. min (total c.args.schema.now (over m.catalog (net_of m.catalog changes))) (2 ^ 64)) (its_changes c.args.schema.now c.args.homes.now c.self.inside.parts c.args.owner m c.in-Some.owned.now (sym c.in-Some.ensures))
