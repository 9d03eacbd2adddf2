use Rattle.std.proofs.Common.{◌∙◌, sym}
use Rattle.psdl_check.specs.inner.Texts.{text_in}
use Rattle.psdl_check.proofs.Groups.{group_kept, groups_same, groups_put, group_put}
use Rattle.psdl_check.proofs.heirs.Heirs.learn.Goals as goal

pub returns-then-holds-clause-group : goal.returns-then-holds-clause-group
returns-then-holds-clause-group c = group_kept (text_in c.args.text.now) c.args.self.now c.args.group c.requires (sym c.holds.ensures ∙ c.if-holds.true)

pub returns-in_err-make_place-clause-groups : goal.returns-in_err-make_place-clause-groups
returns-in_err-make_place-clause-groups c = groups_same (text_in c.args.text.now) c.args.self.now c.make_place.new.self c.make_place.ensures.same c.requires

pub returns-in_err-masks-clause-groups : goal.returns-in_err-masks-clause-groups
returns-in_err-masks-clause-groups c = groups_same (text_in c.args.text.now) c.args.self.now c.make_place.new.self c.make_place.ensures.same c.requires

pub returns-clause-groups : goal.returns-clause-groups
returns-clause-groups c =
    let all = text_in c.args.text.now in
    groups_put all c.make_place.new.self c.keep.new.self c.args.group c.in_ok-masks.masks.items c.keep.ensures (groups_same all c.args.self.now c.make_place.new.self c.make_place.ensures.same c.requires) c.in_ok-masks.ensures

pub returns-clause-group : goal.returns-clause-group
returns-clause-group c = group_put (text_in c.args.text.now) c.make_place.new.self c.keep.new.self c.args.group c.in_ok-masks.masks.items c.keep.ensures c.in_ok-masks.ensures
