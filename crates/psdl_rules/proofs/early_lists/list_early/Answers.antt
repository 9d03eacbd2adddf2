use Rattle.std.proofs.Common.{◌∙◌, ◌||◌, Bool, ap, sym}
use Rattle.std.specs.List.{list_any}
use Rattle.std.proofs.lemmas.List.Folds.{list_any-append}
use Rattle.psdl_rules.specs.inner.Early.{is_early}
use Rattle.psdl_rules.proofs.early_lists.list_early.Goals as goal

pub returns-then-first : goal.returns-then-first
returns-then-first c =
    let early = is_early c.args.least.now in
    sym (list_any-append early c.args.listed.now.first.now c.args.listed.now.others.now
    ∙ ap (λ (b : Bool). b || list_any early c.args.listed.now.others.now) (sym c.any_early-first.ensures ∙ c.if-first.true))

pub returns : goal.returns
returns c =
    let early = is_early c.args.least.now in
    c.any_early.ensures
    ∙ sym (list_any-append early c.args.listed.now.first.now c.args.listed.now.others.now
    ∙ ap (λ (b : Bool). b || list_any early c.args.listed.now.others.now) (sym c.any_early-first.ensures ∙ c.if-first.false))
