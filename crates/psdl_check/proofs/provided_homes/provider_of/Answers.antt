use Rattle.std.proofs.Common.{◌≡◌, ◌∙◌, Some, length, ap, sym, rules}
use Rattle.std.specs.Option.{option_and_then}
use Rattle.psdl_lineage.specs.Descent.{provider}
use Rattle.psdl_check.specs.inner.Texts.{text_in}
use Rattle.psdl_check.proofs.Meant.{some_below}
use Rattle.psdl_check.proofs.provided_homes.provider_of.Goals as goal

pub returns-in-Some : goal.returns-in-Some
returns-in-Some c =
    let all = text_in c.args.text.now in
    let some : c.args.meant ≡ Some c.in-Some.home = search rules in
    c.provider.ensures (some_below c.args.meant c.in-Some.home (length all) c.requires some) ∙ ap (option_and_then (provider all)) (sym some)
