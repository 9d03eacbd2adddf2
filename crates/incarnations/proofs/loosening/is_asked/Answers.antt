use Rattle.std.proofs.Common.{sym, ap, ◌∙◌}
use Rattle.incarnations.specs.Stock.{asks}
use Rattle.incarnations.proofs.Keys.{derived_view}
use Rattle.incarnations.proofs.loosening.is_asked.Goals as goal

pub returns-in-Some : goal.returns-in-Some
returns-in-Some c = c.eq.ensures ∙ derived_view c.in-Some.asked c.args.view ∙ ap (λ o. asks o c.args.view) (sym c.in-Some.is)
