use Rattle.std.proofs.Common.{sym, ◌∙◌}
use Rattle.owner_view.proofs.Ordered.{alone}
use Rattle.owner_view.proofs.states.only.Goals as goal

pub returns-in-Some : goal.returns-in-Some
returns-in-Some c = alone c.args.states.now c.in-Some.serial.now c.in-Some.field-0-1.now (sym c.len.ensures.len ∙ c.if-len-ne1.false) c.in-Some.ensures.entry
