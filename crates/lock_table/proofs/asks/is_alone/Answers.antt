use Rattle.std.proofs.Common.{sym, ◌∙◌, eqb-true}
use Rattle.lock_table.proofs.Sames.{owner-true}
use Rattle.lock_table.proofs.Alone.{only_entry}
use Rattle.lock_table.proofs.asks.is_alone.Goals as goal

pub returns-then-eq : goal.returns-then-eq
returns-then-eq c one n col at =
    only_entry c.args.links.now.columns.entries c.in-Some.first.now c.in-Some.field-0-1.now (sym c.in-Some.ensures.entry) (sym c.len.ensures.len ∙ eqb-true c.len.result 1 one) n col at
    ∙ owner-true c.in-Some.first.now c.args.owner (sym c.eq.ensures ∙ c.if-eq.true)
