use Rattle.std.proofs.Common.{sym, ◌∙◌}
use Rattle.recent_table.proofs.Standing.{stands_as}
use Rattle.recent_table.proofs.table.stands_at.Goals as goal

pub returns-in-Some : goal.returns-in-Some
returns-in-Some g c same =
    stands_as g.K.PartialEq.eq g.met.K.Eq.laws c.args.table.now.entries c.args.place c.args.key c.in-Some.there.now _ (sym c.in-Some.ensures.entry) c.in-Some.ensures.value (sym c.eq.ensures ∙ same)
