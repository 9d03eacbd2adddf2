use Rattle.std.proofs.Common.{◌∙◌, subst, sym}
use Rattle.pss_copies.specs.Seats.{Attends}
use Rattle.pss_copies.proofs.Counts.{length_at}
use Rattle.pss_copies.proofs.attended.Attended.entries_of.Goals as goal

pub returns : goal.returns
returns c k copies there orderly at = c.entries_of.ensures ∙ length_at k c.self.inside.parts c.args.session copies there orderly (subst (Attends k) (sym c.self.view_is) at)
