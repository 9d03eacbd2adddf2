use Rattle.std.proofs.Common.{subst}
use Rattle.std.specs.Prelude.{OnOk}
use Rattle.pss_machine.specs.Kept.{Kept}
use Rattle.pss_machine.specs.Moving.{with_session}
use Rattle.pss_copies.specs.Seats.{Attends}
use Rattle.pss_copies.proofs.Opened.{opened_where}
use Rattle.pss_copies.proofs.attended.Attended.open.Goals as goal

pub returns-clause-opened : goal.returns-clause-opened
returns-clause-opened c =
    subst (λ old. OnOk c.add-added.result ((k : Kept) → Attends k old → Attends (with_session k c.args.name c.args.kind c.args.access) (record { sessions = c.add-added.new.self; copies = c.add-added.new.copies }))) c.self.view_is
    (opened_where c.args.name c.args.kind c.args.access _ (record { sessions = c.add-added.new.self; copies = c.add-added.new.copies }) c.add-added.result c.add-added.ensures.ok c.add-added.ensures.copies c.add-added.ensures.number c.copies_hold.ensures)
