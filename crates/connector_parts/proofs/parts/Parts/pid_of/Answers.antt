use Rattle.std.proofs.Common.{ℕ, sym, ap, ◌∙◌, subst}
use Rattle.std.specs.Option.{option_map}
use Rattle.pss_base.specs.declared.pid.Pid.{Pid}
use Rattle.pss_machine.specs.Copies.{Entry, entry_numbered}
use Rattle.pss_machine.specs.Kept.{copies_of}
use Rattle.incarnations.specs.Meaning.{Meaning}
use Rattle.pss_copies.specs.Told.{AreTold}
use Rattle.connector_parts.proofs.Tellings.{pid_told}
use Rattle.connector_parts.proofs.Bounds.{numbers_left}
use Rattle.connector_parts.proofs.parts.Parts.pid_of.Goals as goal

pub returns-in_err-number : goal.returns-in_err-number
returns-in_err-number c k at = c.from_residual.ensures ∙ sym (ap (option_map {U = Pid} (λ (e : Entry). e.pid)) (numbers_left c.args.self.now k at c.args.session c.args.entry c.in_err-number.ensures))

pub returns : goal.returns
returns c k at =
    c.pid_of.ensures
    ∙ pid_told k c.copies-copies.result.now c.copies_hold.ensures (subst (λ (m : Meaning). AreTold m k.copies) (sym c.copies-copies.ensures) at.stands.attended.seats.told) c.args.session c.in_ok-number.number
    ∙ ap (λ (n : ℕ). option_map {U = Pid} (λ e. e.pid) (entry_numbered (copies_of k c.args.session) n)) c.in_ok-number.ensures
