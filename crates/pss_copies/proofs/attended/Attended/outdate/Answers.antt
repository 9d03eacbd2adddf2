use Rattle.std.proofs.Common.{◌∙◌, refl, sym, ap, subst}
use Rattle.std.specs.FinMap.{get}
use Rattle.pss_machine.specs.declared.session.View.TheVariants.{Own}
use Rattle.incarnations.specs.Meaning.{body}
use Rattle.pss_copies.specs.declared.parts.Parts.{Parts}
use Rattle.pss_copies.specs.Seats.{Attends}
use Rattle.pss_copies.proofs.Left.{none_left}
use Rattle.pss_copies.proofs.Written.{unwritten, set_attends}
use Rattle.pss_copies.proofs.attended.Attended.outdate.Goals as goal

pub returns : goal.returns
returns g c k step values sets homes at =
    let b = body c.args.pid (Own c.args.owner) in
    let none = ap (λ (p : Parts). get p.copies.bodies b) c.self.view_is ∙ c.requires in
    set_attends k c.self.inside.parts (record { sessions = c.self.inside.parts.sessions; copies = c.detach_pid.new.copies }) c.detach_pid.new.copies c.args.owner step c.args.pid values sets homes c.copies_hold.ensures (subst (Attends k) (sym c.self.view_is) at) refl c.detach_pid.ensures.lasts c.detach_pid.ensures.left
    (unwritten c.detach_pid.new.copies b values (none_left _ c.self.inside.parts.copies c.detach_pid.new.copies c.detach_pid.ensures.left b none))
