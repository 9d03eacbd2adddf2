use Rattle.std.proofs.Common.{◌≡◌, true, None, Some, IsSome, IsSomeAnd, refl, subst, sym}
use Rattle.std.specs.FinMap.{get}
use Rattle.pss_machine.specs.Sessions.{Session}
use Rattle.pss_machine.specs.Copies.{view_in}
use Rattle.pss_machine.specs.Attaching.{is_open}
use Rattle.pss_machine.specs.Kept.{Kept}
use Rattle.incarnations.specs.Meaning.{entry_at, body}
use Rattle.pss_copies.specs.declared.parts.Parts.{Parts}
use Rattle.pss_copies.specs.Seats.{Attends, IsShared, seated_at}
use Rattle.pss_copies.proofs.Placing.{share_attends}
use Rattle.pss_copies.proofs.attended.Attended.share.Goals as goal

pub returns : goal.returns
returns c =
    let new : Parts = record { sessions = c.self.inside.parts.sessions; copies = c.share.new.self } in
    let may = subst (λ (old : Parts). IsSomeAnd (entry_at old.copies c.args.session c.args.number) (λ e. (e.view ≡ None) × IsSome (get old.copies.bodies (body e.pid c.args.view)))) (sym c.self.view_is) c.requires in
    subst (λ (old : Parts). (k : Kept) (x : Session) → get k.sessions c.args.session.0 ≡ Some x → is_open x ≡ true → IsSomeAnd (entry_at old.copies c.args.session c.args.number) (λ e. c.args.view ≡ view_in k.owners c.args.session x e.pid) → IsShared c.args.view → Attends k old → Attends (seated_at k c.args.session c.args.number) new) c.self.view_is
    (share_attends c.self.inside.parts new c.args.session c.args.number c.args.view c.copies_hold.ensures refl may c.share.ensures)
