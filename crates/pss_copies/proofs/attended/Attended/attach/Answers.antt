use Rattle.std.proofs.Common.{◌≡◌, true, None, Some, IsSomeAnd, refl, subst, sym}
use Rattle.std.specs.Prelude.{OnOk}
use Rattle.std.specs.FinMap.{get}
use Rattle.pss_machine.specs.Sessions.{Session}
use Rattle.pss_machine.specs.Copies.{view_in}
use Rattle.pss_machine.specs.Attaching.{is_open}
use Rattle.pss_machine.specs.Kept.{Kept}
use Rattle.incarnations.specs.Meaning.{entry_at, body}
use Rattle.pss_copies.specs.declared.parts.Parts.{Parts}
use Rattle.pss_copies.specs.Seats.{Attends, IsRecordIn, seated_at}
use Rattle.pss_copies.proofs.Placing.{attach_attends, on_ok}
use Rattle.pss_copies.proofs.attended.Attended.attach.Goals as goal

pub returns-clause-ok : goal.returns-clause-ok
returns-clause-ok c =
    let new : Parts = record { sessions = c.self.inside.parts.sessions; copies = c.attach.new.self } in
    let may = subst (λ (old : Parts). IsSomeAnd (entry_at old.copies c.args.session c.args.number) (λ e. (e.view ≡ None) × (get old.copies.bodies (body e.pid c.args.view) ≡ None))) (sym c.self.view_is) c.requires in
    subst (λ (old : Parts). OnOk c.attach.result ((k : Kept) (x : Session) → get k.sessions c.args.session.0 ≡ Some x → is_open x ≡ true → IsSomeAnd (entry_at old.copies c.args.session c.args.number) (λ e. (c.args.view ≡ view_in k.owners c.args.session x e.pid) × IsRecordIn k e.pid c.args.view c.args.value) → Attends k old → Attends (seated_at k c.args.session c.args.number) new)) c.self.view_is
    (on_ok c.attach.result c.attach.ensures.ok (λ is. attach_attends c.self.inside.parts new c.args.session c.args.number c.args.view c.args.value c.copies_hold.ensures refl may is))
