use Rattle.std.proofs.Common.{ap, ◌∙◌}
use Rattle.pss_recovery.specs.declared.parts.Parts.{Parts}
use Rattle.pss_recovery.proofs.Rooms.{mounted_room, room_made}
use Rattle.pss_recovery.proofs.store.Store.reserve.Goals as goal

pub returns-clause-same : goal.returns-clause-same
returns-clause-same c = λ S M next content mounted.
    let inside = c.self.inside.parts in
    let made = room_made c.note_reserve.result inside.pages c.note_reserve.new.self c.args.changes c.note_reserve.ensures.ok c.note_reserve.ensures.err in
    mounted_room S M next c.args.self.now (record { alloc = inside.alloc; pages = c.note_reserve.new.self; journal = inside.journal; epoch = inside.epoch; next = inside.next }) made.0 content
    (made.1 ∙ ap (λ (p : Parts). record p.pages { room = made.0 }) c.self.view_is) (ap (λ (p : Parts). p.journal) c.self.view_is) (ap (λ (p : Parts). p.epoch) c.self.view_is) (ap (λ (p : Parts). p.next) c.self.view_is) mounted
