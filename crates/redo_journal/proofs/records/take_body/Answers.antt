use Rattle.std.proofs.Common.{ℕ, ◌≡◌, ◌+◌, IfOk, Some, sym, subst}
use Rattle.redo_journal.specs.Journal.{Fits, behind}
use Rattle.redo_journal.proofs.Headers.{body_added}
use Rattle.redo_journal.proofs.records.take_body.Goals as goal

pub add_body-requires : goal.add_body-requires
add_body-requires g c =
    record { fits = subst (λ (n : ℕ). Fits c.args.gate n) (sym c.in-Ok.ensures.len) c.requires.fits }

pub returns-in-Ok-clause-next : goal.returns-in-Ok-clause-next
returns-in-Ok-clause-next g c = subst (λ (n : ℕ). IfOk c.add_body.result (λ next. next ≡ Some (behind c.args.gate n))) c.in-Ok.ensures.len c.add_body.ensures.next

pub returns-in-Ok-clause-added : goal.returns-in-Ok-clause-added
returns-in-Ok-clause-added g c =
    body_added c.add_body.result (c.args.gate + 13) c.args.len c.in-Ok.body c.args.bodies.now c.add_body.new.bodies (g.W.Station.content c.args.w.now) c.in-Ok.ensures.len c.in-Ok.ensures.stands c.add_body.ensures.added
