use Rattle.std.proofs.Common.{ℕ, ◌≡◌, ◌≢◌, ◌+◌, ◌<◌, ◌≤◌, ◌⊎◌, inl, inr, List, [], ◌∷◌, length, ◌∙◌, arith}
use Rattle.pss_disk.specs.Images.{IsOutside, Misses}
use Rattle.pss_disk.specs.Octets.{range_of, write}
use Rattle.pss_disk.specs.inner.Writing.{outside}
use Rattle.pss_disk.proofs.Calls.{on_err}
use Rattle.pss_disk.proofs.Images.{agrees_write, misses_part, stays_then, stays_wider, stays_written}
use Rattle.pss_disk.proofs.Passing.{then_come, weaker}
use Rattle.redo_journal.specs.Journal.{framed}
use Rattle.redo_journal.specs.inner.Laying.{laid}
use Rattle.redo_journal.proofs.Chains.{either_while_laid, either_while_opened, ready_then}
use Rattle.redo_journal.proofs.Keeping.{keeps_changed, keeps_fewer}
use Rattle.redo_journal.proofs.Lengths.{opened_long}
use Rattle.redo_journal.proofs.Spelling.{gate_in_front, length-framed, length-laid}
use Rattle.redo_journal.proofs.journal.append_at.Goals as goal

-- a place outside of the whole record is outside of what is laid, and is not its gate
outside_laid : (epoch end : ℕ) (body : List ℕ) → Misses (IsOutside (range_of end (framed epoch body))) (range_of (end + 1) (laid epoch body))
outside_laid epoch end body = misses_part (range_of end (framed epoch body)) (range_of (end + 1) (laid epoch body)) (omega arith) (omega (arith, length-framed epoch body, length-laid epoch body))

not_gate : (epoch end : ℕ) (body : List ℕ) (i : ℕ) → IsOutside (range_of end (framed epoch body)) i → i ≢ end
not_gate epoch end body i out e = two (e, omega (arith, length-framed epoch body)) (outside (range_of end (framed epoch body)) i out)
  where
    two : (i ≡ end) × (1 ≤ length (framed epoch body)) → (i < end) ⊎ (end + length (framed epoch body) ≤ i) → ⊥
    two h (inl less) = omega (arith, h.0, less)
    two h (inr more) = omega (arith, h.0, h.1, more)

pub returns-in_err-lay-clause-failed : goal.returns-in_err-lay-clause-failed
returns-in_err-lay-clause-failed g c =
    let end = c.args.end in
    let epoch = c.args.epoch in
    let body = c.args.body.now in
    on_err c.from_residual.result _
    (stays_wider (range_of end (framed epoch body)) (range_of (end + 1) (laid epoch body)) (g.W.Station.content c.args.w.now) (g.W.Station.content c.lay.new.w) (omega arith) (omega (arith, length-framed epoch body, length-laid epoch body)) c.in_err-lay.ensures.failed)

pub returns-in_err-lay-clause-bodies : goal.returns-in_err-lay-clause-bodies
returns-in_err-lay-clause-bodies g c = λ before r. weaker _ _ _ _ (either_while_laid c.args.end c.args.epoch before c.args.body.now (g.W.Station.content c.args.w.now) r) c.lay.ensures.images

pub returns-in_err-lay-clause-others : goal.returns-in_err-lay-clause-others
returns-in_err-lay-clause-others g c =
    weaker _ _ _ _ (λ m h. keeps_fewer _ _ (g.W.Station.content c.args.w.now) m (outside_laid c.args.epoch c.args.end c.args.body.now) h) c.lay.ensures.images

pub returns-in_err-set_gate-clause-bodies : goal.returns-in_err-set_gate-clause-bodies
returns-in_err-set_gate-clause-bodies g c = λ before r.
    then_come _ _ _ _ (weaker _ _ _ _ (either_while_laid c.args.end c.args.epoch before c.args.body.now (g.W.Station.content c.args.w.now) r) c.lay.ensures.images)
    (weaker _ _ _ _ (either_while_opened c.args.end c.args.epoch before c.args.body.now (g.W.Station.content c.args.w.now) (g.W.Station.content c.lay.new.w) c.requires.fits c.in_ok-lay.ensures.content r) c.set_gate.ensures.images)

pub returns-in_err-set_gate-clause-others : goal.returns-in_err-set_gate-clause-others
returns-in_err-set_gate-clause-others g c =
    let end = c.args.end in
    let epoch = c.args.epoch in
    let body = c.args.body.now in
    let S : ℕ → Type 0 = IsOutside (range_of end (framed epoch body)) in
    then_come _ _ _ _ (weaker _ _ _ _ (λ m h. keeps_fewer _ _ (g.W.Station.content c.args.w.now) m (outside_laid epoch end body) h) c.lay.ensures.images)
    (weaker _ _ _ _ (λ m h. keeps_changed (λ i. i ≢ end) S (g.W.Station.content c.args.w.now) (g.W.Station.content c.lay.new.w) (write (end + 1) (laid epoch body)) m (not_gate epoch end body) (λ x. agrees_write S (end + 1) (laid epoch body) x (outside_laid epoch end body)) c.in_ok-lay.ensures.content h) c.set_gate.ensures.images)

pub returns-in_err-set_gate-clause-quiet : goal.returns-in_err-set_gate-clause-quiet
returns-in_err-set_gate-clause-quiet g c = then_come _ _ _ _ c.lay.ensures.quiet (weaker _ _ _ _ (λ m h. h ∙ c.lay.ensures.said) c.set_gate.ensures.quiet)

pub returns-clause-bodies : goal.returns-clause-bodies
returns-clause-bodies g c = λ before r.
    then_come _ _ _ _ (weaker _ _ _ _ (either_while_laid c.args.end c.args.epoch before c.args.body.now (g.W.Station.content c.args.w.now) r) c.lay.ensures.images)
    (weaker _ _ _ _ (either_while_opened c.args.end c.args.epoch before c.args.body.now (g.W.Station.content c.args.w.now) (g.W.Station.content c.lay.new.w) c.requires.fits c.in_ok-lay.ensures.content r) c.set_gate.ensures.images)

pub returns-clause-others : goal.returns-clause-others
returns-clause-others g c =
    let end = c.args.end in
    let epoch = c.args.epoch in
    let body = c.args.body.now in
    let S : ℕ → Type 0 = IsOutside (range_of end (framed epoch body)) in
    then_come _ _ _ _ (weaker _ _ _ _ (λ m h. keeps_fewer _ _ (g.W.Station.content c.args.w.now) m (outside_laid epoch end body) h) c.lay.ensures.images)
    (weaker _ _ _ _ (λ m h. keeps_changed (λ i. i ≢ end) S (g.W.Station.content c.args.w.now) (g.W.Station.content c.lay.new.w) (write (end + 1) (laid epoch body)) m (not_gate epoch end body) (λ x. agrees_write S (end + 1) (laid epoch body) x (outside_laid epoch end body)) c.in_ok-lay.ensures.content h) c.set_gate.ensures.images)

pub returns-clause-quiet : goal.returns-clause-quiet
returns-clause-quiet g c = then_come _ _ _ _ c.lay.ensures.quiet (weaker _ _ _ _ (λ m h. h ∙ c.lay.ensures.said) c.set_gate.ensures.quiet)

pub returns-in_err-set_gate-clause-failed : goal.returns-in_err-set_gate-clause-failed
returns-in_err-set_gate-clause-failed g c =
    let end = c.args.end in
    let epoch = c.args.epoch in
    let body = c.args.body.now in
    let range = range_of end (framed epoch body) in
    let one = stays_wider range (range_of (end + 1) (laid epoch body)) (g.W.Station.content c.args.w.now) (g.W.Station.content c.lay.new.w) (omega arith) (omega (arith, length-framed epoch body, length-laid epoch body))
    (stays_written (end + 1) (laid epoch body) (g.W.Station.content c.args.w.now) (g.W.Station.content c.lay.new.w) c.in_ok-lay.ensures.content) in
    on_err c.from_residual-in_err-set_gate.result _
    (stays_then range (g.W.Station.content c.args.w.now) (g.W.Station.content c.lay.new.w) (g.W.Station.content c.set_gate.new.station) one
    (stays_wider range (range_of end (165 ∷ [])) (g.W.Station.content c.lay.new.w) (g.W.Station.content c.set_gate.new.station) (omega arith) (omega (arith, length-framed epoch body)) c.in_err-set_gate.ensures.failed))

pub returns-clause-content : goal.returns-clause-content
returns-clause-content g c = gate_in_front c.args.epoch c.args.end c.args.body.now (g.W.Station.content c.args.w.now) (g.W.Station.content c.lay.new.w) (g.W.Station.content c.set_gate.new.station) c.in_ok-lay.ensures.content c.in_ok-set_gate.ensures.content

pub returns-clause-added : goal.returns-clause-added
returns-clause-added g c = λ before r.
    ready_then c.args.end c.args.epoch before c.args.body.now (g.W.Station.content c.args.w.now) (g.W.Station.content c.lay.new.w) (g.W.Station.content c.set_gate.new.station) c.requires.fits c.in_ok-lay.ensures.content c.in_ok-set_gate.ensures.content r

pub returns-in_err-set_gate-clause-long : goal.returns-in_err-set_gate-clause-long
returns-in_err-set_gate-clause-long g c =
    then_come _ _ _ _ c.lay.ensures.long (weaker _ _ _ _ (opened_long c.args.end c.args.epoch c.args.body.now (g.W.Station.content c.args.w.now) (g.W.Station.content c.lay.new.w) c.in_ok-lay.ensures.content) c.set_gate.ensures.images)

pub returns-clause-long : goal.returns-clause-long
returns-clause-long g c =
    then_come _ _ _ _ c.lay.ensures.long (weaker _ _ _ _ (opened_long c.args.end c.args.epoch c.args.body.now (g.W.Station.content c.args.w.now) (g.W.Station.content c.lay.new.w) c.in_ok-lay.ensures.content) c.set_gate.ensures.images)
