use Rattle.std.proofs.Common.{◌≡◌, ◌+◌, suc, length, sym, ap, ◌∙◌, subst, arith, take}
use Rattle.incarnations.specs.Meaning.{Meaning, Leaves, loosened, both}
use Rattle.pss_session.specs.Meaning.{belongs_to, on_unchanged}
use Rattle.pss_session.specs.inner.Rows.{session_of}
use Rattle.pss_session.specs.inner.Walks.{some_row}
use Rattle.pss_session.proofs.Fronts.{take_all}
use Rattle.pss_session.proofs.Leaving.{walk_more_of, take_none}
use Rattle.pss_session.proofs.detaching.detach_pid.Goals.{in-Some, in_default}
use Rattle.pss_session.proofs.detaching.detach_pid.Goals as goal

pub loop-at-preserved : goal.loop-at-preserved
loop-at-preserved g c =
    let next : c.loop-at.at + 1 ≡ suc c.loop-at.at = omega arith in
    elim c.match-get_index.branch [
      | in-Some w ↦ record {
        lasts = ap (λ (m : Meaning). m.lasts) w.copies-is ∙ w.detach_pid_one.ensures.lasts ∙ c.loop-at.invariant.lasts;
        left =
            subst (λ m. Leaves (loosened (both (some_row (λ r. belongs_to c.args.owner (session_of r)) (take (c.loop-at.at + 1) c.args.rows.now.entries)) (on_unchanged c.args.pid))) c.args.copies.now m) (sym w.copies-is)
            (walk_more_of (λ r. belongs_to c.args.owner (session_of r)) c.args.rows.now.entries c.loop-at.at (c.loop-at.at + 1) next c.args.copies.now c.loop-at.copies w.detach_pid_one.new.copies (on_unchanged c.args.pid) w.in-Some.number.now w.in-Some.session.now
            (sym w.in-Some.ensures.entry) c.loop-at.invariant.left w.detach_pid_one.ensures.left);
        steps = omega (arith, w.steps-is, w.detach_pid_one.ensures.steps, c.loop-at.invariant.steps);
      }
      | in_default w ↦ record {
        lasts = ap (λ (m : Meaning). m.lasts) w.copies-is ∙ c.loop-at.invariant.lasts;
        left =
            subst (λ m. Leaves (loosened (both (some_row (λ r. belongs_to c.args.owner (session_of r)) (take (c.loop-at.at + 1) c.args.rows.now.entries)) (on_unchanged c.args.pid))) c.args.copies.now m) (sym w.copies-is)
            (subst (λ l. Leaves (loosened (both (some_row (λ r. belongs_to c.args.owner (session_of r)) l) (on_unchanged c.args.pid))) c.args.copies.now c.loop-at.copies)
            (take_none c.loop-at.at (c.loop-at.at + 1) next c.args.rows.now.entries (sym w.in_default.ensures.entry)) c.loop-at.invariant.left);
        steps = omega (arith, w.steps-is, c.loop-at.invariant.steps);
      }
    ]

pub returns-clause-left : goal.returns-clause-left
returns-clause-left g c =
    let end : c.loop-at.at ≡ length c.args.rows.now.entries = omega (arith, c.loop-at-test.false, c.loop-at.auto.at-end, c.len-at-end.ensures.len) in
    subst (λ l. Leaves (loosened (both (some_row (λ r. belongs_to c.args.owner (session_of r)) l) (on_unchanged c.args.pid))) c.args.copies.now c.loop-at.copies) (ap (λ n. take n c.args.rows.now.entries) end ∙ take_all c.args.rows.now.entries) c.loop-at.invariant.left
