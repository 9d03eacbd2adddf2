use Rattle.std.proofs.Common.{◌≡◌, ◌+◌, suc, sym, ap, ◌∙◌, subst, arith, take}
use Rattle.incarnations.specs.Meaning.{Meaning, Leaves, loosened}
use Rattle.pss_session.specs.Meaning.{is_in}
use Rattle.pss_session.specs.inner.Rows.{session_of}
use Rattle.pss_session.specs.inner.Walks.{some_row}
use Rattle.pss_session.proofs.Leaving.{walk_more, take_none}
use Rattle.pss_session.proofs.detaching.detach_all.Goals.{in-Some, in_default}
use Rattle.pss_session.proofs.detaching.detach_all.Goals as goal

pub loop-at-preserved : goal.loop-at-preserved
loop-at-preserved g c =
    let next : c.loop-at.at + 1 ≡ suc c.loop-at.at = omega arith in
    elim c.match-get_index.branch [
      | in-Some w ↦ record {
        lasts = ap (λ (m : Meaning). m.lasts) w.copies-is ∙ w.detach_one.ensures.lasts ∙ c.loop-at.invariant.lasts;
        left =
            subst (λ m. Leaves (loosened (some_row (λ r. is_in c.args.owner (session_of r)) (take (c.loop-at.at + 1) c.args.rows.now.entries))) c.args.copies.now m) (sym w.copies-is)
            (walk_more (λ r. is_in c.args.owner (session_of r)) c.args.rows.now.entries c.loop-at.at (c.loop-at.at + 1) next c.args.copies.now c.loop-at.copies w.detach_one.new.copies w.in-Some.number.now w.in-Some.session.now (sym w.in-Some.ensures.entry)
            c.loop-at.invariant.left w.detach_one.ensures.left);
      }
      | in_default w ↦ record {
        lasts = ap (λ (m : Meaning). m.lasts) w.copies-is ∙ c.loop-at.invariant.lasts;
        left =
            subst (λ m. Leaves (loosened (some_row (λ r. is_in c.args.owner (session_of r)) (take (c.loop-at.at + 1) c.args.rows.now.entries))) c.args.copies.now m) (sym w.copies-is)
            (subst (λ l. Leaves (loosened (some_row (λ r. is_in c.args.owner (session_of r)) l)) c.args.copies.now c.loop-at.copies) (take_none c.loop-at.at (c.loop-at.at + 1) next c.args.rows.now.entries (sym w.in_default.ensures.entry)) c.loop-at.invariant.left);
      }
    ]
