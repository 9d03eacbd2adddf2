use Rattle.std.proofs.Common.{find, Some, drop, cond, suc, ◌≡◌, ◌+◌, sym, ap, ◌∙◌, arith}
use Rattle.std.specs.Option.{option_map}
use Rattle.pss_session.specs.inner.Rows.{is_open_row}
use Rattle.pss_session.proofs.Fronts.{find_from, drop_none}
use Rattle.pss_session.proofs.rows.first_open.Goals.{in-Some+else-is_open_in, in_default}
use Rattle.pss_session.proofs.rows.first_open.Goals as goal

pub returns-then-is_open_in : goal.returns-then-is_open_in
returns-then-is_open_in c =
    ap (option_map (λ e. record { 0 = e.0 }))
    (ap (λ b. cond b (Some (c.in-Some.number.now, c.in-Some.record.now)) (find (is_open_row c.args.owner) (drop (suc c.loop-at.at) c.args.rows.now.entries))) (sym c.if-is_open_in.true ∙ c.is_open_in.ensures)
    ∙ sym (find_from (is_open_row c.args.owner) c.loop-at.at c.args.rows.now.entries (c.in-Some.number.now, c.in-Some.record.now) (sym c.in-Some.ensures.entry)) ∙ c.loop-at.invariant)

pub loop-at-preserved : goal.loop-at-preserved
loop-at-preserved c =
    let next : c.loop-at.at + 1 ≡ suc c.loop-at.at = omega arith in
    ap (λ n. find (is_open_row c.args.owner) (drop n c.args.rows.now.entries)) next ∙ (elim c.match-get_index.branch [
      | in-Some+else-is_open_in w ↦
          ap (λ b. cond b (Some (w.in-Some.number.now, w.in-Some.record.now)) (find (is_open_row c.args.owner) (drop (suc c.loop-at.at) c.args.rows.now.entries))) (sym w.if-is_open_in.false ∙ w.is_open_in.ensures)
          ∙ sym (find_from (is_open_row c.args.owner) c.loop-at.at c.args.rows.now.entries (w.in-Some.number.now, w.in-Some.record.now) (sym w.in-Some.ensures.entry)) ∙ c.loop-at.invariant
      | in_default w ↦ ap (find (is_open_row c.args.owner)) (drop_none c.loop-at.at c.args.rows.now.entries (sym w.in_default.ensures.entry)) ∙ c.loop-at.invariant
    ])
