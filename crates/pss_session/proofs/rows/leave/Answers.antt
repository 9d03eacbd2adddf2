use Rattle.std.proofs.Common.{◌≡◌, ◌+◌, suc, length, slice_get, sym, ap, ◌∙◌, arith}
use Rattle.std.specs.Map.{values_of}
use Rattle.indexmap.specs.IndexMap.{set_value_at}
use Rattle.pss_session.specs.inner.Rows.{left_row}
use Rattle.pss_session.proofs.Fronts.{front, front_none, front_all, stepped}
use Rattle.pss_session.proofs.rows.leave.Goals.{in-Some, in_default}
use Rattle.pss_session.proofs.rows.leave.Goals as goal

pub loop-at-preserved : goal.loop-at-preserved
loop-at-preserved c =
    let next : c.loop-at.at + 1 ≡ suc c.loop-at.at = omega arith in
    (elim c.match-get_index_mut.branch [
      | in-Some w ↦
          ap (λ m. m.entries) w.rows-is ∙ ap (set_value_at c.loop-at.rows.entries c.loop-at.at) w.leave.ensures
          ∙ stepped (left_row c.args.owner) c.loop-at.at c.args.rows.now.entries c.loop-at.rows.entries c.loop-at.invariant _ (sym w.in-Some.ensures.value)
      | in_default w ↦
          ap (λ m. m.entries) w.rows-is ∙ c.loop-at.invariant
          ∙ front_none (left_row c.args.owner) c.loop-at.at c.args.rows.now.entries (ap (λ l. slice_get (values_of l) c.loop-at.at) (sym c.loop-at.invariant) ∙ sym w.in_default.ensures.value)
    ]) ∙ ap (λ n. front (left_row c.args.owner) n c.args.rows.now.entries) (sym next)

pub returns : goal.returns
returns c =
    let end : c.loop-at.at ≡ length c.args.rows.now.entries = omega (arith, c.loop-at-test.false, c.loop-at.auto.at-end, c.len-at-end.ensures.len) in
    c.loop-at.invariant ∙ ap (λ n. front (left_row c.args.owner) n c.args.rows.now.entries) end ∙ front_all (left_row c.args.owner) c.args.rows.now.entries
