use Rattle.std.proofs.Common.{ℕ, ◌≡◌, ◌+◌, ◌-◌, List, length, refl, sym, subst, arith}
use Rattle.pss_catalog.specs.declared.row.Row.{Row}
use Rattle.pss_catalog.specs.inner.Rows.{bases_in, AreCounted}
use Rattle.pss_catalog.proofs.Passes.{fresh_counted, may_count, count_one}
use Rattle.pss_catalog.proofs.table.count_all.Goals as goal

pub loop-back-init : goal.loop-back-init
loop-back-init c = (fresh_counted (length c.args.rows.now - 1) c.args.rows.now c.requires, refl, omega arith)

pub count-requires-clause-above : goal.count-requires-clause-above
count-requires-clause-above c =
    (may_count (length c.args.rows.now - 1) (bases_in c.args.rows.now) (length c.args.rows.now - c.loop-back.back) c.loop-back.rows c.loop-back.invariant.0 (omega (arith, c.loop-back-test.true)) (omega (arith, c.loop-back.invariant.2))).there

pub count-requires-clause-fits : goal.count-requires-clause-fits
count-requires-clause-fits c =
    (may_count (length c.args.rows.now - 1) (bases_in c.args.rows.now) (length c.args.rows.now - c.loop-back.back) c.loop-back.rows c.loop-back.invariant.0 (omega (arith, c.loop-back-test.true)) (omega (arith, c.loop-back.invariant.2))).fits

pub loop-back-preserved : goal.loop-back-preserved
loop-back-preserved c =
    let n = length c.args.rows.now - 1 in
    let bases = bases_in c.args.rows.now in
    let h = length c.args.rows.now - c.loop-back.back in
    let step = count_one n bases h c.loop-back.rows c.loop-back.invariant.0 (omega (arith, c.loop-back-test.true)) (omega (arith, c.loop-back.invariant.2)) in
    let fewer : h - 1 ≡ length c.args.rows.now - (c.loop-back.back + 1) = omega arith in
    (subst (λ (k : ℕ). AreCounted n bases k c.count.new.rows) fewer (subst (λ (l : List Row). AreCounted n bases (h - 1) l) (sym c.count.ensures) step), c.loop-back.invariant.1, omega arith)
