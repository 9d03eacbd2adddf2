use Rattle.std.proofs.Common.{ℕ, ◌≡◌, ◌+◌, ◌-◌, List, length, sym, subst, arith}
use Rattle.pss_catalog.specs.declared.row.Row.{Row}
use Rattle.pss_catalog.specs.inner.Rows.{bases_in, ArePlaced}
use Rattle.pss_catalog.proofs.Passes.{may_place, place_one}
use Rattle.pss_catalog.proofs.table.place_all.Goals as goal

pub place-requires-clause-fits : goal.place-requires-clause-fits
place-requires-clause-fits c =
    (may_place (length c.args.rows.now - 1) (bases_in c.args.rows.now) c.loop-number.number c.loop-number.rows c.loop-number.invariant.0 c.loop-number.invariant.1 (omega (arith, c.loop-number-test.true))).fits

pub place-requires-clause-more : goal.place-requires-clause-more
place-requires-clause-more c =
    (may_place (length c.args.rows.now - 1) (bases_in c.args.rows.now) c.loop-number.number c.loop-number.rows c.loop-number.invariant.0 c.loop-number.invariant.1 (omega (arith, c.loop-number-test.true))).more

pub loop-number-preserved : goal.loop-number-preserved
loop-number-preserved c =
    let n = length c.args.rows.now - 1 in
    let bases = bases_in c.args.rows.now in
    let step = place_one n bases c.loop-number.number c.loop-number.rows c.loop-number.invariant.0 c.loop-number.invariant.1 (omega (arith, c.loop-number-test.true)) in
    (subst (λ (l : List Row). ArePlaced n bases (c.loop-number.number + 1) l) (sym c.place.ensures) step, omega arith)

pub returns : goal.returns
returns c =
    let end : c.loop-number.number ≡ length c.args.rows.now = omega (arith, c.loop-number-test.false, c.loop-number.auto.number-end, c.requires.size) in
    subst (λ (h : ℕ). ArePlaced (length c.args.rows.now - 1) (bases_in c.args.rows.now) h c.loop-number.rows) end c.loop-number.invariant.0
