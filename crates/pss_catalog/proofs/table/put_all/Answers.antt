use Rattle.std.proofs.Common.{ℕ, ◌≡◌, ◌+◌, ◌-◌, length, subst, ◌∙◌, arith}
use Rattle.std.proofs.lemmas.List.{length-set}
use Rattle.pss_catalog.specs.inner.Table.{IsOrdered}
use Rattle.pss_catalog.specs.inner.Rows.{place_of, home_at_place}
use Rattle.pss_catalog.proofs.Passes.{all_in_place, put_one, in_order}
use Rattle.pss_catalog.proofs.table.put_all.Goals as goal

pub loop-number-preserved : goal.loop-number-preserved
loop-number-preserved c =
    let rows = c.args.rows.now in
    let order = c.loop-number.order in
    let all = all_in_place rows c.requires.placed in
    let size : length order ≡ length rows - 1 = omega (arith, c.requires.room, c.loop-number.invariant.0) in
    (length-set order _ _ ∙ c.loop-number.invariant.0, put_one (length rows - 1) rows order c.loop-number.number all size c.loop-number.invariant.2 (omega (arith, c.loop-number-test.true)) c.loop-number.invariant.1, omega arith)

pub returns : goal.returns
returns c =
    let rows = c.args.rows.now in
    let order = c.loop-number.order in
    let all = all_in_place rows c.requires.placed in
    let size : length order ≡ length rows - 1 = omega (arith, c.requires.room, c.loop-number.invariant.0) in
    let end : c.loop-number.number ≡ length rows - 1 + 1 = omega (arith, c.loop-number-test.false, c.loop-number.auto.number-end, c.requires.placed.size) in
    in_order (length rows - 1) rows order all size (subst (λ (h : ℕ). IsOrdered h (place_of rows) (home_at_place order)) end c.loop-number.invariant.1)
