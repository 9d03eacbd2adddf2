use Rattle.std.proofs.Common.{◌≡◌, ◌∙◌, ap, Err, arith}
use Rattle.page_format.specs.declared.stop.PageStop.TheVariants.{Damaged as DamagedAt}
use Rattle.page_format.proofs.NextEntry.{all_placed, gathered_more, wrong_next}
use Rattle.page_format.proofs.gathered.take_entries.Goals as goal

pub returns-in-Err-clause-damaged : goal.returns-in-Err-clause-damaged
returns-in-Err-clause-damaged c = λ place kind same.
    let e : c.in-Err.stop ≡ DamagedAt place kind = cc in
    let wrong = c.in-Err.ensures.damaged place kind (ap Err e) in
    wrong_next c.args.page.now.octets.now _ c.args.page.now.next c.args.page.now.slot _ _ c.entries.k c.entries.at _ _ c.entries.invariant.so_far place kind (omega (arith, c.requires.used)) (omega (arith, c.entries-test.true, c.requires.count)) wrong.0 wrong.1

pub entries-preserved : goal.entries-preserved
entries-preserved c = record {
  so_far = gathered_more c.args.page.now.octets.now _ c.args.page.now.next c.args.page.now.slot _ _ c.entries.k c.entries.at _ _ c.entries.invariant.so_far c.in-Ok.behind _ _ c.in-Ok.ensures.fits c.in-Ok.ensures.given c.in-Ok.ensures.behind c.in-Ok.ensures.places c.in-Ok.ensures.rows;
  small = c.in-Ok.ensures.small ∙ c.entries.invariant.small;
}

pub returns-clause-places : goal.returns-clause-places
returns-clause-places c = all_placed c.args.page.now.octets.now _ c.args.page.now.next c.args.page.now.slot _ _ c.entries.k c.entries.at _ _ c.entries.invariant.so_far (omega (arith, c.entries-test.false, c.requires.count))
