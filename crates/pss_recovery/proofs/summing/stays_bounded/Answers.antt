use Rattle.std.proofs.Common.{◌≡◌, ◌↔◌, ◌+◌, ◌≤◌, IsTrue, List, arith, subst}
use Rattle.pss_catalog.specs.Catalog.{total}
use Rattle.storage_home.specs.declared.change.Change.{Change}
use Rattle.pss_recovery.specs.Loading.{most_octets}
use Rattle.pss_recovery.specs.inner.Sums.{new_weights, old_weights}
use Rattle.pss_recovery.proofs.Totals.{sum_after}
use Rattle.pss_recovery.proofs.summing.stays_bounded.Goals as goal

pub returns : goal.returns
returns c = λ S M kept steps are.
    let left = subst (λ (l : List Change). c.weight_left-left.result + old_weights S M l ≡ total S M) c.as_slice.ensures.items (c.weight_left-left.ensures S M kept) in
    let sum = sum_after S M c.args.changes.now steps c.as_slice.ensures.rising are in
    let fits = subst (λ (l : List Change). IsTrue c.fits_with.result ↔ (c.weight_left-left.result + new_weights l ≤ most_octets)) c.as_slice-2.ensures.items c.fits_with.ensures in
    ((λ e. let le = fits.0 e in omega (arith, le, left, sum)), (λ le. fits.1 (omega (arith, le, left, sum))))
