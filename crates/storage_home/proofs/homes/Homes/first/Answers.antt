use Rattle.std.proofs.Common.{sym, subst}
use Rattle.storage_home.specs.Kept.{IsKept}
use Rattle.storage_home.specs.inner.Queues.{IsApart, AreIn, IsListing}
use Rattle.storage_home.proofs.Holding.{if_ok}
use Rattle.storage_home.proofs.Merging.{apart_kept, in_kept, listing_kept}
use Rattle.storage_home.proofs.homes.Homes.first.Goals as goal

pub first_of-requires-clause-apart : goal.first_of-requires-clause-apart
first_of-requires-clause-apart c = subst IsApart (sym c.deref.ensures.value) (apart_kept c.self.invariant.0 c.self.invariant.1 c.self.inside.parts c.self.invariant.2)

pub first_of-requires-clause-there : goal.first_of-requires-clause-there
first_of-requires-clause-there c =
    let any = c.self.invariant in
    subst (λ l. AreIn l c.heirs.result.now) (sym c.deref.ensures.value)
    (in_kept any.0 any.1 c.self.inside.parts any.2 c.args.home c.heirs.result.now (c.heirs.ensures any.0 any.2.sound any.2.families))

pub returns : goal.returns
returns c =
    if_ok c.first_of.result
    (λ pids all S M kept.
    let within = subst (IsKept S M) (sym c.self.view_is) kept in
    all S M c.args.home (subst (λ l. IsListing S M c.args.home l c.heirs.result.now) (sym c.deref.ensures.value) (listing_kept S M c.self.inside.parts within c.args.home c.heirs.result.now (c.heirs.ensures S within.sound within.families))))
    c.first_of.ensures
