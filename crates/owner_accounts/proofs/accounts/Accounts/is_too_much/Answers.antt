use Rattle.std.proofs.Common.{arith}
use Rattle.std.proofs.lemmas.Bool.{lt-ltb, ltb-true, ltb_from_iff}
use Rattle.owner_accounts.proofs.May.{may_see}
use Rattle.owner_accounts.proofs.accounts.Accounts.is_too_much.Goals as goal

pub total_with-requires-clause-sees : goal.total_with-requires-clause-sees
total_with-requires-clause-sees c = may_see c.requires.by

pub total_with-requires-clause-under : goal.total_with-requires-clause-under
total_with-requires-clause-under c = c.requires.by.are.under

pub returns-then-may_be_too_much : goal.returns-then-may_be_too_much
returns-then-may_be_too_much c m =
    let reckoned = c.total_with.ensures (may_see m.by) in
    ltb_from_iff (λ more. omega (arith, ltb-true _ _ more, reckoned), λ more. lt-ltb _ _ (omega (arith, more, reckoned, c.ranges.most.fits)))
