use Rattle.std.proofs.Common.{ℕ, ◌≡◌, List, [], ◌∷◌, ◌++◌, subst, arith}
use Rattle.pss_recovery.specs.inner.Changes.{Begins, BeginsNone, change_in}
use Rattle.pss_recovery.proofs.ChangeLists.{never_these, nothing_left, one_more}
use Rattle.pss_recovery.proofs.decoding.changes_of.Goals as goal

pub returns-in_default-clause-only : goal.returns-in_default-clause-only
returns-in_default-clause-only c = λ _ others are.
    never_these c.args.octets.now c.changes.k c.args.count c.changes.puts c.changes.at c.changes.invariant (omega (arith, c.changes-test.true)) (subst BeginsNone c.behind-rest.ensures c.in_default.ensures) others are

pub changes-preserved : goal.changes-preserved
changes-preserved c =
    let e = c.behind-rest.ensures in
    one_more c.args.octets.now c.changes.k c.args.count c.changes.puts c.changes.at c.changes.invariant c.in-Some.head (subst (Begins c.in-Some.head) e c.in-Some.ensures) c.add_change.new.puts
    (subst (λ (r : List ℕ). c.add_change.new.puts ≡ c.changes.puts ++ change_in c.in-Some.head r ∷ []) e c.in_ok-add_change.ensures)

pub returns-else-at-octets-clause-only : goal.returns-else-at-octets-clause-only
returns-else-at-octets-clause-only c = λ _ others are.
    c.if-at-octets.false (nothing_left c.args.octets.now c.changes.k c.args.count c.changes.puts c.changes.at c.changes.invariant (omega (arith, c.changes.auto.k-end, c.changes-test.false)) others are)
