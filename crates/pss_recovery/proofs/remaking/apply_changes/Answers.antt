use Rattle.pss_recovery.proofs.Joins.{may_make_all}
use Rattle.pss_recovery.proofs.remaking.apply_changes.Goals as goal

pub make_changes-requires : goal.make_changes-requires
make_changes-requires c =
    let r = c.requires in
    let within = (c.in_ok-stay_within.ensures r.schema r.catalog r.kept r.steps r.are).0 c.if-not-branch.false in
    may_make_all r.schema r.catalog c.args.homes.now c.args.changes r.steps r.kept r.are within

pub returns-clause-made : goal.returns-clause-made
returns-clause-made c = λ e S M steps kept are.
    let within = (c.in_ok-stay_within.ensures S M kept steps are).0 c.if-not-branch.false in
    record { within = within; kept = c.in_ok-make_changes.ensures (may_make_all S M c.args.homes.now c.args.changes steps kept are within) }
