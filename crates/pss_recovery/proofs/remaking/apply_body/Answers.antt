use Rattle.pss_recovery.specs.inner.Remaking.{MakeSteps}
use Rattle.pss_recovery.proofs.Joins.{is_made_of, stays_of}
use Rattle.pss_recovery.proofs.remaking.apply_body.Goals as goal

pub apply_changes-requires : goal.apply_changes-requires
apply_changes-requires c =
    let S = c.args.schema.now in
    let M = c.requires.0 in
    let made : MakeSteps S M c.args.body.next c.args.body.puts c.in-Ok-Some.changes = (rw c.in-Ok-Some.field-0-is at c.in-Ok-Some.ensures.found) M c.requires.1 in
    record { schema = S; catalog = M; steps = made.steps; kept = c.requires.1; are = made.are }

pub returns-in-Ok-Some-clause-made : goal.returns-in-Ok-Some-clause-made
returns-in-Ok-Some-clause-made c = λ e M kept.
    let S = c.args.schema.now in
    let made : MakeSteps S M c.args.body.next c.args.body.puts c.in-Ok-Some.changes = (rw c.in-Ok-Some.field-0-is at c.in-Ok-Some.ensures.found) M kept in
    is_made_of S M c.args.next c.args.body c.in-Ok-Some.changes c.apply_changes.new.homes (c.is_ordered.ensures.0 c.if-not-is_ordered.false) made (c.apply_changes.ensures.made e S M made.steps kept made.are)

pub returns-in-Ok-Some-clause-refused : goal.returns-in-Ok-Some-clause-refused
returns-in-Ok-Some-clause-refused c = λ e M N kept changed.
    let S = c.args.schema.now in
    let made : MakeSteps S M c.args.body.next c.args.body.puts c.in-Ok-Some.changes = (rw c.in-Ok-Some.field-0-is at c.in-Ok-Some.ensures.found) M kept in
    c.apply_changes.ensures.refused e S M made.steps kept made.are (stays_of S M c.args.next c.args.body N made.steps made.made changed)
