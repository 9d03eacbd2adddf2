use Rattle.std.proofs.Common.{Some, inr, sym, ap, ◌∙◌}
use Rattle.std.proofs.lemmas.Bool.{false≢true}
use Rattle.pss_recovery.specs.inner.Checks.{object_of}
use Rattle.pss_recovery.proofs.Rows.{stored_of}
use Rattle.pss_recovery.proofs.checking.values_of.Goals as goal

pub record_in-requires : goal.record_in-requires
record_in-requires c = c.requires.sound.layouts (record { 0 = c.args.row.now.home }) c.in-Some.home.now (sym c.in-Some.ensures)

pub returns-else-record_refers_below-clause-refused : goal.returns-else-record_refers_below-clause-refused
returns-else-record_refers_below-clause-refused c = λ k e.
    let row = c.args.row.now in
    let values = c.in-Ok.values in
    let stored = stored_of c.args.schema.now row c.in-Some.home.now c.as_slice.result.now values (sym c.in-Some.ensures) (c.in-Some-bytes.is ∙ ap Some (sym c.as_slice.ensures)) (c.in-Ok.ensures.found).0 (c.in-Ok.ensures.found).1 in
    inr (inr (cc, (object_of row values, stored, λ r. false≢true (sym c.if-record_refers_below.false ∙ c.record_refers_below.ensures.1 r))))
