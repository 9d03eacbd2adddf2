use Rattle.std.proofs.Common.{ℕ, ◌≢◌, ◌∙◌}
use Rattle.pss_disk.specs.Images.{Keeps}
use Rattle.pss_disk.specs.Moments.{Through}
use Rattle.pss_disk.proofs.Passing.{then_come, weaker}
use Rattle.page_store.specs.Gates.{IsAnywhere}
use Rattle.page_format.proofs.Buffers.{some_all}
use Rattle.page_store.proofs.GateOctets.{from_before, keeps_there, not_closed, not_still, quiet_before, read_keeps, read_quiet}
use Rattle.page_store.proofs.gates.close_gate.Goals as goal

pub returns-in-Ok-true-clause-images : goal.returns-in-Ok-true-clause-images
returns-in-Ok-true-clause-images g c =
    let S : ℕ → Type 0 = λ i. i ≢ c.args.gate in
    let old = g.W.Station.content c.args.w.now in
    let reads = c.in-Ok-true.ensures.reads in
    then_come _ _ _ (Keeps S old) (read_keeps S old _ _ _ c.requires.settled reads.time) (from_before S old _ _ _ reads.same c.set_gate.ensures.images)

pub returns-in-Ok-true-clause-still : goal.returns-in-Ok-true-clause-still
returns-in-Ok-true-clause-still g c =
    let S : ℕ → Type 0 = λ i. i ≢ c.args.gate in
    let old = g.W.Station.content c.args.w.now in
    let reads = c.in-Ok-true.ensures.reads in
    let came : Through (g.W.Station.history c.args.w.now) (g.W.Station.history c.set_gate.new.station) (Keeps S old) =
    then_come _ _ _ (Keeps S old) (read_keeps S old _ _ _ c.requires.settled reads.time) (from_before S old _ _ _ reads.same c.set_gate.ensures.images) in
    not_still c.args.gate old c.in-Ok-true.field-0 S _ _ c.in-Ok-true.ensures.open_ c.in-Ok-true.field-0-test came

pub returns-in-Ok-true-clause-quiet : goal.returns-in-Ok-true-clause-quiet
returns-in-Ok-true-clause-quiet g c =
    let reads = c.in-Ok-true.ensures.reads in
    then_come _ _ _ _ (read_quiet _ _ _ reads.time) (quiet_before _ _ _ _ reads.still c.set_gate.ensures.quiet)

pub returns-in-Ok-false-clause-images : goal.returns-in-Ok-false-clause-images
returns-in-Ok-false-clause-images g c =
    let S : ℕ → Type 0 = λ i. i ≢ c.args.gate in
    let old = g.W.Station.content c.args.w.now in
    let reads = c.in-Ok-false.ensures.reads in
    then_come _ _ _ (Keeps S old) (read_keeps S old _ _ _ c.requires.settled reads.time) (weaker _ _ _ _ (λ m h. keeps_there S old m h) (from_before IsAnywhere old _ _ _ reads.same c.make_sure.ensures.images))

pub returns-in-Ok-false-clause-still : goal.returns-in-Ok-false-clause-still
returns-in-Ok-false-clause-still g c = λ closed.
    let old = g.W.Station.content c.args.w.now in
    let reads = c.in-Ok-false.ensures.reads in
    then_come _ _ _ (Keeps IsAnywhere old) (read_keeps IsAnywhere old _ _ _ c.requires.settled reads.time) (from_before IsAnywhere old _ _ _ reads.same c.make_sure.ensures.images)

pub returns-in-Ok-false-clause-quiet : goal.returns-in-Ok-false-clause-quiet
returns-in-Ok-false-clause-quiet g c =
    let reads = c.in-Ok-false.ensures.reads in
    then_come _ _ _ _ (read_quiet _ _ _ reads.time) (quiet_before _ _ _ _ reads.still c.make_sure.ensures.quiet)

pub returns-in-Err-clause-images : goal.returns-in-Err-clause-images
returns-in-Err-clause-images g c = read_keeps (λ i. i ≢ c.args.gate) (g.W.Station.content c.args.w.now) _ _ _ c.requires.settled c.in-Err.ensures.reads.time

pub returns-in-Err-clause-still : goal.returns-in-Err-clause-still
returns-in-Err-clause-still g c = λ closed. read_keeps IsAnywhere (g.W.Station.content c.args.w.now) _ _ _ c.requires.settled c.in-Err.ensures.reads.time

pub returns-in-Err-clause-quiet : goal.returns-in-Err-clause-quiet
returns-in-Err-clause-quiet g c = read_quiet _ _ _ c.in-Err.ensures.reads.time

pub returns-in-Ok-true-clause-same : goal.returns-in-Ok-true-clause-same
returns-in-Ok-true-clause-same g c = not_closed c.args.gate (g.W.Station.content c.args.w.now) c.in-Ok-true.field-0 _ c.in-Ok-true.ensures.open_ c.in-Ok-true.field-0-test

pub returns-in-Ok-false-clause-same : goal.returns-in-Ok-false-clause-same
returns-in-Ok-false-clause-same g c = some_all (g.W.Station.content c.args.w.now) _ (λ x closed. c.make_sure.ensures.content ∙ c.in-Ok-false.ensures.reads.same)

pub returns-in-Err-clause-same : goal.returns-in-Err-clause-same
returns-in-Err-clause-same g c = some_all (g.W.Station.content c.args.w.now) _ (λ x closed. c.in-Err.ensures.reads.same)
