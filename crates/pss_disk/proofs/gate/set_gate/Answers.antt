use Rattle.std.proofs.Common.{ℕ, ◌≡◌, ◌≢◌, ◌∷◌, [], inr, refl}
use Rattle.pss_disk.specs.Octets.{range_of, write}
use Rattle.pss_disk.proofs.Calls.{on_err}
use Rattle.pss_disk.proofs.Images.{agrees_write, misses_but, stays_same_known, stays_then, stays_written, synced_settled}
use Rattle.pss_disk.proofs.Stretches.{stretch_start, stretch_write, synced_images, synced_quiet}
use Rattle.pss_disk.proofs.gate.set_gate.Goals as goal

pub returns-in_err-write_at-clause-images : goal.returns-in_err-write_at-clause-images
returns-in_err-write_at-clause-images g c =
    let S : ℕ → Type 0 = λ i. i ≢ c.args.gate in
    let old = c.args.station.now in
    let mid = c.write_at.new.self in
    let bytes = c.args.octet ∷ [] in
    let content = g.W.Station.content old in
    let first = g.W.Station.now old in
    let one = stretch_start S content first (g.W.Station.history old) c.requires.settled in
    let two = stretch_write S content first _ _ (g.W.Station.history mid) first one (range_of c.args.gate bytes) (g.W.Station.now mid) (misses_but c.args.gate) c.write_at.ensures.time c.in_err-write_at.ensures.maybe in
    two.images

pub returns-in_err-write_at-clause-quiet : goal.returns-in_err-write_at-clause-quiet
returns-in_err-write_at-clause-quiet g c =
    let S : ℕ → Type 0 = λ i. i ≢ c.args.gate in
    let old = c.args.station.now in
    let mid = c.write_at.new.self in
    let bytes = c.args.octet ∷ [] in
    let content = g.W.Station.content old in
    let first = g.W.Station.now old in
    let one = stretch_start S content first (g.W.Station.history old) c.requires.settled in
    let two = stretch_write S content first _ _ (g.W.Station.history mid) first one (range_of c.args.gate bytes) (g.W.Station.now mid) (misses_but c.args.gate) c.write_at.ensures.time c.in_err-write_at.ensures.maybe in
    two.quiet

pub returns-in_err-sync-clause-images : goal.returns-in_err-sync-clause-images
returns-in_err-sync-clause-images g c =
    let S : ℕ → Type 0 = λ i. i ≢ c.args.gate in
    let old = c.args.station.now in
    let mid = c.write_at.new.self in
    let bytes = c.args.octet ∷ [] in
    let content = g.W.Station.content old in
    let first = g.W.Station.now old in
    let one = stretch_start S content first (g.W.Station.history old) c.requires.settled in
    let two = stretch_write S content first _ _ (g.W.Station.history mid) first one (range_of c.args.gate bytes) (g.W.Station.now mid) (misses_but c.args.gate) c.write_at.ensures.time (inr c.in_ok-write_at.ensures.now) in
    synced_images S content first _ _ (g.W.Station.history c.sync.new.self) (g.W.Station.now mid) two (g.W.Station.content mid) (write c.args.gate bytes) c.in_ok-write_at.ensures.written (λ x. agrees_write S c.args.gate bytes x (misses_but c.args.gate)) c.sync.ensures.time

pub returns-in_err-sync-clause-quiet : goal.returns-in_err-sync-clause-quiet
returns-in_err-sync-clause-quiet g c =
    let S : ℕ → Type 0 = λ i. i ≢ c.args.gate in
    let old = c.args.station.now in
    let mid = c.write_at.new.self in
    let bytes = c.args.octet ∷ [] in
    let content = g.W.Station.content old in
    let first = g.W.Station.now old in
    let one = stretch_start S content first (g.W.Station.history old) c.requires.settled in
    let two = stretch_write S content first _ _ (g.W.Station.history mid) first one (range_of c.args.gate bytes) (g.W.Station.now mid) (misses_but c.args.gate) c.write_at.ensures.time (inr c.in_ok-write_at.ensures.now) in
    synced_quiet S content first _ _ (g.W.Station.history c.sync.new.self) (g.W.Station.now mid) two (g.W.Station.content mid) c.sync.ensures.time

pub returns-clause-images : goal.returns-clause-images
returns-clause-images g c =
    let S : ℕ → Type 0 = λ i. i ≢ c.args.gate in
    let old = c.args.station.now in
    let mid = c.write_at.new.self in
    let bytes = c.args.octet ∷ [] in
    let content = g.W.Station.content old in
    let first = g.W.Station.now old in
    let one = stretch_start S content first (g.W.Station.history old) c.requires.settled in
    let two = stretch_write S content first _ _ (g.W.Station.history mid) first one (range_of c.args.gate bytes) (g.W.Station.now mid) (misses_but c.args.gate) c.write_at.ensures.time (inr c.in_ok-write_at.ensures.now) in
    synced_images S content first _ _ (g.W.Station.history c.sync.new.self) (g.W.Station.now mid) two (g.W.Station.content mid) (write c.args.gate bytes) c.in_ok-write_at.ensures.written (λ x. agrees_write S c.args.gate bytes x (misses_but c.args.gate)) c.sync.ensures.time

pub returns-clause-quiet : goal.returns-clause-quiet
returns-clause-quiet g c =
    let S : ℕ → Type 0 = λ i. i ≢ c.args.gate in
    let old = c.args.station.now in
    let mid = c.write_at.new.self in
    let bytes = c.args.octet ∷ [] in
    let content = g.W.Station.content old in
    let first = g.W.Station.now old in
    let one = stretch_start S content first (g.W.Station.history old) c.requires.settled in
    let two = stretch_write S content first _ _ (g.W.Station.history mid) first one (range_of c.args.gate bytes) (g.W.Station.now mid) (misses_but c.args.gate) c.write_at.ensures.time (inr c.in_ok-write_at.ensures.now) in
    synced_quiet S content first _ _ (g.W.Station.history c.sync.new.self) (g.W.Station.now mid) two (g.W.Station.content mid) c.sync.ensures.time

pub returns-in_err-sync-clause-failed : goal.returns-in_err-sync-clause-failed
returns-in_err-sync-clause-failed g c =
    let range = range_of c.args.gate (c.args.octet ∷ []) in
    on_err c.from_residual-in_err-sync.result _
    (stays_then range _ (g.W.Station.content c.write_at.new.self) _ (stays_written c.args.gate (c.args.octet ∷ []) _ _ c.in_ok-write_at.ensures.written) (stays_same_known range _ _ c.sync.ensures.content))

pub returns-clause-settled : goal.returns-clause-settled
returns-clause-settled g c = synced_settled (g.W.Station.content c.write_at.new.self) _ (g.W.Station.now c.write_at.new.self) _ c.in_ok-sync.ensures.durable c.sync.ensures.content
