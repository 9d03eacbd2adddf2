use Rattle.std.proofs.Common.{◌≡◌, ◌+◌, [], ◌∷◌, length, inr, refl, ap, ◌∙◌, arith}
use Rattle.pss_disk.specs.Images.{IsOutside}
use Rattle.pss_disk.specs.Octets.{range_of, write}
use Rattle.pss_disk.proofs.Calls.{on_err}
use Rattle.pss_disk.proofs.Images.{agrees_write, misses_part, stays_same_known, stays_then, stays_wider, stays_written, synced_settled}
use Rattle.pss_disk.proofs.Stretches.{stretch_start, synced_images, synced_quiet}
use Rattle.redo_journal.specs.inner.Laying.{laid}
use Rattle.redo_journal.proofs.Keeping.{stays_within_range, write_within_range}
use Rattle.redo_journal.proofs.Lengths.{lengths_start, lengths_sync, lengths_write}
use Rattle.redo_journal.proofs.Spelling.{length-header, length-laid, three_writes}
use Rattle.redo_journal.proofs.journal.lay.Goals as goal

pub returns-in_err-write_at-clause-images : goal.returns-in_err-write_at-clause-images
returns-in_err-write_at-clause-images g c =
    let body = c.args.body.now in
    let bytes = laid c.args.epoch body in
    let range = range_of (c.args.end + 1) bytes in
    let n : length bytes ≡ 13 + length body = length-laid c.args.epoch body in
    let h : length c.write_header.result ≡ 12 = ap length c.write_header.ensures ∙ length-header c.args.epoch (length body) in
    let s0 = stretch_start (IsOutside range) (g.W.Station.content c.args.w.now) (g.W.Station.now c.args.w.now) (g.W.Station.history c.args.w.now) c.requires.settled in
    let s1 = write_within_range range (g.W.Station.content c.args.w.now) (g.W.Station.now c.args.w.now) (g.W.Station.history c.args.w.now) (g.W.Station.history c.args.w.now) (g.W.Station.history c.write_at.new.self) (g.W.Station.now c.args.w.now) (g.W.Station.now c.write_at.new.self) (c.args.end + 1) c.write_header.result (omega arith) (omega (arith, n, h)) s0 c.write_at.ensures.time c.in_err-write_at.ensures.maybe in
    s1.images

pub returns-in_err-write_at-clause-quiet : goal.returns-in_err-write_at-clause-quiet
returns-in_err-write_at-clause-quiet g c =
    let body = c.args.body.now in
    let bytes = laid c.args.epoch body in
    let range = range_of (c.args.end + 1) bytes in
    let n : length bytes ≡ 13 + length body = length-laid c.args.epoch body in
    let h : length c.write_header.result ≡ 12 = ap length c.write_header.ensures ∙ length-header c.args.epoch (length body) in
    let s0 = stretch_start (IsOutside range) (g.W.Station.content c.args.w.now) (g.W.Station.now c.args.w.now) (g.W.Station.history c.args.w.now) c.requires.settled in
    let s1 = write_within_range range (g.W.Station.content c.args.w.now) (g.W.Station.now c.args.w.now) (g.W.Station.history c.args.w.now) (g.W.Station.history c.args.w.now) (g.W.Station.history c.write_at.new.self) (g.W.Station.now c.args.w.now) (g.W.Station.now c.write_at.new.self) (c.args.end + 1) c.write_header.result (omega arith) (omega (arith, n, h)) s0 c.write_at.ensures.time c.in_err-write_at.ensures.maybe in
    s1.quiet

pub returns-in_err-write_at-2-clause-images : goal.returns-in_err-write_at-2-clause-images
returns-in_err-write_at-2-clause-images g c =
    let body = c.args.body.now in
    let bytes = laid c.args.epoch body in
    let range = range_of (c.args.end + 1) bytes in
    let n : length bytes ≡ 13 + length body = length-laid c.args.epoch body in
    let h : length c.write_header.result ≡ 12 = ap length c.write_header.ensures ∙ length-header c.args.epoch (length body) in
    let s0 = stretch_start (IsOutside range) (g.W.Station.content c.args.w.now) (g.W.Station.now c.args.w.now) (g.W.Station.history c.args.w.now) c.requires.settled in
    let s1 = write_within_range range (g.W.Station.content c.args.w.now) (g.W.Station.now c.args.w.now) (g.W.Station.history c.args.w.now) (g.W.Station.history c.args.w.now) (g.W.Station.history c.write_at.new.self) (g.W.Station.now c.args.w.now) (g.W.Station.now c.write_at.new.self) (c.args.end + 1) c.write_header.result (omega arith) (omega (arith, n, h)) s0 c.write_at.ensures.time (inr c.in_ok-write_at.ensures.now) in
    let s2 = write_within_range range (g.W.Station.content c.args.w.now) (g.W.Station.now c.args.w.now) (g.W.Station.history c.args.w.now) (g.W.Station.history c.write_at.new.self) (g.W.Station.history c.write_at-2.new.self) (g.W.Station.now c.write_at.new.self) (g.W.Station.now c.write_at-2.new.self) (c.args.end + 13) body (omega arith) (omega (arith, n, h)) s1 c.write_at-2.ensures.time c.in_err-write_at-2.ensures.maybe in
    s2.images

pub returns-in_err-write_at-2-clause-quiet : goal.returns-in_err-write_at-2-clause-quiet
returns-in_err-write_at-2-clause-quiet g c =
    let body = c.args.body.now in
    let bytes = laid c.args.epoch body in
    let range = range_of (c.args.end + 1) bytes in
    let n : length bytes ≡ 13 + length body = length-laid c.args.epoch body in
    let h : length c.write_header.result ≡ 12 = ap length c.write_header.ensures ∙ length-header c.args.epoch (length body) in
    let s0 = stretch_start (IsOutside range) (g.W.Station.content c.args.w.now) (g.W.Station.now c.args.w.now) (g.W.Station.history c.args.w.now) c.requires.settled in
    let s1 = write_within_range range (g.W.Station.content c.args.w.now) (g.W.Station.now c.args.w.now) (g.W.Station.history c.args.w.now) (g.W.Station.history c.args.w.now) (g.W.Station.history c.write_at.new.self) (g.W.Station.now c.args.w.now) (g.W.Station.now c.write_at.new.self) (c.args.end + 1) c.write_header.result (omega arith) (omega (arith, n, h)) s0 c.write_at.ensures.time (inr c.in_ok-write_at.ensures.now) in
    let s2 = write_within_range range (g.W.Station.content c.args.w.now) (g.W.Station.now c.args.w.now) (g.W.Station.history c.args.w.now) (g.W.Station.history c.write_at.new.self) (g.W.Station.history c.write_at-2.new.self) (g.W.Station.now c.write_at.new.self) (g.W.Station.now c.write_at-2.new.self) (c.args.end + 13) body (omega arith) (omega (arith, n, h)) s1 c.write_at-2.ensures.time c.in_err-write_at-2.ensures.maybe in
    s2.quiet

pub returns-in_err-write_at-2-clause-failed : goal.returns-in_err-write_at-2-clause-failed
returns-in_err-write_at-2-clause-failed g c =
    let body = c.args.body.now in
    let bytes = laid c.args.epoch body in
    let range = range_of (c.args.end + 1) bytes in
    let n : length bytes ≡ 13 + length body = length-laid c.args.epoch body in
    let h : length c.write_header.result ≡ 12 = ap length c.write_header.ensures ∙ length-header c.args.epoch (length body) in
    let f1 = stays_wider range (range_of (c.args.end + 1) c.write_header.result) (g.W.Station.content c.args.w.now) (g.W.Station.content c.write_at.new.self) (omega arith) (omega (arith, n, h)) (stays_written (c.args.end + 1) c.write_header.result (g.W.Station.content c.args.w.now) (g.W.Station.content c.write_at.new.self) c.in_ok-write_at.ensures.written) in
    on_err c.from_residual-in_err-write_at-2.result _ (stays_within_range range (c.args.end + 13) body (g.W.Station.content c.args.w.now) (g.W.Station.content c.write_at.new.self) (g.W.Station.content c.write_at-2.new.self) (omega arith) (omega (arith, n, h)) f1 c.in_err-write_at-2.ensures.failed)

pub returns-in_err-write_at-3-clause-images : goal.returns-in_err-write_at-3-clause-images
returns-in_err-write_at-3-clause-images g c =
    let body = c.args.body.now in
    let bytes = laid c.args.epoch body in
    let range = range_of (c.args.end + 1) bytes in
    let n : length bytes ≡ 13 + length body = length-laid c.args.epoch body in
    let h : length c.write_header.result ≡ 12 = ap length c.write_header.ensures ∙ length-header c.args.epoch (length body) in
    let s0 = stretch_start (IsOutside range) (g.W.Station.content c.args.w.now) (g.W.Station.now c.args.w.now) (g.W.Station.history c.args.w.now) c.requires.settled in
    let s1 = write_within_range range (g.W.Station.content c.args.w.now) (g.W.Station.now c.args.w.now) (g.W.Station.history c.args.w.now) (g.W.Station.history c.args.w.now) (g.W.Station.history c.write_at.new.self) (g.W.Station.now c.args.w.now) (g.W.Station.now c.write_at.new.self) (c.args.end + 1) c.write_header.result (omega arith) (omega (arith, n, h)) s0 c.write_at.ensures.time (inr c.in_ok-write_at.ensures.now) in
    let s2 = write_within_range range (g.W.Station.content c.args.w.now) (g.W.Station.now c.args.w.now) (g.W.Station.history c.args.w.now) (g.W.Station.history c.write_at.new.self) (g.W.Station.history c.write_at-2.new.self) (g.W.Station.now c.write_at.new.self) (g.W.Station.now c.write_at-2.new.self) (c.args.end + 13) body (omega arith) (omega (arith, n, h)) s1 c.write_at-2.ensures.time (inr c.in_ok-write_at-2.ensures.now) in
    let s3 = write_within_range range (g.W.Station.content c.args.w.now) (g.W.Station.now c.args.w.now) (g.W.Station.history c.args.w.now) (g.W.Station.history c.write_at-2.new.self) (g.W.Station.history c.write_at-3.new.self) (g.W.Station.now c.write_at-2.new.self) (g.W.Station.now c.write_at-3.new.self) (c.args.end + 13 + length body) (0 ∷ []) (omega arith) (omega (arith, n, h)) s2 c.write_at-3.ensures.time c.in_err-write_at-3.ensures.maybe in
    s3.images

pub returns-in_err-write_at-3-clause-quiet : goal.returns-in_err-write_at-3-clause-quiet
returns-in_err-write_at-3-clause-quiet g c =
    let body = c.args.body.now in
    let bytes = laid c.args.epoch body in
    let range = range_of (c.args.end + 1) bytes in
    let n : length bytes ≡ 13 + length body = length-laid c.args.epoch body in
    let h : length c.write_header.result ≡ 12 = ap length c.write_header.ensures ∙ length-header c.args.epoch (length body) in
    let s0 = stretch_start (IsOutside range) (g.W.Station.content c.args.w.now) (g.W.Station.now c.args.w.now) (g.W.Station.history c.args.w.now) c.requires.settled in
    let s1 = write_within_range range (g.W.Station.content c.args.w.now) (g.W.Station.now c.args.w.now) (g.W.Station.history c.args.w.now) (g.W.Station.history c.args.w.now) (g.W.Station.history c.write_at.new.self) (g.W.Station.now c.args.w.now) (g.W.Station.now c.write_at.new.self) (c.args.end + 1) c.write_header.result (omega arith) (omega (arith, n, h)) s0 c.write_at.ensures.time (inr c.in_ok-write_at.ensures.now) in
    let s2 = write_within_range range (g.W.Station.content c.args.w.now) (g.W.Station.now c.args.w.now) (g.W.Station.history c.args.w.now) (g.W.Station.history c.write_at.new.self) (g.W.Station.history c.write_at-2.new.self) (g.W.Station.now c.write_at.new.self) (g.W.Station.now c.write_at-2.new.self) (c.args.end + 13) body (omega arith) (omega (arith, n, h)) s1 c.write_at-2.ensures.time (inr c.in_ok-write_at-2.ensures.now) in
    let s3 = write_within_range range (g.W.Station.content c.args.w.now) (g.W.Station.now c.args.w.now) (g.W.Station.history c.args.w.now) (g.W.Station.history c.write_at-2.new.self) (g.W.Station.history c.write_at-3.new.self) (g.W.Station.now c.write_at-2.new.self) (g.W.Station.now c.write_at-3.new.self) (c.args.end + 13 + length body) (0 ∷ []) (omega arith) (omega (arith, n, h)) s2 c.write_at-3.ensures.time c.in_err-write_at-3.ensures.maybe in
    s3.quiet

pub returns-in_err-write_at-3-clause-failed : goal.returns-in_err-write_at-3-clause-failed
returns-in_err-write_at-3-clause-failed g c =
    let body = c.args.body.now in
    let bytes = laid c.args.epoch body in
    let range = range_of (c.args.end + 1) bytes in
    let n : length bytes ≡ 13 + length body = length-laid c.args.epoch body in
    let h : length c.write_header.result ≡ 12 = ap length c.write_header.ensures ∙ length-header c.args.epoch (length body) in
    let f1 = stays_wider range (range_of (c.args.end + 1) c.write_header.result) (g.W.Station.content c.args.w.now) (g.W.Station.content c.write_at.new.self) (omega arith) (omega (arith, n, h)) (stays_written (c.args.end + 1) c.write_header.result (g.W.Station.content c.args.w.now) (g.W.Station.content c.write_at.new.self) c.in_ok-write_at.ensures.written) in
    let f2 = stays_within_range range (c.args.end + 13) body (g.W.Station.content c.args.w.now) (g.W.Station.content c.write_at.new.self) (g.W.Station.content c.write_at-2.new.self) (omega arith) (omega (arith, n, h)) f1 (stays_written (c.args.end + 13) body (g.W.Station.content c.write_at.new.self) (g.W.Station.content c.write_at-2.new.self) c.in_ok-write_at-2.ensures.written) in
    on_err c.from_residual-in_err-write_at-3.result _ (stays_within_range range (c.args.end + 13 + length body) (0 ∷ []) (g.W.Station.content c.args.w.now) (g.W.Station.content c.write_at-2.new.self) (g.W.Station.content c.write_at-3.new.self) (omega arith) (omega (arith, n, h)) f2 c.in_err-write_at-3.ensures.failed)

pub returns-in_err-sync-clause-failed : goal.returns-in_err-sync-clause-failed
returns-in_err-sync-clause-failed g c =
    let body = c.args.body.now in
    let bytes = laid c.args.epoch body in
    let range = range_of (c.args.end + 1) bytes in
    let is = three_writes c.args.epoch c.args.end c.write_header.result body (c.args.end + 13) (c.args.end + 13 + length body) (g.W.Station.content c.args.w.now) (g.W.Station.content c.write_at.new.self) (g.W.Station.content c.write_at-2.new.self) (g.W.Station.content c.write_at-3.new.self) refl refl c.write_header.ensures c.in_ok-write_at.ensures.written c.in_ok-write_at-2.ensures.written c.in_ok-write_at-3.ensures.written in
    on_err c.from_residual-in_err-sync.result _ (stays_then range (g.W.Station.content c.args.w.now) (g.W.Station.content c.write_at-3.new.self) (g.W.Station.content c.sync.new.self) (stays_written (c.args.end + 1) bytes (g.W.Station.content c.args.w.now) (g.W.Station.content c.write_at-3.new.self) is) (stays_same_known range (g.W.Station.content c.write_at-3.new.self) (g.W.Station.content c.sync.new.self) c.sync.ensures.content))

pub returns-in_err-sync-clause-images : goal.returns-in_err-sync-clause-images
returns-in_err-sync-clause-images g c =
    let body = c.args.body.now in
    let bytes = laid c.args.epoch body in
    let range = range_of (c.args.end + 1) bytes in
    let n : length bytes ≡ 13 + length body = length-laid c.args.epoch body in
    let h : length c.write_header.result ≡ 12 = ap length c.write_header.ensures ∙ length-header c.args.epoch (length body) in
    let s0 = stretch_start (IsOutside range) (g.W.Station.content c.args.w.now) (g.W.Station.now c.args.w.now) (g.W.Station.history c.args.w.now) c.requires.settled in
    let s1 = write_within_range range (g.W.Station.content c.args.w.now) (g.W.Station.now c.args.w.now) (g.W.Station.history c.args.w.now) (g.W.Station.history c.args.w.now) (g.W.Station.history c.write_at.new.self) (g.W.Station.now c.args.w.now) (g.W.Station.now c.write_at.new.self) (c.args.end + 1) c.write_header.result (omega arith) (omega (arith, n, h)) s0 c.write_at.ensures.time (inr c.in_ok-write_at.ensures.now) in
    let s2 = write_within_range range (g.W.Station.content c.args.w.now) (g.W.Station.now c.args.w.now) (g.W.Station.history c.args.w.now) (g.W.Station.history c.write_at.new.self) (g.W.Station.history c.write_at-2.new.self) (g.W.Station.now c.write_at.new.self) (g.W.Station.now c.write_at-2.new.self) (c.args.end + 13) body (omega arith) (omega (arith, n, h)) s1 c.write_at-2.ensures.time (inr c.in_ok-write_at-2.ensures.now) in
    let s3 = write_within_range range (g.W.Station.content c.args.w.now) (g.W.Station.now c.args.w.now) (g.W.Station.history c.args.w.now) (g.W.Station.history c.write_at-2.new.self) (g.W.Station.history c.write_at-3.new.self) (g.W.Station.now c.write_at-2.new.self) (g.W.Station.now c.write_at-3.new.self) (c.args.end + 13 + length body) (0 ∷ []) (omega arith) (omega (arith, n, h)) s2 c.write_at-3.ensures.time (inr c.in_ok-write_at-3.ensures.now) in
    let is = three_writes c.args.epoch c.args.end c.write_header.result body (c.args.end + 13) (c.args.end + 13 + length body) (g.W.Station.content c.args.w.now) (g.W.Station.content c.write_at.new.self) (g.W.Station.content c.write_at-2.new.self) (g.W.Station.content c.write_at-3.new.self) refl refl c.write_header.ensures c.in_ok-write_at.ensures.written c.in_ok-write_at-2.ensures.written c.in_ok-write_at-3.ensures.written in
    synced_images (IsOutside range) (g.W.Station.content c.args.w.now) (g.W.Station.now c.args.w.now) (g.W.Station.history c.args.w.now) (g.W.Station.history c.write_at-3.new.self) (g.W.Station.history c.sync.new.self) (g.W.Station.now c.write_at-3.new.self) s3 (g.W.Station.content c.write_at-3.new.self) (write (c.args.end + 1) bytes) is (λ x. agrees_write (IsOutside range) (c.args.end + 1) bytes x (misses_part range range (omega arith) (omega arith))) c.sync.ensures.time

pub returns-in_err-sync-clause-quiet : goal.returns-in_err-sync-clause-quiet
returns-in_err-sync-clause-quiet g c =
    let body = c.args.body.now in
    let bytes = laid c.args.epoch body in
    let range = range_of (c.args.end + 1) bytes in
    let n : length bytes ≡ 13 + length body = length-laid c.args.epoch body in
    let h : length c.write_header.result ≡ 12 = ap length c.write_header.ensures ∙ length-header c.args.epoch (length body) in
    let s0 = stretch_start (IsOutside range) (g.W.Station.content c.args.w.now) (g.W.Station.now c.args.w.now) (g.W.Station.history c.args.w.now) c.requires.settled in
    let s1 = write_within_range range (g.W.Station.content c.args.w.now) (g.W.Station.now c.args.w.now) (g.W.Station.history c.args.w.now) (g.W.Station.history c.args.w.now) (g.W.Station.history c.write_at.new.self) (g.W.Station.now c.args.w.now) (g.W.Station.now c.write_at.new.self) (c.args.end + 1) c.write_header.result (omega arith) (omega (arith, n, h)) s0 c.write_at.ensures.time (inr c.in_ok-write_at.ensures.now) in
    let s2 = write_within_range range (g.W.Station.content c.args.w.now) (g.W.Station.now c.args.w.now) (g.W.Station.history c.args.w.now) (g.W.Station.history c.write_at.new.self) (g.W.Station.history c.write_at-2.new.self) (g.W.Station.now c.write_at.new.self) (g.W.Station.now c.write_at-2.new.self) (c.args.end + 13) body (omega arith) (omega (arith, n, h)) s1 c.write_at-2.ensures.time (inr c.in_ok-write_at-2.ensures.now) in
    let s3 = write_within_range range (g.W.Station.content c.args.w.now) (g.W.Station.now c.args.w.now) (g.W.Station.history c.args.w.now) (g.W.Station.history c.write_at-2.new.self) (g.W.Station.history c.write_at-3.new.self) (g.W.Station.now c.write_at-2.new.self) (g.W.Station.now c.write_at-3.new.self) (c.args.end + 13 + length body) (0 ∷ []) (omega arith) (omega (arith, n, h)) s2 c.write_at-3.ensures.time (inr c.in_ok-write_at-3.ensures.now) in
    synced_quiet (IsOutside range) (g.W.Station.content c.args.w.now) (g.W.Station.now c.args.w.now) (g.W.Station.history c.args.w.now) (g.W.Station.history c.write_at-3.new.self) (g.W.Station.history c.sync.new.self) (g.W.Station.now c.write_at-3.new.self) s3 (g.W.Station.content c.write_at-3.new.self) c.sync.ensures.time

pub returns-clause-images : goal.returns-clause-images
returns-clause-images g c =
    let body = c.args.body.now in
    let bytes = laid c.args.epoch body in
    let range = range_of (c.args.end + 1) bytes in
    let n : length bytes ≡ 13 + length body = length-laid c.args.epoch body in
    let h : length c.write_header.result ≡ 12 = ap length c.write_header.ensures ∙ length-header c.args.epoch (length body) in
    let s0 = stretch_start (IsOutside range) (g.W.Station.content c.args.w.now) (g.W.Station.now c.args.w.now) (g.W.Station.history c.args.w.now) c.requires.settled in
    let s1 = write_within_range range (g.W.Station.content c.args.w.now) (g.W.Station.now c.args.w.now) (g.W.Station.history c.args.w.now) (g.W.Station.history c.args.w.now) (g.W.Station.history c.write_at.new.self) (g.W.Station.now c.args.w.now) (g.W.Station.now c.write_at.new.self) (c.args.end + 1) c.write_header.result (omega arith) (omega (arith, n, h)) s0 c.write_at.ensures.time (inr c.in_ok-write_at.ensures.now) in
    let s2 = write_within_range range (g.W.Station.content c.args.w.now) (g.W.Station.now c.args.w.now) (g.W.Station.history c.args.w.now) (g.W.Station.history c.write_at.new.self) (g.W.Station.history c.write_at-2.new.self) (g.W.Station.now c.write_at.new.self) (g.W.Station.now c.write_at-2.new.self) (c.args.end + 13) body (omega arith) (omega (arith, n, h)) s1 c.write_at-2.ensures.time (inr c.in_ok-write_at-2.ensures.now) in
    let s3 = write_within_range range (g.W.Station.content c.args.w.now) (g.W.Station.now c.args.w.now) (g.W.Station.history c.args.w.now) (g.W.Station.history c.write_at-2.new.self) (g.W.Station.history c.write_at-3.new.self) (g.W.Station.now c.write_at-2.new.self) (g.W.Station.now c.write_at-3.new.self) (c.args.end + 13 + length body) (0 ∷ []) (omega arith) (omega (arith, n, h)) s2 c.write_at-3.ensures.time (inr c.in_ok-write_at-3.ensures.now) in
    let is = three_writes c.args.epoch c.args.end c.write_header.result body (c.args.end + 13) (c.args.end + 13 + length body) (g.W.Station.content c.args.w.now) (g.W.Station.content c.write_at.new.self) (g.W.Station.content c.write_at-2.new.self) (g.W.Station.content c.write_at-3.new.self) refl refl c.write_header.ensures c.in_ok-write_at.ensures.written c.in_ok-write_at-2.ensures.written c.in_ok-write_at-3.ensures.written in
    synced_images (IsOutside range) (g.W.Station.content c.args.w.now) (g.W.Station.now c.args.w.now) (g.W.Station.history c.args.w.now) (g.W.Station.history c.write_at-3.new.self) (g.W.Station.history c.sync.new.self) (g.W.Station.now c.write_at-3.new.self) s3 (g.W.Station.content c.write_at-3.new.self) (write (c.args.end + 1) bytes) is (λ x. agrees_write (IsOutside range) (c.args.end + 1) bytes x (misses_part range range (omega arith) (omega arith))) c.sync.ensures.time

pub returns-clause-quiet : goal.returns-clause-quiet
returns-clause-quiet g c =
    let body = c.args.body.now in
    let bytes = laid c.args.epoch body in
    let range = range_of (c.args.end + 1) bytes in
    let n : length bytes ≡ 13 + length body = length-laid c.args.epoch body in
    let h : length c.write_header.result ≡ 12 = ap length c.write_header.ensures ∙ length-header c.args.epoch (length body) in
    let s0 = stretch_start (IsOutside range) (g.W.Station.content c.args.w.now) (g.W.Station.now c.args.w.now) (g.W.Station.history c.args.w.now) c.requires.settled in
    let s1 = write_within_range range (g.W.Station.content c.args.w.now) (g.W.Station.now c.args.w.now) (g.W.Station.history c.args.w.now) (g.W.Station.history c.args.w.now) (g.W.Station.history c.write_at.new.self) (g.W.Station.now c.args.w.now) (g.W.Station.now c.write_at.new.self) (c.args.end + 1) c.write_header.result (omega arith) (omega (arith, n, h)) s0 c.write_at.ensures.time (inr c.in_ok-write_at.ensures.now) in
    let s2 = write_within_range range (g.W.Station.content c.args.w.now) (g.W.Station.now c.args.w.now) (g.W.Station.history c.args.w.now) (g.W.Station.history c.write_at.new.self) (g.W.Station.history c.write_at-2.new.self) (g.W.Station.now c.write_at.new.self) (g.W.Station.now c.write_at-2.new.self) (c.args.end + 13) body (omega arith) (omega (arith, n, h)) s1 c.write_at-2.ensures.time (inr c.in_ok-write_at-2.ensures.now) in
    let s3 = write_within_range range (g.W.Station.content c.args.w.now) (g.W.Station.now c.args.w.now) (g.W.Station.history c.args.w.now) (g.W.Station.history c.write_at-2.new.self) (g.W.Station.history c.write_at-3.new.self) (g.W.Station.now c.write_at-2.new.self) (g.W.Station.now c.write_at-3.new.self) (c.args.end + 13 + length body) (0 ∷ []) (omega arith) (omega (arith, n, h)) s2 c.write_at-3.ensures.time (inr c.in_ok-write_at-3.ensures.now) in
    synced_quiet (IsOutside range) (g.W.Station.content c.args.w.now) (g.W.Station.now c.args.w.now) (g.W.Station.history c.args.w.now) (g.W.Station.history c.write_at-3.new.self) (g.W.Station.history c.sync.new.self) (g.W.Station.now c.write_at-3.new.self) s3 (g.W.Station.content c.write_at-3.new.self) c.sync.ensures.time

pub returns-clause-settled : goal.returns-clause-settled
returns-clause-settled g c =
    synced_settled (g.W.Station.content c.write_at-3.new.self) (g.W.Station.content c.sync.new.self) (g.W.Station.now c.write_at-3.new.self) (g.W.Station.now c.sync.new.self) c.in_ok-sync.ensures.durable c.sync.ensures.content

pub returns-clause-content : goal.returns-clause-content
returns-clause-content g c =
    let body = c.args.body.now in
    let is = three_writes c.args.epoch c.args.end c.write_header.result body (c.args.end + 13) (c.args.end + 13 + length body) (g.W.Station.content c.args.w.now) (g.W.Station.content c.write_at.new.self) (g.W.Station.content c.write_at-2.new.self) (g.W.Station.content c.write_at-3.new.self) refl refl c.write_header.ensures c.in_ok-write_at.ensures.written c.in_ok-write_at-2.ensures.written c.in_ok-write_at-3.ensures.written in
    c.sync.ensures.content ∙ is

pub returns-in_err-write_at-clause-long : goal.returns-in_err-write_at-clause-long
returns-in_err-write_at-clause-long g c =
    let l0 = lengths_start (g.W.Station.content c.args.w.now) (g.W.Station.now c.args.w.now) (g.W.Station.history c.args.w.now) c.requires.settled in
    let l1 = lengths_write (g.W.Station.content c.args.w.now) (g.W.Station.history c.args.w.now) (g.W.Station.history c.args.w.now) (g.W.Station.history c.write_at.new.self) (g.W.Station.now c.args.w.now) l0 (range_of (c.args.end + 1) c.write_header.result) (g.W.Station.now c.write_at.new.self) c.write_at.ensures.time c.in_err-write_at.ensures.maybe in
    l1.images

pub returns-in_err-write_at-2-clause-long : goal.returns-in_err-write_at-2-clause-long
returns-in_err-write_at-2-clause-long g c =
    let l0 = lengths_start (g.W.Station.content c.args.w.now) (g.W.Station.now c.args.w.now) (g.W.Station.history c.args.w.now) c.requires.settled in
    let l1 = lengths_write (g.W.Station.content c.args.w.now) (g.W.Station.history c.args.w.now) (g.W.Station.history c.args.w.now) (g.W.Station.history c.write_at.new.self) (g.W.Station.now c.args.w.now) l0 (range_of (c.args.end + 1) c.write_header.result) (g.W.Station.now c.write_at.new.self) c.write_at.ensures.time (inr c.in_ok-write_at.ensures.now) in
    let l2 = lengths_write (g.W.Station.content c.args.w.now) (g.W.Station.history c.args.w.now) (g.W.Station.history c.write_at.new.self) (g.W.Station.history c.write_at-2.new.self) (g.W.Station.now c.write_at.new.self) l1 (range_of (c.args.end + 13) c.args.body.now) (g.W.Station.now c.write_at-2.new.self) c.write_at-2.ensures.time c.in_err-write_at-2.ensures.maybe in
    l2.images

pub returns-in_err-write_at-3-clause-long : goal.returns-in_err-write_at-3-clause-long
returns-in_err-write_at-3-clause-long g c =
    let l0 = lengths_start (g.W.Station.content c.args.w.now) (g.W.Station.now c.args.w.now) (g.W.Station.history c.args.w.now) c.requires.settled in
    let l1 = lengths_write (g.W.Station.content c.args.w.now) (g.W.Station.history c.args.w.now) (g.W.Station.history c.args.w.now) (g.W.Station.history c.write_at.new.self) (g.W.Station.now c.args.w.now) l0 (range_of (c.args.end + 1) c.write_header.result) (g.W.Station.now c.write_at.new.self) c.write_at.ensures.time (inr c.in_ok-write_at.ensures.now) in
    let l2 = lengths_write (g.W.Station.content c.args.w.now) (g.W.Station.history c.args.w.now) (g.W.Station.history c.write_at.new.self) (g.W.Station.history c.write_at-2.new.self) (g.W.Station.now c.write_at.new.self) l1 (range_of (c.args.end + 13) c.args.body.now) (g.W.Station.now c.write_at-2.new.self) c.write_at-2.ensures.time (inr c.in_ok-write_at-2.ensures.now) in
    let l3 = lengths_write (g.W.Station.content c.args.w.now) (g.W.Station.history c.args.w.now) (g.W.Station.history c.write_at-2.new.self) (g.W.Station.history c.write_at-3.new.self) (g.W.Station.now c.write_at-2.new.self) l2 (range_of (c.args.end + 13 + length c.args.body.now) (0 ∷ [])) (g.W.Station.now c.write_at-3.new.self) c.write_at-3.ensures.time c.in_err-write_at-3.ensures.maybe in
    l3.images

pub returns-in_err-sync-clause-long : goal.returns-in_err-sync-clause-long
returns-in_err-sync-clause-long g c =
    let body = c.args.body.now in
    let l0 = lengths_start (g.W.Station.content c.args.w.now) (g.W.Station.now c.args.w.now) (g.W.Station.history c.args.w.now) c.requires.settled in
    let l1 = lengths_write (g.W.Station.content c.args.w.now) (g.W.Station.history c.args.w.now) (g.W.Station.history c.args.w.now) (g.W.Station.history c.write_at.new.self) (g.W.Station.now c.args.w.now) l0 (range_of (c.args.end + 1) c.write_header.result) (g.W.Station.now c.write_at.new.self) c.write_at.ensures.time (inr c.in_ok-write_at.ensures.now) in
    let l2 = lengths_write (g.W.Station.content c.args.w.now) (g.W.Station.history c.args.w.now) (g.W.Station.history c.write_at.new.self) (g.W.Station.history c.write_at-2.new.self) (g.W.Station.now c.write_at.new.self) l1 (range_of (c.args.end + 13) c.args.body.now) (g.W.Station.now c.write_at-2.new.self) c.write_at-2.ensures.time (inr c.in_ok-write_at-2.ensures.now) in
    let l3 = lengths_write (g.W.Station.content c.args.w.now) (g.W.Station.history c.args.w.now) (g.W.Station.history c.write_at-2.new.self) (g.W.Station.history c.write_at-3.new.self) (g.W.Station.now c.write_at-2.new.self) l2 (range_of (c.args.end + 13 + length c.args.body.now) (0 ∷ [])) (g.W.Station.now c.write_at-3.new.self) c.write_at-3.ensures.time (inr c.in_ok-write_at-3.ensures.now) in
    let is = three_writes c.args.epoch c.args.end c.write_header.result body (c.args.end + 13) (c.args.end + 13 + length body) (g.W.Station.content c.args.w.now) (g.W.Station.content c.write_at.new.self) (g.W.Station.content c.write_at-2.new.self) (g.W.Station.content c.write_at-3.new.self) refl refl c.write_header.ensures c.in_ok-write_at.ensures.written c.in_ok-write_at-2.ensures.written c.in_ok-write_at-3.ensures.written in
    lengths_sync (g.W.Station.content c.args.w.now) (g.W.Station.history c.args.w.now) (g.W.Station.history c.write_at-3.new.self) (g.W.Station.history c.sync.new.self) (g.W.Station.now c.write_at-3.new.self) l3 (c.args.end + 1) (laid c.args.epoch body) (g.W.Station.content c.write_at-3.new.self) is c.sync.ensures.time

pub returns-clause-long : goal.returns-clause-long
returns-clause-long g c =
    let body = c.args.body.now in
    let l0 = lengths_start (g.W.Station.content c.args.w.now) (g.W.Station.now c.args.w.now) (g.W.Station.history c.args.w.now) c.requires.settled in
    let l1 = lengths_write (g.W.Station.content c.args.w.now) (g.W.Station.history c.args.w.now) (g.W.Station.history c.args.w.now) (g.W.Station.history c.write_at.new.self) (g.W.Station.now c.args.w.now) l0 (range_of (c.args.end + 1) c.write_header.result) (g.W.Station.now c.write_at.new.self) c.write_at.ensures.time (inr c.in_ok-write_at.ensures.now) in
    let l2 = lengths_write (g.W.Station.content c.args.w.now) (g.W.Station.history c.args.w.now) (g.W.Station.history c.write_at.new.self) (g.W.Station.history c.write_at-2.new.self) (g.W.Station.now c.write_at.new.self) l1 (range_of (c.args.end + 13) c.args.body.now) (g.W.Station.now c.write_at-2.new.self) c.write_at-2.ensures.time (inr c.in_ok-write_at-2.ensures.now) in
    let l3 = lengths_write (g.W.Station.content c.args.w.now) (g.W.Station.history c.args.w.now) (g.W.Station.history c.write_at-2.new.self) (g.W.Station.history c.write_at-3.new.self) (g.W.Station.now c.write_at-2.new.self) l2 (range_of (c.args.end + 13 + length c.args.body.now) (0 ∷ [])) (g.W.Station.now c.write_at-3.new.self) c.write_at-3.ensures.time (inr c.in_ok-write_at-3.ensures.now) in
    let is = three_writes c.args.epoch c.args.end c.write_header.result body (c.args.end + 13) (c.args.end + 13 + length body) (g.W.Station.content c.args.w.now) (g.W.Station.content c.write_at.new.self) (g.W.Station.content c.write_at-2.new.self) (g.W.Station.content c.write_at-3.new.self) refl refl c.write_header.ensures c.in_ok-write_at.ensures.written c.in_ok-write_at-2.ensures.written c.in_ok-write_at-3.ensures.written in
    lengths_sync (g.W.Station.content c.args.w.now) (g.W.Station.history c.args.w.now) (g.W.Station.history c.write_at-3.new.self) (g.W.Station.history c.sync.new.self) (g.W.Station.now c.write_at-3.new.self) l3 (c.args.end + 1) (laid c.args.epoch body) (g.W.Station.content c.write_at-3.new.self) is c.sync.ensures.time
