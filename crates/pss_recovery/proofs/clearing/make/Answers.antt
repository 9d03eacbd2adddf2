use Rattle.std.proofs.Common.{◌*◌, [], ◌∷◌, length, IsSome, inr, sym, ◌∙◌, subst}
use Rattle.pss_disk.specs.Octets.{range_of}
use Rattle.pss_disk.proofs.Images.{synced_settled}
use Rattle.pss_recovery.proofs.Blank.{made_written, told_written}
use Rattle.pss_recovery.proofs.Silent.{silent_sync, silent_then, silent_write}
use Rattle.pss_recovery.proofs.clearing.make.Goals as goal

pub returns-in_err-write_at-clause-silent : goal.returns-in_err-write_at-clause-silent
returns-in_err-write_at-clause-silent g c =
    let now = g.W.Station.now in
    let history = g.W.Station.history in
    let speak_faults = g.W.Station.speak_faults in
    silent_then now history speak_faults c.args.w.now c.clear.new.w c.write_at.new.self c.clear.ensures.silent
    (silent_write now history speak_faults c.clear.new.w c.write_at.new.self (range_of 1 c.args.root.now) c.write_at.ensures.time c.in_err-write_at.ensures.maybe c.write_at.ensures.other)

pub returns-in_err-sync-clause-silent : goal.returns-in_err-sync-clause-silent
returns-in_err-sync-clause-silent g c =
    let now = g.W.Station.now in
    let history = g.W.Station.history in
    let speak_faults = g.W.Station.speak_faults in
    let written = silent_then now history speak_faults c.args.w.now c.clear.new.w c.write_at.new.self c.clear.ensures.silent
    (silent_write now history speak_faults c.clear.new.w c.write_at.new.self (range_of 1 c.args.root.now) c.write_at.ensures.time (inr c.in_ok-write_at.ensures.now) c.write_at.ensures.other) in
    silent_then now history speak_faults c.args.w.now c.write_at.new.self c.sync.new.self written
    (silent_sync now history speak_faults c.write_at.new.self c.sync.new.self (g.W.Station.content c.write_at.new.self) c.sync.ensures.time c.in_err-sync.ensures.maybe c.sync.ensures.other)

pub set_gate-requires-clause-settled : goal.set_gate-requires-clause-settled
set_gate-requires-clause-settled g c =
    synced_settled (g.W.Station.content c.write_at.new.self) (g.W.Station.content c.sync.new.self) (g.W.Station.now c.write_at.new.self) (g.W.Station.now c.sync.new.self) c.in_ok-sync.ensures.durable c.sync.ensures.content

pub returns-in_err-set_gate-clause-silent : goal.returns-in_err-set_gate-clause-silent
returns-in_err-set_gate-clause-silent g c =
    let now = g.W.Station.now in
    let history = g.W.Station.history in
    let speak_faults = g.W.Station.speak_faults in
    let written = silent_then now history speak_faults c.args.w.now c.clear.new.w c.write_at.new.self c.clear.ensures.silent
    (silent_write now history speak_faults c.clear.new.w c.write_at.new.self (range_of 1 c.args.root.now) c.write_at.ensures.time (inr c.in_ok-write_at.ensures.now) c.write_at.ensures.other) in
    let synced = silent_then now history speak_faults c.args.w.now c.write_at.new.self c.sync.new.self written
    (silent_sync now history speak_faults c.write_at.new.self c.sync.new.self (g.W.Station.content c.write_at.new.self) c.sync.ensures.time (inr c.in_ok-sync.ensures.durable) c.sync.ensures.other) in
    silent_then now history speak_faults c.args.w.now c.sync.new.self c.set_gate.new.station synced (record { moments = c.set_gate.ensures.quiet; said = c.set_gate.ensures.said; speech = c.set_gate.ensures.other })

pub returns-clause-silent : goal.returns-clause-silent
returns-clause-silent g c =
    let now = g.W.Station.now in
    let history = g.W.Station.history in
    let speak_faults = g.W.Station.speak_faults in
    let written = silent_then now history speak_faults c.args.w.now c.clear.new.w c.write_at.new.self c.clear.ensures.silent
    (silent_write now history speak_faults c.clear.new.w c.write_at.new.self (range_of 1 c.args.root.now) c.write_at.ensures.time (inr c.in_ok-write_at.ensures.now) c.write_at.ensures.other) in
    let synced = silent_then now history speak_faults c.args.w.now c.write_at.new.self c.sync.new.self written
    (silent_sync now history speak_faults c.write_at.new.self c.sync.new.self (g.W.Station.content c.write_at.new.self) c.sync.ensures.time (inr c.in_ok-sync.ensures.durable) c.sync.ensures.other) in
    silent_then now history speak_faults c.args.w.now c.sync.new.self c.set_gate.new.station synced (record { moments = c.set_gate.ensures.quiet; said = c.set_gate.ensures.said; speech = c.set_gate.ensures.other })

pub returns-clause-made : goal.returns-clause-made
returns-clause-made g c =
    made_written (c.args.count * length c.args.piece.now) c.args.root.now (g.W.Station.content c.clear.new.w) (g.W.Station.content c.sync.new.self) (g.W.Station.content c.set_gate.new.station) c.requires.short
    (c.sync.ensures.content ∙ c.in_ok-write_at.ensures.written) c.in_ok-set_gate.ensures.content c.in_ok-clear.ensures.cleared

pub returns-clause-told : goal.returns-clause-told
returns-clause-told g c = λ some.
    told_written 0 (165 ∷ []) (g.W.Station.content c.sync.new.self) (g.W.Station.content c.set_gate.new.station) c.in_ok-set_gate.ensures.content
    (subst IsSome (sym c.sync.ensures.content) (told_written 1 c.args.root.now (g.W.Station.content c.clear.new.w) (g.W.Station.content c.write_at.new.self) c.in_ok-write_at.ensures.written (c.in_ok-clear.ensures.told some)))
