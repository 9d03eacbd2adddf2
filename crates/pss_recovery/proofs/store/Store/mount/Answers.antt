use Rattle.std.proofs.Common.{ℕ, List, IfErr, IfOk, IfSome, inl, inr, ◌∙◌, subst}
use Rattle.std.specs.declared.option.Option.{Option}
use Rattle.pss_disk.proofs.Images.{synced_settled}
use Rattle.pss_recovery.specs.Mounts.{HasMounted, IsSameButGate}
use Rattle.pss_recovery.specs.Stands.{IsRefusal, Stands}
use Rattle.pss_recovery.proofs.Silent.{silent_sync, silent_then}
use Rattle.pss_recovery.proofs.Synced.{only_sync, other_then, sync_stays, sync_then}
use Rattle.pss_recovery.proofs.store.Store.mount.Goals as goal

pub mount_settled-requires-clause-settled : goal.mount_settled-requires-clause-settled
mount_settled-requires-clause-settled g c =
    synced_settled (g.W.Station.content c.args.w.now) (g.W.Station.content c.sync.new.self) (g.W.Station.now c.args.w.now) (g.W.Station.now c.sync.new.self) c.in-Ok.ensures.durable c.sync.ensures.content

pub returns-in-Ok-clause-mounted : goal.returns-in-Ok-clause-mounted
returns-in-Ok-clause-mounted g c =
    subst (λ (o : Option (List ℕ)). IfOk c.mount_settled.result (λ m. HasMounted c.args.schema.now m o (g.W.Station.content c.mount_settled.new.w))) c.sync.ensures.content c.mount_settled.ensures.mounted

pub returns-in-Ok-clause-refused : goal.returns-in-Ok-clause-refused
returns-in-Ok-clause-refused g c = subst (λ (o : Option (List ℕ)). IfErr c.mount_settled.result (λ why. IfSome o (IsRefusal c.args.schema.now why))) c.sync.ensures.content c.mount_settled.ensures.refused

pub returns-in-Ok-clause-same : goal.returns-in-Ok-clause-same
returns-in-Ok-clause-same g c = other_then _ _ c.mount_settled.result (λ reads. reads.same ∙ c.sync.ensures.content) c.mount_settled.ensures.reads

pub returns-in-Ok-clause-refused_stays : goal.returns-in-Ok-clause-refused_stays
returns-in-Ok-clause-refused_stays g c =
    other_then _ _ c.mount_settled.result
    (λ reads. sync_stays (g.W.Station.content c.args.w.now) (g.W.Station.now c.args.w.now) (g.W.Station.now c.sync.new.self) _ _ _ c.in-Ok.ensures.durable c.sync.ensures.time reads.time) c.mount_settled.ensures.reads

pub returns-in-Ok-clause-refused_settled : goal.returns-in-Ok-clause-refused_settled
returns-in-Ok-clause-refused_settled g c =
    other_then _ _ c.mount_settled.result
    (λ reads. synced_settled (g.W.Station.content c.args.w.now) (g.W.Station.content c.mount_settled.new.w) (g.W.Station.now c.args.w.now) (g.W.Station.now c.mount_settled.new.w) (reads.still ∙ c.in-Ok.ensures.durable) (reads.same ∙ c.sync.ensures.content)) c.mount_settled.ensures.reads

pub returns-in-Ok-clause-content : goal.returns-in-Ok-clause-content
returns-in-Ok-clause-content g c = subst (λ (o : Option (List ℕ)). IsSameButGate o (g.W.Station.content c.mount_settled.new.w)) c.sync.ensures.content c.mount_settled.ensures.content

pub returns-in-Ok-clause-images : goal.returns-in-Ok-clause-images
returns-in-Ok-clause-images g c = λ M next.
    sync_then (Stands c.args.schema.now M next) (g.W.Station.content c.args.w.now) (g.W.Station.content c.sync.new.self) (g.W.Station.now c.args.w.now) _ _ _ c.sync.ensures.content c.sync.ensures.time (c.mount_settled.ensures.images M next)

pub returns-in-Ok-clause-silent : goal.returns-in-Ok-clause-silent
returns-in-Ok-clause-silent g c =
    silent_then g.W.Station.now g.W.Station.history g.W.Station.speak_faults c.args.w.now c.sync.new.self c.mount_settled.new.w
    (silent_sync g.W.Station.now g.W.Station.history g.W.Station.speak_faults c.args.w.now c.sync.new.self (g.W.Station.content c.args.w.now) c.sync.ensures.time (inr c.in-Ok.ensures.durable) c.sync.ensures.other) c.mount_settled.ensures.silent

pub returns-in-Err-clause-content : goal.returns-in-Err-clause-content
returns-in-Err-clause-content g c = inl c.sync.ensures.content

pub returns-in-Err-clause-images : goal.returns-in-Err-clause-images
returns-in-Err-clause-images g c = λ M next. only_sync (Stands c.args.schema.now M next) (g.W.Station.content c.args.w.now) (g.W.Station.now c.args.w.now) _ _ c.sync.ensures.time

pub returns-in-Err-clause-silent : goal.returns-in-Err-clause-silent
returns-in-Err-clause-silent g c = silent_sync g.W.Station.now g.W.Station.history g.W.Station.speak_faults c.args.w.now c.sync.new.self (g.W.Station.content c.args.w.now) c.sync.ensures.time c.in-Err.ensures.maybe c.sync.ensures.other
