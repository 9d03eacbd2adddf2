use Rattle.std.proofs.Common.{ℕ, List, IfOk, inl, sym, subst}
use Rattle.std.specs.declared.option.Option.{Option}
use Rattle.page_store.proofs.GateOctets.{settled_still}
use Rattle.pss_recovery.specs.Mounts.{HasMounted, IsSameButGate}
use Rattle.pss_recovery.specs.Stands.{Stands}
use Rattle.pss_recovery.specs.inner.Mounting.{HasRead}
use Rattle.pss_recovery.proofs.Silent.{silent_reads, silent_then}
use Rattle.pss_recovery.proofs.Synced.{never_other, only_disk, only_read, read_then}
use Rattle.pss_recovery.proofs.store.mount.mount_settled.Goals as goal

pub close_end-requires-clause-settled : goal.close_end-requires-clause-settled
close_end-requires-clause-settled g c =
    settled_still (g.W.Station.content c.args.w.now) (g.W.Station.content c.read_store.new.w) (g.W.Station.now c.args.w.now) (g.W.Station.now c.read_store.new.w) c.in-Ok.ensures.reads.same c.in-Ok.ensures.reads.still c.requires.settled

pub returns-in-Ok-clause-mounted : goal.returns-in-Ok-clause-mounted
returns-in-Ok-clause-mounted g c =
    let S = c.args.schema.now in
    let has = subst (HasRead S c.in-Ok.read.0) (sym c.in-Ok.ensures.reads.same) c.in-Ok.ensures.read in
    subst (λ (o : Option (List ℕ)). IfOk c.close_end.result (λ m. HasMounted S m o (g.W.Station.content c.close_end.new.w))) c.in-Ok.ensures.reads.same (c.close_end.ensures.mounted S has)

pub returns-in-Ok-clause-refused : goal.returns-in-Ok-clause-refused
returns-in-Ok-clause-refused g c = only_disk c.args.schema.now (g.W.Station.content c.args.w.now) c.close_end.result c.close_end.ensures.only

pub returns-in-Ok-clause-reads : goal.returns-in-Ok-clause-reads
returns-in-Ok-clause-reads g c = never_other _ c.close_end.result c.close_end.ensures.only

pub returns-in-Ok-clause-content : goal.returns-in-Ok-clause-content
returns-in-Ok-clause-content g c =
    let S = c.args.schema.now in
    let has = subst (HasRead S c.in-Ok.read.0) (sym c.in-Ok.ensures.reads.same) c.in-Ok.ensures.read in
    subst (λ (o : Option (List ℕ)). IsSameButGate o (g.W.Station.content c.close_end.new.w)) c.in-Ok.ensures.reads.same (c.close_end.ensures.content S has)

pub returns-in-Ok-clause-images : goal.returns-in-Ok-clause-images
returns-in-Ok-clause-images g c = λ M next.
    let S = c.args.schema.now in
    let has = subst (HasRead S c.in-Ok.read.0) (sym c.in-Ok.ensures.reads.same) c.in-Ok.ensures.read in
    read_then (Stands S M next) (g.W.Station.content c.args.w.now) (g.W.Station.content c.read_store.new.w) (g.W.Station.now c.args.w.now) _ _ _ c.requires.settled c.in-Ok.ensures.reads.same c.in-Ok.ensures.reads.time (c.close_end.ensures.images S M next has)

pub returns-in-Ok-clause-silent : goal.returns-in-Ok-clause-silent
returns-in-Ok-clause-silent g c =
    silent_then g.W.Station.now g.W.Station.history g.W.Station.speak_faults c.args.w.now c.read_store.new.w c.close_end.new.w
    (silent_reads g.W.Station.now g.W.Station.history g.W.Station.speak_faults g.W.Station.content c.args.w.now c.read_store.new.w c.in-Ok.ensures.reads) c.close_end.ensures.silent

pub returns-in-Err-clause-images : goal.returns-in-Err-clause-images
returns-in-Err-clause-images g c = λ M next. only_read (Stands c.args.schema.now M next) (g.W.Station.content c.args.w.now) (g.W.Station.now c.args.w.now) _ _ c.requires.settled c.in-Err.ensures.reads.time

pub returns-in-Err-clause-content : goal.returns-in-Err-clause-content
returns-in-Err-clause-content g c = inl c.in-Err.ensures.reads.same

pub returns-in-Err-clause-silent : goal.returns-in-Err-clause-silent
returns-in-Err-clause-silent g c = silent_reads g.W.Station.now g.W.Station.history g.W.Station.speak_faults g.W.Station.content c.args.w.now c.read_store.new.w c.in-Err.ensures.reads
