use Rattle.std.proofs.Common.{◌≡◌, ◌∙◌, inl, refl, sym, ap, subst, Err, IfSome, ℕ, List}
use Rattle.std.specs.declared.option.Option.{Option}
use Rattle.pss_base.specs.Causes.{HasCauseIf}
use Rattle.pss_disk.specs.Moments.{Moment}
use Rattle.pss_recovery.specs.Faults.{is_mount_disk_fault}
use Rattle.pss_recovery.specs.Stands.{IsRefusal}
use Rattle.pss_recovery.specs.declared.mounting.Mounted.{Mounted}
use Rattle.pss_recovery.specs.declared.fault.MountFault.{MountFault}
use Rattle.pss_recovery.specs.declared.fault.MountFault.TheVariants as mount
use Rattle.store_refusals.specs.Refusals.{fault_of, fault_of_stop}
use Rattle.store_refusals.specs.declared.refusals.StoreRefusal.{StoreRefusal}
use Rattle.pss_serving.specs.Counts.{has_speech_failed}
use Rattle.pss_serving.specs.Outcomes.{IsOrWhole, TellsRefusal}
use Rattle.pss_serving.specs.declared.status.Status.TheVariants as status
use Rattle.pss_serving.proofs.AtMoments.{quiet_call}
use Rattle.pss_serving.proofs.Served.{is_first, mounted_ends, mounted_moments, mounted_over}
use Rattle.pss_serving.proofs.Refused.{disk_kept, no_disk_fault, refused_counts, refused_ends, refused_moments, refused_over, still_over}
use Rattle.pss_serving.proofs.Spared.{no_ending, refused_spares, spared_by}
use Rattle.pss_serving.proofs.running.serve_store.Goals as goal

-- ---- the store is mounted

pub serve_script-requires-clause-first : goal.serve_script-requires-clause-first
serve_script-requires-clause-first g c =
    let has = c.in-Ok.ensures.mounted in
    (has.catalog, is_first c.args.schema c.in-Ok.mounted (g.W.Station.content c.args.station.now) (g.W.Station.content c.mount.new.w) has)

pub returns-in-Ok-clause-ends : goal.returns-in-Ok-clause-ends
returns-in-Ok-clause-ends g c =
    let has = c.in-Ok.ensures.mounted in
    let held : Option (List ℕ) = g.W.Station.content c.args.station.now in
    let content : Option (List ℕ) = g.W.Station.content c.mount.new.w in
    let end : Moment = g.W.Station.now c.serve_script.new.station in
    rw c.status_of.ensures (λ text.
    mounted_ends c.args.schema c.in-Ok.mounted held content has c.mount.ensures.content c.serve_script.result (g.C.Source.left c.args.script.now) (g.C.Source.left c.serve_script.new.script) end.spoken
    (g.W.Station.content c.serve_script.new.station) (g.W.Station.now c.args.station.now) (g.W.Station.now c.mount.new.w) end.disk c.mount.ensures.silent.said text
    (c.serve_script.ensures.says has.catalog (is_first c.args.schema c.in-Ok.mounted held content has)))

pub returns-in-Ok-clause-moments : goal.returns-in-Ok-clause-moments
returns-in-Ok-clause-moments g c =
    let has = c.in-Ok.ensures.mounted in
    let held : Option (List ℕ) = g.W.Station.content c.args.station.now in
    let content : Option (List ℕ) = g.W.Station.content c.mount.new.w in
    let end : Moment = g.W.Station.now c.serve_script.new.station in
    rw c.status_of.ensures
    (mounted_moments c.args.schema c.in-Ok.mounted held content has c.mount.ensures.content c.serve_script.result (g.C.Source.left c.args.script.now) (g.C.Source.left c.serve_script.new.script) end.spoken
    (g.W.Station.content c.serve_script.new.station) (g.W.Station.now c.args.station.now) (g.W.Station.now c.mount.new.w) end.disk c.mount.ensures.silent.said
    (g.W.Station.history c.args.station.now) (g.W.Station.history c.mount.new.w) (g.W.Station.history c.serve_script.new.station) c.mount.ensures.silent.moments
    (c.serve_script.ensures.moments has.catalog (is_first c.args.schema c.in-Ok.mounted held content has)))

pub returns-in-Ok-clause-kept : goal.returns-in-Ok-clause-kept
returns-in-Ok-clause-kept g c =
    let has = c.in-Ok.ensures.mounted in
    let held : Option (List ℕ) = g.W.Station.content c.args.station.now in
    let content : Option (List ℕ) = g.W.Station.content c.mount.new.w in
    mounted_over c.an_image_is_one_thing.ensures c.args.schema c.in-Ok.mounted held content has c.mount.ensures.content (g.C.Source.left c.args.script.now) (g.W.Station.now c.serve_script.new.station).spoken
    c.serve_script.result (g.W.Station.now c.args.station.now) (g.W.Station.now c.mount.new.w) (g.W.Station.history c.args.station.now) (g.W.Station.history c.mount.new.w)
    (g.W.Station.history c.serve_script.new.station) c.mount.ensures.silent.said c.mount.ensures.images c.mount.ensures.silent.moments
    (c.serve_script.ensures.moments has.catalog (is_first c.args.schema c.in-Ok.mounted held content has))

pub returns-in-Ok-clause-spared : goal.returns-in-Ok-clause-spared
returns-in-Ok-clause-spared g c = rw c.status_of.ensures (no_ending c.serve_script.result _)

-- ---- the store is refused

pub returns-in-Ok-refusal : goal.returns-in-Ok-refusal
returns-in-Ok-refusal g c =
    let first : Moment = g.W.Station.now c.args.station.now in
    let now : Moment = g.W.Station.now c.mount.new.w in
    let after : Option (List ℕ) = (g.W.Station.now c.refuse_store.new.station).spoken in
    let held : Option (List ℕ) = g.W.Station.content c.args.station.now in
    let script : Option (List ℕ) = g.C.Source.left c.args.script.now in
    let why : StoreRefusal = c.in-Ok-refusal.why in
    let is : c.in-Err.fault ≡ fault_of why = c.in-Ok-refusal.ensures.refused in
    let not : c.in-Err.fault ≡ mount.DiskFault → ⊥ = λ failed. no_disk_fault why (sym is ∙ failed) in
    let refused = subst (λ (f : MountFault). IfSome held (IsRefusal c.args.schema f)) is c.in-Err.ensures.refused in
    let told = subst (λ (before : Option (List ℕ)). TellsRefusal c.refuse_store.result why before after) c.mount.ensures.silent.said c.refuse_store.ensures.told in
    let counts = refused_counts c.refuse_store.result why first.spoken after in
    record {
      ends = λ text. refused_ends c.refuse_store.result why c.args.schema
          (record { schema = text; script = script; left = script; before = first.spoken; after = after; held = held; holds = g.W.Station.content c.refuse_store.new.station; disk = (g.W.Station.now c.refuse_store.new.station).disk })
          refused (c.refuse_store.ensures.content ∙ c.in-Err.ensures.same not) told;
      unread = λ before. refl;
      read = (counts (g.C.Source.faults c.args.script.now) (g.C.Source.faults c.args.script.now) refl told).0;
      speech = subst (λ (n : ℕ). HasCauseIf n (g.W.Station.speak_faults c.refuse_store.new.station) (has_speech_failed c.refuse_store.result)) c.mount.ensures.silent.speech c.refuse_store.ensures.speech;
      disk = (counts (g.W.Station.disk_faults c.args.station.now) (g.W.Station.disk_faults c.refuse_store.new.station)
          (c.refuse_store.ensures.disk ∙ disk_kept c.in-Err.fault why (g.W.Station.disk_faults c.args.station.now) (g.W.Station.disk_faults c.mount.new.w) is c.in-Err.ensures.cause) told).1;
      moments = refused_moments why c.args.schema held script first.spoken after refused now.disk (g.W.Station.history c.mount.new.w) (g.W.Station.history c.refuse_store.new.station)
          (g.W.Station.history c.args.station.now) first c.refuse_store.result refl told c.mount.ensures.silent.moments c.refuse_store.ensures.moments;
      kept = refused_over c.an_image_is_one_thing.ensures why c.args.schema held script first.spoken (g.W.Station.history c.args.station.now) (g.W.Station.history c.refuse_store.new.station) first refused;
      spared = λ before. spared_by held (g.W.Station.history c.args.station.now) (g.W.Station.history c.refuse_store.new.station) first
          (refused_spares held first (g.W.Station.history c.args.station.now) (g.W.Station.history c.mount.new.w) (g.W.Station.history c.refuse_store.new.station) (g.W.Station.content c.mount.new.w) after now
          (c.in-Err.ensures.same not) (c.in-Err.ensures.refused_stays not) (c.in-Err.ensures.refused_settled not) c.refuse_store.ensures.moments);
    }

-- ---- the disk failed, or memory was wanting

pub returns-in-Err-DiskFault-clause-disk : goal.returns-in-Err-DiskFault-clause-disk
returns-in-Err-DiskFault-clause-disk g c =
    subst (λ (f : MountFault). HasCauseIf (g.W.Station.disk_faults c.args.station.now) (g.W.Station.disk_faults c.mount.new.w) (is_mount_disk_fault {T = Mounted} (Err f)))
    (c.in-Err-DiskFault.ensures.stopped ∙ ap fault_of_stop c.in-Err-DiskFault.field-0-is) c.in-Err.ensures.cause

pub returns-in-Err-DiskFault-clause-moments : goal.returns-in-Err-DiskFault-clause-moments
returns-in-Err-DiskFault-clause-moments g c =
    quiet_call (g.W.Station.history c.args.station.now) (g.W.Station.history c.mount.new.w) (g.W.Station.now c.mount.new.w).spoken
    (λ spoken. IsOrWhole c.args.schema (g.W.Station.content c.args.station.now) (g.C.Source.left c.args.script.now) (g.W.Station.now c.args.station.now).spoken spoken)
    (g.W.Station.now c.args.station.now) status.DiskFault (inl refl) c.mount.ensures.silent.moments

pub returns-in-Err-DiskFault-clause-kept : goal.returns-in-Err-DiskFault-clause-kept
returns-in-Err-DiskFault-clause-kept g c =
    still_over c.args.schema (g.C.Source.left c.args.script.now) (g.W.Station.now c.args.station.now) (g.W.Station.history c.args.station.now) (g.W.Station.history c.mount.new.w)
    (g.W.Station.content c.args.station.now) c.mount.ensures.images c.mount.ensures.silent.moments

pub returns-clause-ends : goal.returns-clause-ends
returns-clause-ends g c = λ text. inl (c.mount.ensures.silent.said, c.in-Err.ensures.same (λ failed. let no : mount.NoMemory ≡ mount.DiskFault = sym (c.in-Err-NoMemory.ensures.stopped ∙ ap fault_of_stop c.in-Err-NoMemory.field-0-is) ∙ failed in cc))

pub returns-clause-disk : goal.returns-clause-disk
returns-clause-disk g c =
    subst (λ (f : MountFault). HasCauseIf (g.W.Station.disk_faults c.args.station.now) (g.W.Station.disk_faults c.mount.new.w) (is_mount_disk_fault {T = Mounted} (Err f)))
    (c.in-Err-NoMemory.ensures.stopped ∙ ap fault_of_stop c.in-Err-NoMemory.field-0-is) c.in-Err.ensures.cause

pub returns-clause-moments : goal.returns-clause-moments
returns-clause-moments g c =
    quiet_call (g.W.Station.history c.args.station.now) (g.W.Station.history c.mount.new.w) (g.W.Station.now c.mount.new.w).spoken
    (λ spoken. IsOrWhole c.args.schema (g.W.Station.content c.args.station.now) (g.C.Source.left c.args.script.now) (g.W.Station.now c.args.station.now).spoken spoken)
    (g.W.Station.now c.args.station.now) status.NoMemory (inl refl) c.mount.ensures.silent.moments

pub returns-clause-kept : goal.returns-clause-kept
returns-clause-kept g c =
    still_over c.args.schema (g.C.Source.left c.args.script.now) (g.W.Station.now c.args.station.now) (g.W.Station.history c.args.station.now) (g.W.Station.history c.mount.new.w)
    (g.W.Station.content c.args.station.now) c.mount.ensures.images c.mount.ensures.silent.moments
