use Rattle.std.proofs.Common.{◌∙◌, ap, inl, refl, subst, Err, ℕ, List}
use Rattle.std.specs.declared.option.Option.{Option}
use Rattle.pss_disk.specs.Moments.{Moment}
use Rattle.line_service.specs.Turns.{IsWhole}
use Rattle.store_refusals.specs.Lines.{not_empty_line}
use Rattle.pss_serving.specs.Making.{TellsFilled}
use Rattle.pss_serving.specs.declared.status.Status.TheVariants as status
use Rattle.pss_serving.proofs.AtMoments.{quiet_call}
use Rattle.pss_serving.proofs.NewStores.{filled_makes, refused_file_moments}
use Rattle.pss_serving.proofs.Spared.{filled_spared}
use Rattle.pss_serving.proofs.making.make_store.Goals as goal

pub returns-in-Err-NotEmpty-clause-filled : goal.returns-in-Err-NotEmpty-clause-filled
returns-in-Err-NotEmpty-clause-filled g c =
    filled_spared g.W.Station.now g.W.Station.content g.W.Station.history g.W.Station.speak_faults c.args.station.now c.init.new.w (g.W.Station.history c.refuse_file.new.station) (g.W.Station.now c.refuse_file.new.station).spoken
    c.init.ensures.filled c.refuse_file.ensures.moments

pub returns-in-Err-NotEmpty-clause-spared : goal.returns-in-Err-NotEmpty-clause-spared
returns-in-Err-NotEmpty-clause-spared g c = λ before. returns-in-Err-NotEmpty-clause-filled g c (c.in-Err-NotEmpty.ensures.not_empty (ap Err c.in-Err-NotEmpty.field-0-is))

pub returns-in-Err-NotEmpty-clause-ends : goal.returns-in-Err-NotEmpty-clause-ends
returns-in-Err-NotEmpty-clause-ends g c = λ text.
    let first : Moment = g.W.Station.now c.args.station.now in
    let end : Moment = g.W.Station.now c.refuse_file.new.station in
    filled_makes c.refuse_file.result c.args.schema.now
    (record { text = text; before = first.spoken; after = end.spoken; held = g.W.Station.content c.args.station.now; holds = g.W.Station.content c.refuse_file.new.station; disk = end.disk })
    (c.in-Err-NotEmpty.ensures.not_empty (ap Err c.in-Err-NotEmpty.field-0-is)) (c.refuse_file.ensures.content ∙ (c.in-Err-NotEmpty.ensures.stays (ap Err c.in-Err-NotEmpty.field-0-is)).0)
    (subst (λ (before : Option (List ℕ)). TellsFilled c.refuse_file.result before end.spoken) c.init.ensures.silent.said c.refuse_file.ensures.told)

pub returns-in-Err-NotEmpty-clause-moments : goal.returns-in-Err-NotEmpty-clause-moments
returns-in-Err-NotEmpty-clause-moments g c =
    refused_file_moments (g.W.Station.history c.args.station.now) (g.W.Station.history c.init.new.w) (g.W.Station.history c.refuse_file.new.station) (g.W.Station.now c.args.station.now) (g.W.Station.now c.init.new.w)
    (g.W.Station.now c.refuse_file.new.station).spoken c.refuse_file.result c.init.ensures.silent.said c.refuse_file.ensures.told c.init.ensures.silent.moments c.refuse_file.ensures.moments

pub returns-in-Err-DiskFault-clause-moments : goal.returns-in-Err-DiskFault-clause-moments
returns-in-Err-DiskFault-clause-moments g c =
    quiet_call (g.W.Station.history c.args.station.now) (g.W.Station.history c.init.new.w) (g.W.Station.now c.init.new.w).spoken (IsWhole not_empty_line (g.W.Station.now c.args.station.now).spoken)
    (g.W.Station.now c.args.station.now) status.DiskFault (inl refl) c.init.ensures.silent.moments

pub returns-clause-moments : goal.returns-clause-moments
returns-clause-moments g c =
    quiet_call (g.W.Station.history c.args.station.now) (g.W.Station.history c.init.new.w) (g.W.Station.now c.init.new.w).spoken (IsWhole not_empty_line (g.W.Station.now c.args.station.now).spoken)
    (g.W.Station.now c.args.station.now) status.NoMemory (inl refl) c.init.ensures.silent.moments
