use Rattle.std.proofs.Common.{◌∙◌, refl, subst, ℕ, List}
use Rattle.std.specs.declared.option.Option.{Option}
use Rattle.pss_disk.specs.Moments.{Moment}
use Rattle.pss_serving.specs.Making.{TellsFilled}
use Rattle.pss_serving.specs.Outcomes.{TellsRefusal}
use Rattle.pss_serving.specs.declared.status.Status.TheVariants as status
use Rattle.pss_serving.proofs.Spared.{filled_spared}
use Rattle.pss_daemon.proofs.Showing.{filled_shown, filled_shows, shown_moments, unmounted_shown, unmounted_shows, unmounted_spared}
use Rattle.pss_daemon.proofs.service.demonstrate.Goals as goal

-- ---- it ended as the demonstration did

pub returns-in-Err-DiskFault-clause-moments : goal.returns-in-Err-DiskFault-clause-moments
returns-in-Err-DiskFault-clause-moments g c =
    shown_moments c.args.rounds (g.W.Station.content c.args.station.now) (g.W.Station.now c.args.station.now).spoken (g.W.Station.history c.args.station.now) (g.W.Station.history c.run_demo.new.station)
    (g.W.Station.now c.run_demo.new.station).spoken c.run_demo.result status.DiskFault (λ failed. cc (c.in-Err-DiskFault.is, c.in-Err-DiskFault.field-0-is, failed)) c.run_demo.ensures.moments

pub returns-in-Err-SpeakFault-clause-moments : goal.returns-in-Err-SpeakFault-clause-moments
returns-in-Err-SpeakFault-clause-moments g c =
    shown_moments c.args.rounds (g.W.Station.content c.args.station.now) (g.W.Station.now c.args.station.now).spoken (g.W.Station.history c.args.station.now) (g.W.Station.history c.run_demo.new.station)
    (g.W.Station.now c.run_demo.new.station).spoken c.run_demo.result status.SpeakFault (λ failed. refl) c.run_demo.ensures.moments

pub returns-in-Err-NoMemory-clause-moments : goal.returns-in-Err-NoMemory-clause-moments
returns-in-Err-NoMemory-clause-moments g c =
    shown_moments c.args.rounds (g.W.Station.content c.args.station.now) (g.W.Station.now c.args.station.now).spoken (g.W.Station.history c.args.station.now) (g.W.Station.history c.run_demo.new.station)
    (g.W.Station.now c.run_demo.new.station).spoken c.run_demo.result status.NoMemory (λ failed. cc (c.in-Err-NoMemory.is, c.in-Err-NoMemory.field-0-is, failed)) c.run_demo.ensures.moments

-- ---- the file has octets

pub returns-in-Err-NotEmpty-clause-ends : goal.returns-in-Err-NotEmpty-clause-ends
returns-in-Err-NotEmpty-clause-ends g c = λ schema script left.
    let shows = (rw c.in-Err-NotEmpty.field-0-is at c.in-Err-NotEmpty.ensures.shows) in
    let end : Moment = g.W.Station.now c.refuse_file.new.station in
    filled_shows c.args.rounds c.refuse_file.result
    (record { schema = schema; script = script; left = left; before = (g.W.Station.now c.args.station.now).spoken; after = end.spoken; held = g.W.Station.content c.args.station.now; holds = g.W.Station.content c.refuse_file.new.station; disk = end.disk })
    shows.0 (c.refuse_file.ensures.content ∙ shows.2) (subst (λ (before : Option (List ℕ)). TellsFilled c.refuse_file.result before end.spoken) shows.1 c.refuse_file.ensures.told)

pub returns-in-Err-NotEmpty-clause-moments : goal.returns-in-Err-NotEmpty-clause-moments
returns-in-Err-NotEmpty-clause-moments g c =
    let now : Moment = g.W.Station.now c.run_demo.new.station in
    filled_shown c.args.rounds (g.W.Station.content c.args.station.now) (g.W.Station.now c.args.station.now).spoken (g.W.Station.history c.args.station.now) (g.W.Station.history c.run_demo.new.station)
    (g.W.Station.history c.refuse_file.new.station) now.spoken (g.W.Station.now c.refuse_file.new.station).spoken now.disk c.run_demo.result c.refuse_file.result
    (λ failed. cc (c.in-Err-NotEmpty.is, c.in-Err-NotEmpty.field-0-is, failed)) (rw c.in-Err-NotEmpty.field-0-is at c.in-Err-NotEmpty.ensures.shows).1 c.refuse_file.ensures.told
    c.run_demo.ensures.moments c.refuse_file.ensures.moments

pub returns-in-Err-NotEmpty-clause-filled : goal.returns-in-Err-NotEmpty-clause-filled
returns-in-Err-NotEmpty-clause-filled g c =
    filled_spared g.W.Station.now g.W.Station.content g.W.Station.history g.W.Station.speak_faults c.args.station.now c.run_demo.new.station (g.W.Station.history c.refuse_file.new.station)
    (g.W.Station.now c.refuse_file.new.station).spoken c.run_demo.ensures.filled c.refuse_file.ensures.moments

pub returns-in-Err-NotEmpty-clause-spared : goal.returns-in-Err-NotEmpty-clause-spared
returns-in-Err-NotEmpty-clause-spared g c = λ before. returns-in-Err-NotEmpty-clause-filled g c (rw c.in-Err-NotEmpty.field-0-is at c.in-Err-NotEmpty.ensures.shows).0

-- ---- what was made is not mounted

pub returns-in-Err-Refused-clause-spared : goal.returns-in-Err-Refused-clause-spared
returns-in-Err-Refused-clause-spared g c = λ before. unmounted_spared (g.W.Station.content c.args.station.now) (g.W.Station.history c.args.station.now) (g.W.Station.history c.refuse_store.new.station) (g.W.Station.now c.args.station.now)
    (rw c.in-Err-Refused.field-0-is at c.in-Err-Refused.ensures.shows).0

pub returns-in-Err-Refused-clause-filled : goal.returns-in-Err-Refused-clause-filled
returns-in-Err-Refused-clause-filled g c = λ filled. unmounted_spared (g.W.Station.content c.args.station.now) (g.W.Station.history c.args.station.now) (g.W.Station.history c.refuse_store.new.station) (g.W.Station.now c.args.station.now)
    (rw c.in-Err-Refused.field-0-is at c.in-Err-Refused.ensures.shows).0

pub returns-in-Err-Refused-clause-ends : goal.returns-in-Err-Refused-clause-ends
returns-in-Err-Refused-clause-ends g c = λ schema script left.
    let shows = (rw c.in-Err-Refused.field-0-is at c.in-Err-Refused.ensures.shows) in
    let end : Moment = g.W.Station.now c.refuse_store.new.station in
    unmounted_shows c.args.rounds c.refuse_store.result c.in-Err-Refused.why
    (record { schema = schema; script = script; left = left; before = (g.W.Station.now c.args.station.now).spoken; after = end.spoken; held = g.W.Station.content c.args.station.now; holds = g.W.Station.content c.refuse_store.new.station; disk = end.disk })
    shows.0 (subst (λ (before : Option (List ℕ)). TellsRefusal c.refuse_store.result c.in-Err-Refused.why before end.spoken) shows.1 c.refuse_store.ensures.told)

pub returns-in-Err-Refused-clause-moments : goal.returns-in-Err-Refused-clause-moments
returns-in-Err-Refused-clause-moments g c =
    let now : Moment = g.W.Station.now c.run_demo.new.station in
    let shows = (rw c.in-Err-Refused.field-0-is at c.in-Err-Refused.ensures.shows) in
    unmounted_shown c.args.rounds (g.W.Station.content c.args.station.now) (g.W.Station.now c.args.station.now).spoken (g.W.Station.history c.args.station.now) (g.W.Station.history c.run_demo.new.station)
    (g.W.Station.history c.refuse_store.new.station) c.in-Err-Refused.why now.spoken (g.W.Station.now c.refuse_store.new.station).spoken now.disk c.run_demo.result c.refuse_store.result
    (λ failed. cc (c.in-Err-Refused.is, c.in-Err-Refused.field-0-is, failed)) shows.0 shows.1 c.refuse_store.ensures.told c.run_demo.ensures.moments c.refuse_store.ensures.moments
