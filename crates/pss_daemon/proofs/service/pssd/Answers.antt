use Rattle.std.proofs.Common.{inr}
use Rattle.pss_daemon.specs.declared.forms.Plan.TheVariants.{Check, Demo, Init, Run}
use Rattle.pss_serving.specs.Outcomes.{call_of}
use Rattle.pss_serving.specs.declared.status.Status.TheVariants as status
use Rattle.pss_serving.proofs.Spared.{spoken_spared}
use Rattle.pss_daemon.proofs.Complete.{check_complete, demo_complete, init_complete, run_complete, usage_complete}
use Rattle.pss_daemon.proofs.Ending.{check_moments, cut_moments, demo_moments, init_moments, run_moments, usage_moments}
use Rattle.pss_daemon.proofs.Shapes.{no_check, no_demo, no_store}
use Rattle.pss_daemon.proofs.service.pssd.Goals as goal

-- ---- the words are no form

pub returns-in-Ok-speak-clause-complete : goal.returns-in-Ok-speak-clause-complete
returns-in-Ok-speak-clause-complete g c = usage_complete c.args.words.now (call_of g.P.Source.left g.C.Source.left g.W.Station.now g.W.Station.content c.args.schema.now c.args.script.now c.args.script.now c.args.station.now c.speak.new.station) _ _ status.Usage (λ plan is. c.in_default.not-Ok plan (c.plan.ensures.only plan is))

pub returns-in-Ok-speak-clause-moments : goal.returns-in-Ok-speak-clause-moments
returns-in-Ok-speak-clause-moments g c = usage_moments c.args.words.now (g.P.Source.left c.args.schema.now) (g.W.Station.content c.args.station.now) (g.C.Source.left c.args.script.now) (g.W.Station.now c.args.station.now).spoken (g.W.Station.now c.speak.new.station).spoken (g.W.Station.history c.args.station.now) (g.W.Station.history c.speak.new.station) _ (λ plan is. c.in_default.not-Ok plan (c.plan.ensures.only plan is)) c.in-Ok-speak.ensures.said c.speak.ensures.moments

pub returns-in-Ok-speak-clause-kept : goal.returns-in-Ok-speak-clause-kept
returns-in-Ok-speak-clause-kept g c = λ run. absurd (c.in_default.not-Ok (Run run.0 run.1) (c.plan.ensures.only (Run run.0 run.1) run.2))

pub returns-in-Ok-speak-clause-right : goal.returns-in-Ok-speak-clause-right
returns-in-Ok-speak-clause-right g c = c.scripts_are_right.ensures (g.P.Source.left c.args.schema.now) (g.C.Source.left c.args.script.now)

pub returns-in-Ok-speak-clause-spared : goal.returns-in-Ok-speak-clause-spared
returns-in-Ok-speak-clause-spared g c = λ before. spoken_spared (g.W.Station.content c.args.station.now) (g.W.Station.now c.args.station.now) (g.W.Station.history c.args.station.now) (g.W.Station.history c.speak.new.station) _ c.speak.ensures.moments

pub returns-in-Ok-speak-clause-filled : goal.returns-in-Ok-speak-clause-filled
returns-in-Ok-speak-clause-filled g c = λ asked filled. spoken_spared (g.W.Station.content c.args.station.now) (g.W.Station.now c.args.station.now) (g.W.Station.history c.args.station.now) (g.W.Station.history c.speak.new.station) _ c.speak.ensures.moments

pub returns-in-Err-clause-filled : goal.returns-in-Err-clause-filled
returns-in-Err-clause-filled g c = λ asked filled. spoken_spared (g.W.Station.content c.args.station.now) (g.W.Station.now c.args.station.now) (g.W.Station.history c.args.station.now) (g.W.Station.history c.speak.new.station) _ c.speak.ensures.moments

pub returns-in-Err-clause-complete : goal.returns-in-Err-clause-complete
returns-in-Err-clause-complete g c = usage_complete c.args.words.now (call_of g.P.Source.left g.C.Source.left g.W.Station.now g.W.Station.content c.args.schema.now c.args.script.now c.args.script.now c.args.station.now c.speak.new.station) _ _ status.SpeakFault (λ plan is. c.in_default.not-Ok plan (c.plan.ensures.only plan is))

pub returns-in-Err-clause-moments : goal.returns-in-Err-clause-moments
returns-in-Err-clause-moments g c = cut_moments c.args.words.now (g.P.Source.left c.args.schema.now) (g.W.Station.content c.args.station.now) (g.C.Source.left c.args.script.now) (g.W.Station.now c.args.station.now).spoken (g.W.Station.now c.speak.new.station).spoken (g.W.Station.history c.args.station.now) (g.W.Station.history c.speak.new.station) _ c.speak.ensures.moments

pub returns-in-Err-clause-kept : goal.returns-in-Err-clause-kept
returns-in-Err-clause-kept g c = λ run. absurd (c.in_default.not-Ok (Run run.0 run.1) (c.plan.ensures.only (Run run.0 run.1) run.2))

pub returns-in-Err-clause-right : goal.returns-in-Err-clause-right
returns-in-Err-clause-right g c = c.scripts_are_right.ensures (g.P.Source.left c.args.schema.now) (g.C.Source.left c.args.script.now)

-- ---- a text is checked

pub returns-in-Check-clause-complete : goal.returns-in-Check-clause-complete
returns-in-Check-clause-complete g c =
    check_complete c.args.words.now (call_of g.P.Source.left g.C.Source.left g.W.Station.now g.W.Station.content c.args.schema.now c.args.script.now c.args.script.now c.args.station.now c.tell_checked.new.station) _ _ c.tell_checked.result c.in-Check.schema (λ plan is. cc (c.in-Ok.is, c.in-Check.is, c.plan.ensures.only plan is)) c.tell_checked.ensures.ends (c.tell_checked.ensures.causes (g.C.Source.faults c.args.script.now)) c.tell_checked.ensures.one

pub returns-in-Check-clause-moments : goal.returns-in-Check-clause-moments
returns-in-Check-clause-moments g c = check_moments c.args.words.now (g.P.Source.left c.args.schema.now) (g.W.Station.content c.args.station.now) (g.C.Source.left c.args.script.now) (g.W.Station.now c.args.station.now).spoken (g.W.Station.now c.tell_checked.new.station).spoken (g.W.Station.history c.args.station.now) (g.W.Station.history c.tell_checked.new.station) c.tell_checked.result (c.in-Check.schema, rw c.in-Check.is at c.in-Ok.ensures.ok) c.tell_checked.ensures.moments

pub returns-in-Check-clause-kept : goal.returns-in-Check-clause-kept
returns-in-Check-clause-kept g c = λ run. cc (c.in-Ok.is, c.in-Check.is, c.plan.ensures.only (Run run.0 run.1) run.2)

pub returns-in-Check-clause-right : goal.returns-in-Check-clause-right
returns-in-Check-clause-right g c = c.scripts_are_right.ensures (g.P.Source.left c.args.schema.now) (g.C.Source.left c.args.script.now)

pub returns-in-Check-clause-untouched : goal.returns-in-Check-clause-untouched
returns-in-Check-clause-untouched g c = λ may. (c.tell_checked.ensures.disk.1, c.tell_checked.ensures.disk.0)

pub returns-in-Check-clause-unasked_schema : goal.returns-in-Check-clause-unasked_schema
returns-in-Check-clause-unasked_schema g c = λ may.
    absurd (no_demo c.args.words.now (Check c.in-Check.schema) (rw c.in-Check.is at c.in-Ok.ensures.ok) (λ plan is. cc (c.in-Ok.is, c.in-Check.is, c.plan.ensures.only plan is)) (λ rounds store same. cc same) may)

pub returns-in-Check-clause-filled : goal.returns-in-Check-clause-filled
returns-in-Check-clause-filled g c = λ asked.
    absurd (no_store c.args.words.now (Check c.in-Check.schema) (rw c.in-Check.is at c.in-Ok.ensures.ok) (λ plan is. cc (c.in-Ok.is, c.in-Check.is, c.plan.ensures.only plan is)) (λ schema store same. cc same) (λ rounds store same. cc same) asked)

-- ---- a script is served

pub returns-in-Run-clause-complete : goal.returns-in-Run-clause-complete
returns-in-Run-clause-complete g c =
    run_complete c.args.words.now _ _ _ c.run_script.result c.an_image_is_one_thing.ensures c.in-Run.schema c.in-Run.store (λ plan is. cc (c.in-Ok.is, c.in-Run.is, c.plan.ensures.only plan is)) c.run_script.ensures.ends c.run_script.ensures.causes c.run_script.ensures.one

pub returns-in-Run-clause-moments : goal.returns-in-Run-clause-moments
returns-in-Run-clause-moments g c = run_moments c.args.words.now (g.P.Source.left c.args.schema.now) (g.W.Station.content c.args.station.now) (g.C.Source.left c.args.script.now) (g.W.Station.now c.args.station.now).spoken (g.W.Station.now c.run_script.new.station).spoken (g.W.Station.history c.args.station.now) (g.W.Station.history c.run_script.new.station) c.run_script.result (c.in-Run.schema, c.in-Run.store, rw c.in-Run.is at c.in-Ok.ensures.ok) c.run_script.ensures.moments

pub returns-in-Run-clause-untouched : goal.returns-in-Run-clause-untouched
returns-in-Run-clause-untouched g c = λ may.
    absurd (no_check c.args.words.now (Run c.in-Run.schema c.in-Run.store) (rw c.in-Run.is at c.in-Ok.ensures.ok) (λ plan is. cc (c.in-Ok.is, c.in-Run.is, c.plan.ensures.only plan is)) (λ at same. cc same) may)

pub returns-in-Run-clause-unasked_schema : goal.returns-in-Run-clause-unasked_schema
returns-in-Run-clause-unasked_schema g c = λ may.
    absurd (no_demo c.args.words.now (Run c.in-Run.schema c.in-Run.store) (rw c.in-Run.is at c.in-Ok.ensures.ok) (λ plan is. cc (c.in-Ok.is, c.in-Run.is, c.plan.ensures.only plan is)) (λ rounds store same. cc same) may)

pub returns-in-Run-clause-filled : goal.returns-in-Run-clause-filled
returns-in-Run-clause-filled g c = λ asked.
    absurd (no_store c.args.words.now (Run c.in-Run.schema c.in-Run.store) (rw c.in-Run.is at c.in-Ok.ensures.ok) (λ plan is. cc (c.in-Ok.is, c.in-Run.is, c.plan.ensures.only plan is)) (λ schema store same. cc same) (λ rounds store same. cc same) asked)

-- ---- a store is made

pub returns-in-Init-clause-complete : goal.returns-in-Init-clause-complete
returns-in-Init-clause-complete g c =
    init_complete c.args.words.now (call_of g.P.Source.left g.C.Source.left g.W.Station.now g.W.Station.content c.args.schema.now c.args.script.now c.args.script.now c.args.station.now c.init_store.new.station) _ _ c.init_store.result c.in-Init.schema c.in-Init.store (λ plan is. cc (c.in-Ok.is, c.in-Init.is, c.plan.ensures.only plan is)) c.init_store.ensures.ends (c.init_store.ensures.causes (g.C.Source.faults c.args.script.now)) c.init_store.ensures.one

pub returns-in-Init-clause-moments : goal.returns-in-Init-clause-moments
returns-in-Init-clause-moments g c = init_moments c.args.words.now (g.P.Source.left c.args.schema.now) (g.W.Station.content c.args.station.now) (g.C.Source.left c.args.script.now) (g.W.Station.now c.args.station.now).spoken (g.W.Station.now c.init_store.new.station).spoken (g.W.Station.history c.args.station.now) (g.W.Station.history c.init_store.new.station) c.init_store.result (c.in-Init.schema, c.in-Init.store, rw c.in-Init.is at c.in-Ok.ensures.ok) c.init_store.ensures.moments

pub returns-in-Init-clause-kept : goal.returns-in-Init-clause-kept
returns-in-Init-clause-kept g c = λ run. cc (c.in-Ok.is, c.in-Init.is, c.plan.ensures.only (Run run.0 run.1) run.2)

pub returns-in-Init-clause-right : goal.returns-in-Init-clause-right
returns-in-Init-clause-right g c = c.scripts_are_right.ensures (g.P.Source.left c.args.schema.now) (g.C.Source.left c.args.script.now)

pub returns-in-Init-clause-untouched : goal.returns-in-Init-clause-untouched
returns-in-Init-clause-untouched g c = λ may.
    absurd (no_check c.args.words.now (Init c.in-Init.schema c.in-Init.store) (rw c.in-Init.is at c.in-Ok.ensures.ok) (λ plan is. cc (c.in-Ok.is, c.in-Init.is, c.plan.ensures.only plan is)) (λ at same. cc same) may)

pub returns-in-Init-clause-unasked_schema : goal.returns-in-Init-clause-unasked_schema
returns-in-Init-clause-unasked_schema g c = λ may.
    absurd (no_demo c.args.words.now (Init c.in-Init.schema c.in-Init.store) (rw c.in-Init.is at c.in-Ok.ensures.ok) (λ plan is. cc (c.in-Ok.is, c.in-Init.is, c.plan.ensures.only plan is)) (λ rounds store same. cc same) may)

-- ---- a store of people is demonstrated

pub returns-in-Demo-clause-ends : goal.returns-in-Demo-clause-ends
returns-in-Demo-clause-ends g c =
    inr (inr (inr (inr ((c.in-Demo.rounds, c.in-Demo.store, rw c.in-Demo.is at c.in-Ok.ensures.ok), c.demonstrate.ensures.ends (g.P.Source.left c.args.schema.now) (g.C.Source.left c.args.script.now) (g.C.Source.left c.args.script.now)))))

pub returns-in-Demo-clause-complete : goal.returns-in-Demo-clause-complete
returns-in-Demo-clause-complete g c =
    demo_complete c.args.words.now _ _ _ c.demonstrate.result c.in-Demo.rounds c.in-Demo.store (λ plan is. cc (c.in-Ok.is, c.in-Demo.is, c.plan.ensures.only plan is))
    (c.demonstrate.ensures.ends (g.P.Source.left c.args.schema.now) (g.C.Source.left c.args.script.now) (g.C.Source.left c.args.script.now))
    (c.demonstrate.ensures.causes (g.P.Source.faults c.args.schema.now) (g.C.Source.faults c.args.script.now))

pub returns-in-Demo-clause-causes : goal.returns-in-Demo-clause-causes
returns-in-Demo-clause-causes g c = c.demonstrate.ensures.causes (g.P.Source.faults c.args.schema.now) (g.C.Source.faults c.args.script.now)

pub returns-in-Demo-clause-moments : goal.returns-in-Demo-clause-moments
returns-in-Demo-clause-moments g c = demo_moments c.args.words.now (g.P.Source.left c.args.schema.now) (g.W.Station.content c.args.station.now) (g.C.Source.left c.args.script.now) (g.W.Station.now c.args.station.now).spoken (g.W.Station.now c.demonstrate.new.station).spoken (g.W.Station.history c.args.station.now) (g.W.Station.history c.demonstrate.new.station) c.demonstrate.result (c.in-Demo.rounds, c.in-Demo.store, rw c.in-Demo.is at c.in-Ok.ensures.ok) c.demonstrate.ensures.moments

pub returns-in-Demo-clause-kept : goal.returns-in-Demo-clause-kept
returns-in-Demo-clause-kept g c = λ run. cc (c.in-Ok.is, c.in-Demo.is, c.plan.ensures.only (Run run.0 run.1) run.2)

pub returns-in-Demo-clause-right : goal.returns-in-Demo-clause-right
returns-in-Demo-clause-right g c = c.scripts_are_right.ensures (g.P.Source.left c.args.schema.now) (g.C.Source.left c.args.script.now)

pub returns-in-Demo-clause-untouched : goal.returns-in-Demo-clause-untouched
returns-in-Demo-clause-untouched g c = λ may.
    absurd (no_check c.args.words.now (Demo c.in-Demo.rounds c.in-Demo.store) (rw c.in-Demo.is at c.in-Ok.ensures.ok) (λ plan is. cc (c.in-Ok.is, c.in-Demo.is, c.plan.ensures.only plan is)) (λ at same. cc same) may)
