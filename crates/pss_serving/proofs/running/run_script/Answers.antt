use Rattle.std.proofs.Common.{inl, inr, ◌∙◌, refl, sym, ap, subst, Bool, List, ℕ}
use Rattle.std.specs.declared.option.Option.{Option}
use Rattle.pss_base.specs.Causes.{HasCauseIf}
use Rattle.pss_disk.specs.Moments.{Moment}
use Rattle.psdl_tree.specs.Views.{tree_view}
use Rattle.type_layout.specs.Sound.{IsSoundSchema}
use Rattle.pss_serving.specs.Outcomes.{Call, WholeServing}
use Rattle.pss_serving.proofs.EndOfRun.{causes_of, ends_of, kept_of, moments_of}
use Rattle.pss_serving.proofs.Found.{sound_of}
use Rattle.pss_serving.proofs.Spared.{spoken_spared}
use Rattle.pss_serving.proofs.Unread.{unread_causes, unread_kept, unread_moments, unread_one, unread_serves}
use Rattle.pss_serving.proofs.running.run_script.Goals as goal

pub serve_store-requires : goal.serve_store-requires
serve_store-requires g c =
    let found = c.in-Ok.ensures.found in
    record { sound = subst IsSoundSchema (sym (c.schema_of.ensures ∙ found.1)) (c.text_is_sound.ensures (tree_view c.in-Ok.sound.tree) found.0.0 found.0.1.0 found.0.1.1) }

-- ---- the text is sound

pub returns-in-Ok-clause-ends : goal.returns-in-Ok-clause-ends
returns-in-Ok-clause-ends g c =
    let text : Option (List ℕ) = g.P.Source.left c.args.schema.now in
    let call : Call = record {
      schema = text;
      script = g.C.Source.left c.args.script.now;
      left = g.C.Source.left c.serve_store.new.script;
      before = (g.W.Station.now c.args.station.now).spoken;
      after = (g.W.Station.now c.serve_store.new.station).spoken;
      held = g.W.Station.content c.args.station.now;
      holds = g.W.Station.content c.serve_store.new.station;
      disk = (g.W.Station.now c.serve_store.new.station).disk;
    } in
    ends_of c.serve_store.result call (tree_view c.in-Ok.sound.tree) c.schema_of.result (g.P.Source.faults c.args.schema.now) (g.P.Source.faults c.read_checked.new.schema) (c.in-Ok.ensures.cause.kept refl)
    (sound_of text c.in-Ok.sound c.in-Ok.ensures.found) (c.schema_of.ensures ∙ c.in-Ok.ensures.found.1) (c.serve_store.ensures.ends text)

pub returns-in-Ok-clause-one : goal.returns-in-Ok-clause-one
returns-in-Ok-clause-one g c = λ ended. c.in-Ok.ensures.one

pub returns-in-Ok-clause-causes : goal.returns-in-Ok-clause-causes
returns-in-Ok-clause-causes g c = causes_of c.serve_store.result _ _ (c.in-Ok.ensures.cause.kept refl) c.serve_store.ensures.read c.serve_store.ensures.speech c.serve_store.ensures.disk

pub returns-in-Ok-clause-moments : goal.returns-in-Ok-clause-moments
returns-in-Ok-clause-moments g c =
    let text : Option (List ℕ) = g.P.Source.left c.args.schema.now in
    moments_of c.serve_store.result (tree_view c.in-Ok.sound.tree) c.schema_of.result text (g.W.Station.content c.args.station.now) (g.C.Source.left c.args.script.now)
    (g.W.Station.now c.args.station.now).spoken (g.W.Station.now c.serve_store.new.station).spoken (g.W.Station.history c.args.station.now) (g.W.Station.history c.serve_store.new.station)
    (sound_of text c.in-Ok.sound c.in-Ok.ensures.found) (c.schema_of.ensures ∙ c.in-Ok.ensures.found.1) c.serve_store.ensures.moments

pub returns-in-Ok-clause-kept : goal.returns-in-Ok-clause-kept
returns-in-Ok-clause-kept g c =
    kept_of (g.W.Station.content c.args.station.now) (g.C.Source.left c.args.script.now) (g.W.Station.now c.args.station.now).spoken (g.W.Station.history c.args.station.now)
    (g.W.Station.history c.serve_store.new.station) (g.W.Station.now c.args.station.now) (g.P.Source.left c.args.schema.now) c.in-Ok.sound c.schema_of.result
    c.in-Ok.ensures.found c.in-Ok.ensures.one c.schema_of.ensures c.serve_store.ensures.kept

pub returns-in-Ok-clause-right : goal.returns-in-Ok-clause-right
returns-in-Ok-clause-right g c = c.scripts_are_right.ensures (g.P.Source.left c.args.schema.now) (g.C.Source.left c.args.script.now)

-- ---- there is no sound text

pub returns-in-Err : goal.returns-in-Err
returns-in-Err g c =
    let text : Option (List ℕ) = g.P.Source.left c.args.schema.now in
    let script : Option (List ℕ) = g.C.Source.left c.args.script.now in
    let first : Moment = g.W.Station.now c.args.station.now in
    let last : Moment = g.W.Station.now c.status_of_unread.new.station in
    let held : Option (List ℕ) = g.W.Station.content c.args.station.now in
    let a : List Moment = g.W.Station.history c.args.station.now in
    let b : List Moment = g.W.Station.history c.status_of_unread.new.station in
    let end = c.status_of_unread.ensures in
    let call : Call = record { schema = text; script = script; left = script; before = first.spoken; after = last.spoken; held = held; holds = g.W.Station.content c.status_of_unread.new.station; disk = last.disk } in
    let read = subst (λ (failed : Bool). HasCauseIf (g.P.Source.faults c.args.schema.now) (g.P.Source.faults c.read_checked.new.schema) failed) (sym end.read) c.in-Err.ensures.cause in
    record {
      ends = unread_serves c.status_of_unread.result c.in-Err.why call _ _ c.in-Err.ensures.found read end.told end.content;
      unread = λ before. refl;
      one = unread_one c.status_of_unread.result c.in-Err.why text first.spoken last.spoken c.in-Err.ensures.one end.told;
      causes = unread_causes c.status_of_unread.result c.in-Err.why first.spoken last.spoken _ _ read refl end.speech end.other end.told;
      moments = unread_moments a b first.spoken last.spoken first.disk (λ spoken. WholeServing text held script first.spoken spoken) c.status_of_unread.result c.in-Err.why text c.in-Err.ensures.found
          (λ of. inr (inl of)) (λ unknown. ap g.W.Station.history (end.untold unknown)) end.told end.moments;
      kept = unread_kept held script first.spoken a b first c.in-Err.why text c.in-Err.ensures.found c.in-Err.ensures.one (λ unknown. ap g.W.Station.history (end.untold unknown));
      spared = λ before. spoken_spared held first a b last.spoken end.moments;
      right = c.scripts_are_right.ensures text script;
    }
