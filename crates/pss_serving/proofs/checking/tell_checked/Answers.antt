use Rattle.std.proofs.Common.{inl, inr, refl, sym, ap, subst, Bool, List, ℕ}
use Rattle.std.specs.declared.option.Option.{Option}
use Rattle.pss_base.specs.Causes.{HasCauseIf}
use Rattle.pss_disk.specs.Moments.{Moment}
use Rattle.psdl_tree.specs.Views.{tree_view}
use Rattle.line_service.specs.Turns.{IsWhole}
use Rattle.pss_serving.specs.Outcomes.{OfText}
use Rattle.pss_serving.specs.declared.status.Status.TheVariants as status
use Rattle.pss_serving.proofs.Outcomes.{checking_whole, checking_cut}
use Rattle.pss_serving.proofs.Found.{sound_of, text_of}
use Rattle.pss_serving.proofs.Spared.{spoken_spared}
use Rattle.pss_serving.proofs.Unread.{unread_causes, unread_checks, unread_moments, unread_one}
use Rattle.pss_serving.proofs.checking.tell_checked.Goals as goal

pub returns-in-Whole-clause-ends : goal.returns-in-Whole-clause-ends
returns-in-Whole-clause-ends g c =
    let source : Option (List ℕ) = g.P.Source.left c.args.schema.now in
    (tree_view c.in-Ok.sound.tree, sound_of source c.in-Ok.sound c.in-Ok.ensures.found, rw (← (text_of source c.in-Ok.sound c.in-Ok.ensures.found)) c.in-Whole.ensures.told)

pub returns-in-SpeakFault-clause-ends : goal.returns-in-SpeakFault-clause-ends
returns-in-SpeakFault-clause-ends g c =
    let source : Option (List ℕ) = g.P.Source.left c.args.schema.now in
    inr (tree_view c.in-Ok.sound.tree, sound_of source c.in-Ok.sound c.in-Ok.ensures.found, rw (← (text_of source c.in-Ok.sound c.in-Ok.ensures.found)) c.in-SpeakFault.ensures.told)

pub returns-in-Whole-clause-moments : goal.returns-in-Whole-clause-moments
returns-in-Whole-clause-moments g c =
    let source : Option (List ℕ) = g.P.Source.left c.args.schema.now in
    checking_whole _ _ _ _ _ _ status.Ok (inr (tree_view c.in-Ok.sound.tree, sound_of source c.in-Ok.sound c.in-Ok.ensures.found, inr (rw (← (text_of source c.in-Ok.sound c.in-Ok.ensures.found)) c.in-Whole.ensures.told))) c.tell.ensures.moments

pub returns-in-SpeakFault-clause-moments : goal.returns-in-SpeakFault-clause-moments
returns-in-SpeakFault-clause-moments g c = checking_cut _ _ _ _ _ _ c.tell.ensures.moments

pub returns-in-Ok-clause-moments : goal.returns-in-Ok-clause-moments
returns-in-Ok-clause-moments g c =
    checking_whole _ _ _ _ _ _ status.NoMemory (inr (tree_view c.in-Ok.sound.tree, sound_of _ c.in-Ok.sound c.in-Ok.ensures.found, inl c.in-NoMemory.ensures.told)) c.tell.ensures.moments

-- ---- there is no sound text

pub returns : goal.returns
returns g c =
    let text : Option (List ℕ) = g.P.Source.left c.args.schema.now in
    let first : Moment = g.W.Station.now c.args.station.now in
    let after : Option (List ℕ) = (g.W.Station.now c.status_of_unread.new.station).spoken in
    let a : List Moment = g.W.Station.history c.args.station.now in
    let b : List Moment = g.W.Station.history c.status_of_unread.new.station in
    let end = c.status_of_unread.ensures in
    let read = subst (λ (failed : Bool). HasCauseIf (g.P.Source.faults c.args.schema.now) (g.P.Source.faults c.read_checked.new.schema) failed) (sym end.read) c.in-Err.ensures.cause in
    record {
      ends = unread_checks c.status_of_unread.result c.in-Err.why text first.spoken after _ _ c.in-Err.ensures.found read end.told;
      one = unread_one c.status_of_unread.result c.in-Err.why text first.spoken after c.in-Err.ensures.one end.told;
      causes = λ script. unread_causes c.status_of_unread.result c.in-Err.why first.spoken after _ _ read refl end.speech end.other end.told;
      disk = (end.disk, end.content);
      moments = unread_moments a b first.spoken after first.disk (λ spoken. OfText (λ told. IsWhole told first.spoken spoken) text) c.status_of_unread.result c.in-Err.why text c.in-Err.ensures.found (λ of. inl of)
          (λ unknown. ap g.W.Station.history (end.untold unknown)) end.told end.moments;
      spared = λ before. spoken_spared (g.W.Station.content c.args.station.now) first a b after end.moments;
    }
