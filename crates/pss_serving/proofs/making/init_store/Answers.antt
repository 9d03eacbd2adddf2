use Rattle.std.proofs.Common.{inl, refl, sym, ap, subst, Bool, List, ℕ}
use Rattle.std.specs.declared.option.Option.{Option}
use Rattle.pss_base.specs.Causes.{HasCauseIf}
use Rattle.pss_disk.specs.Moments.{Moment}
use Rattle.psdl_tree.specs.Views.{tree_view}
use Rattle.type_layout.specs.declared.schema.Schema.{Schema}
use Rattle.type_layout.specs.Sound.{IsSoundSchema}
use Rattle.pss_serving.specs.Making.{Made, MakesStore, WholeMaking}
use Rattle.pss_serving.proofs.Found.{sound_of}
use Rattle.pss_serving.proofs.NewStores.{making_causes, making_ends, making_moments}
use Rattle.pss_serving.proofs.Spared.{spoken_spared}
use Rattle.pss_serving.proofs.Unread.{unread_causes, unread_makes, unread_moments, unread_one}
use Rattle.pss_serving.proofs.making.init_store.Goals as goal

pub make_store-requires : goal.make_store-requires
make_store-requires g c =
    let found = c.in-Ok.ensures.found in
    subst IsSoundSchema (sym found.1) (c.text_is_sound.ensures (tree_view c.in-Ok.sound.tree) found.0.0 found.0.1.0 found.0.1.1)

-- ---- the store is made, or its file has octets

pub returns-in-Ok-clause-ends : goal.returns-in-Ok-clause-ends
returns-in-Ok-clause-ends g c =
    let text : Option (List ℕ) = g.P.Source.left c.args.schema.now in
    let made : Made = record {
      text = text;
      before = (g.W.Station.now c.args.station.now).spoken;
      after = (g.W.Station.now c.make_store.new.station).spoken;
      held = g.W.Station.content c.args.station.now;
      holds = g.W.Station.content c.make_store.new.station;
      disk = (g.W.Station.now c.make_store.new.station).disk;
    } in
    making_ends c.make_store.result (tree_view c.in-Ok.sound.tree) made (g.P.Source.faults c.args.schema.now) (g.P.Source.faults c.read_checked.new.schema) (sound_of text c.in-Ok.sound c.in-Ok.ensures.found)
    (subst (λ (S : Schema). MakesStore c.make_store.result S made) c.in-Ok.ensures.found.1 (c.make_store.ensures.ends text))

pub returns-in-Ok-clause-one : goal.returns-in-Ok-clause-one
returns-in-Ok-clause-one g c = λ ended. c.in-Ok.ensures.one

pub returns-in-Ok-clause-causes : goal.returns-in-Ok-clause-causes
returns-in-Ok-clause-causes g c = λ script.
    making_causes c.make_store.result c.in-Ok.sound.schema _ _ _ (c.make_store.ensures.ends (g.P.Source.left c.args.schema.now)) (c.in-Ok.ensures.cause.kept refl) refl c.make_store.ensures.speech c.make_store.ensures.disk

pub returns-in-Ok-clause-moments : goal.returns-in-Ok-clause-moments
returns-in-Ok-clause-moments g c =
    making_moments c.make_store.result (g.P.Source.left c.args.schema.now) (g.W.Station.now c.args.station.now).spoken (g.W.Station.now c.make_store.new.station).spoken (g.W.Station.history c.args.station.now)
    (g.W.Station.history c.make_store.new.station) c.make_store.ensures.moments

-- ---- there is no sound text

pub returns-in-Err : goal.returns-in-Err
returns-in-Err g c =
    let text : Option (List ℕ) = g.P.Source.left c.args.schema.now in
    let first : Moment = g.W.Station.now c.args.station.now in
    let last : Moment = g.W.Station.now c.status_of_unread.new.station in
    let held : Option (List ℕ) = g.W.Station.content c.args.station.now in
    let a : List Moment = g.W.Station.history c.args.station.now in
    let b : List Moment = g.W.Station.history c.status_of_unread.new.station in
    let end = c.status_of_unread.ensures in
    let made : Made = record { text = text; before = first.spoken; after = last.spoken; held = held; holds = g.W.Station.content c.status_of_unread.new.station; disk = last.disk } in
    let spared = spoken_spared held first a b last.spoken end.moments in
    let read = subst (λ (failed : Bool). HasCauseIf (g.P.Source.faults c.args.schema.now) (g.P.Source.faults c.read_checked.new.schema) failed) (sym end.read) c.in-Err.ensures.cause in
    record {
      ends = unread_makes c.status_of_unread.result c.in-Err.why made _ _ c.in-Err.ensures.found read end.told end.content;
      one = unread_one c.status_of_unread.result c.in-Err.why text first.spoken last.spoken c.in-Err.ensures.one end.told;
      causes = λ script. unread_causes c.status_of_unread.result c.in-Err.why first.spoken last.spoken _ _ read refl end.speech end.other end.told;
      moments = unread_moments a b first.spoken last.spoken first.disk (λ spoken. WholeMaking text first.spoken spoken) c.status_of_unread.result c.in-Err.why text c.in-Err.ensures.found (λ of. inl of)
          (λ unknown. ap g.W.Station.history (end.untold unknown)) end.told end.moments;
      spared = λ before. spared;
      filled = λ filled. spared;
    }
