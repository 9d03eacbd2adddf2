use Rattle.std.proofs.Common.{refl}
use Rattle.pss_recovery.proofs.Committing.{all_images, all_made, all_outside, all_stay, all_written}
use Rattle.pss_recovery.proofs.store.Store.commit.Goals as goal

pub returns-in_err-append-clause-images : goal.returns-in_err-append-clause-images
returns-in_err-append-clause-images g c =
    all_images c.self.inside.parts c.args.self.now c.self.view_is c.self.invariant c.args.prepared c.requires.room c.as_slice.result.now c.as_slice.ensures (g.W.Station.content c.args.w.now) _ _ c.append.ensures.bodies c.append.ensures.others c.append.ensures.long

pub returns-in_err-append-clause-others : goal.returns-in_err-append-clause-others
returns-in_err-append-clause-others g c =
    all_outside c.self.inside.parts c.args.self.now c.self.view_is c.self.invariant c.args.prepared c.requires.room c.as_slice.result.now c.as_slice.ensures (g.W.Station.content c.args.w.now) _ _ c.append.ensures.others

pub returns-in_err-append-clause-content : goal.returns-in_err-append-clause-content
returns-in_err-append-clause-content g c =
    all_stay c.self.inside.parts c.args.self.now c.self.view_is c.self.invariant c.args.prepared c.requires.room c.as_slice.result.now c.as_slice.ensures (g.W.Station.content c.args.w.now) (g.W.Station.content c.append.new.w) c.in_err-append.ensures.failed

pub returns-clause-made : goal.returns-clause-made
returns-clause-made g c =
    all_made c.self.inside.parts c.args.self.now c.self.view_is c.self.invariant c.args.prepared c.requires.room c.as_slice.result.now c.as_slice.ensures _ _ (g.W.Station.content c.args.w.now) (g.W.Station.content c.append.new.w) c.in_ok-append.ensures.content c.note_all.ensures refl refl
    c.in_ok-append.ensures.end c.in_ok-append.ensures.added

pub returns-clause-images : goal.returns-clause-images
returns-clause-images g c =
    all_images c.self.inside.parts c.args.self.now c.self.view_is c.self.invariant c.args.prepared c.requires.room c.as_slice.result.now c.as_slice.ensures (g.W.Station.content c.args.w.now) _ _ c.append.ensures.bodies c.append.ensures.others c.append.ensures.long

pub returns-clause-others : goal.returns-clause-others
returns-clause-others g c =
    all_outside c.self.inside.parts c.args.self.now c.self.view_is c.self.invariant c.args.prepared c.requires.room c.as_slice.result.now c.as_slice.ensures (g.W.Station.content c.args.w.now) _ _ c.append.ensures.others

pub returns-clause-content : goal.returns-clause-content
returns-clause-content g c =
    all_written c.self.inside.parts c.args.self.now c.self.view_is c.self.invariant c.args.prepared c.requires.room c.as_slice.result.now c.as_slice.ensures (g.W.Station.content c.args.w.now) (g.W.Station.content c.append.new.w) c.in_ok-append.ensures.content
