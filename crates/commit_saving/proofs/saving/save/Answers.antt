use Rattle.std.proofs.Common.{sym, ◌∙◌, subst}
use Rattle.std.specs.Prelude.{IfSome}
use Rattle.pss_disk.specs.Moments.{Through}
use Rattle.page_store.specs.Stores.{AllHave}
use Rattle.pss_recovery.specs.Mounted.{IsMounted, IsPrepared, StandsEither}
use Rattle.pss_recovery.specs.declared.body.Body.{Body}
use Rattle.commit_saving.specs.Saving.{IfTold}
use Rattle.commit_saving.proofs.Stored.{images_some, on_ok, saved_some, some_of}
use Rattle.commit_saving.proofs.saving.save.Goals as goal

pub returns-in-Ok-clause-saved : goal.returns-in-Ok-clause-saved
returns-in-Ok-clause-saved g c =
    let old = g.W.Station.content c.args.station.now in
    let new = g.W.Station.content c.save_body.new.station in
    on_ok c.save_body.result
    (λ made S M N saved leaves.
    saved_some S M N saved c.args.next c.args.changes.now (some_of c.args.changes.now (sym c.is_empty.ensures ∙ c.if-is_empty.false)) leaves c.args.store.now c.save_body.new.store old new
    (subst (λ (b : Body). IfSome old (λ before. IsPrepared S M saved c.args.store.now b N before → IfTold new (IsMounted S N b.next c.save_body.new.store))) c.in-Ok.ensures (made S M N saved))) c.save_body.ensures.saved

pub returns-in-Ok-clause-images : goal.returns-in-Ok-clause-images
returns-in-Ok-clause-images g c S M N saved leaves =
    let old = g.W.Station.content c.args.station.now in
    let x = g.W.Station.history c.args.station.now in
    let y = g.W.Station.history c.save_body.new.station in
    images_some S M N saved c.args.next c.args.changes.now (some_of c.args.changes.now (sym c.is_empty.ensures ∙ c.if-is_empty.false)) leaves c.args.store.now c.save_body.new.store old (g.W.Station.content c.save_body.new.station) x y
    (subst (λ (b : Body). IfSome old (λ before. IsPrepared S M saved c.args.store.now b N before → Through x y (AllHave (StandsEither S M saved N b.next)))) c.in-Ok.ensures (c.save_body.ensures.images S M N saved))
