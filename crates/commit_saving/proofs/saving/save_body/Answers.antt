use Rattle.std.proofs.Common.{subst}
use Rattle.std.specs.Prelude.{IfSome}
use Rattle.pss_disk.specs.Moments.{Through}
use Rattle.page_store.specs.Stores.{AllHave}
use Rattle.pss_recovery.specs.Area.{journal_area}
use Rattle.pss_recovery.specs.Mounted.{IsMounted, IsPrepared, StandsEither}
use Rattle.pss_recovery.specs.declared.body.Body.{Body}
use Rattle.pss_recovery.proofs.Silent.{silent_then}
use Rattle.commit_saving.proofs.Stored.{images_first, images_then, saved_then}
use Rattle.commit_saving.proofs.saving.save_body.Goals as goal

pub returns-in-Ok-commit-clause-saved : goal.returns-in-Ok-commit-clause-saved
returns-in-Ok-commit-clause-saved g c S M N saved =
    let mid = g.W.Station.content c.prepare.new.w in
    let new = g.W.Station.content c.commit.new.w in
    saved_then S M N saved c.args.body c.args.store.now c.prepare.new.self c.commit.new.self journal_area (g.W.Station.content c.args.station.now) mid new c.in-Ok.ensures.told (c.in-Ok.ensures.kept S M saved) c.commit.ensures.content
    (subst (λ (b : Body). IfSome mid (λ before. IsPrepared S M saved c.prepare.new.self b N before → IfSome new (IsMounted S N b.next c.commit.new.self))) c.in-Ok.ensures.body (c.in-Ok-commit.ensures.made S M N saved))

pub returns-in-Ok-commit-clause-images : goal.returns-in-Ok-commit-clause-images
returns-in-Ok-commit-clause-images g c S M N saved =
    let mid = g.W.Station.content c.prepare.new.w in
    let y = g.W.Station.history c.prepare.new.w in
    let z = g.W.Station.history c.commit.new.w in
    images_then S M N saved c.args.body c.args.store.now c.prepare.new.self c.commit.new.self journal_area (g.W.Station.content c.args.station.now) mid (g.W.Station.content c.commit.new.w) c.in-Ok.ensures.told (c.in-Ok.ensures.kept S M saved) (g.W.Station.history c.args.station.now) y z (c.prepare.ensures.images S M saved)
    (subst (λ (b : Body). IfSome mid (λ before. IsPrepared S M saved c.prepare.new.self b N before → Through y z (AllHave (StandsEither S M saved N b.next)))) c.in-Ok.ensures.body (c.commit.ensures.images S M N saved))

pub returns-in-Ok-commit-clause-silent : goal.returns-in-Ok-commit-clause-silent
returns-in-Ok-commit-clause-silent g c = silent_then g.W.Station.now g.W.Station.history g.W.Station.speak_faults c.args.station.now c.prepare.new.w c.commit.new.w c.prepare.ensures.silent c.commit.ensures.silent

pub returns-in-Err-commit-clause-images : goal.returns-in-Err-commit-clause-images
returns-in-Err-commit-clause-images g c S M N saved =
    let mid = g.W.Station.content c.prepare.new.w in
    let y = g.W.Station.history c.prepare.new.w in
    let z = g.W.Station.history c.commit.new.w in
    images_then S M N saved c.args.body c.args.store.now c.prepare.new.self c.commit.new.self journal_area (g.W.Station.content c.args.station.now) mid (g.W.Station.content c.commit.new.w) c.in-Ok.ensures.told (c.in-Ok.ensures.kept S M saved) (g.W.Station.history c.args.station.now) y z (c.prepare.ensures.images S M saved)
    (subst (λ (b : Body). IfSome mid (λ before. IsPrepared S M saved c.prepare.new.self b N before → Through y z (AllHave (StandsEither S M saved N b.next)))) c.in-Ok.ensures.body (c.commit.ensures.images S M N saved))

pub returns-in-Err-commit-clause-silent : goal.returns-in-Err-commit-clause-silent
returns-in-Err-commit-clause-silent g c = silent_then g.W.Station.now g.W.Station.history g.W.Station.speak_faults c.args.station.now c.prepare.new.w c.commit.new.w c.prepare.ensures.silent c.commit.ensures.silent

pub returns-in-Err-clause-images : goal.returns-in-Err-clause-images
returns-in-Err-clause-images g c S M N saved =
    images_first S M N saved c.args.body c.args.store.now (g.W.Station.content c.args.station.now) (g.W.Station.history c.args.station.now) (g.W.Station.history c.prepare.new.w) (c.prepare.ensures.images S M saved)
