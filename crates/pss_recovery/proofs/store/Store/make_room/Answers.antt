use Rattle.pss_recovery.specs.Mounted.{IsMounted}
use Rattle.pss_recovery.proofs.Rooms.{any_ok, some_then}
use Rattle.pss_recovery.proofs.store.Store.make_room.Goals as goal

pub returns-in-Ok-clause-kept : goal.returns-in-Ok-clause-kept
returns-in-Ok-clause-kept g c =
    any_ok c.reserve.result _
    (λ S M next.
    some_then (g.W.Station.content c.args.w.now) _ _ (c.in-Ok.ensures.kept S M next)
    (λ before kept mounted. some_then (g.W.Station.content c.make_fit.new.w) (IsMounted S M next c.make_fit.new.self) (IsMounted S M next c.reserve.new.self) (kept mounted) (λ content is. c.reserve.ensures.same S M next content is)))
