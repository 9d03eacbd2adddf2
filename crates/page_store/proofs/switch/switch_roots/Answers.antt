use Rattle.std.proofs.Common.{IfSome}
use Rattle.page_store.specs.Stores.{IsEmptied}
use Rattle.page_store.specs.Switch.{HasPages, MayFollow}
use Rattle.page_store.specs.inner.Switching.{IsEntered}
use Rattle.page_format.proofs.Buffers.{some_weaker}
use Rattle.page_store.proofs.switch.switch_roots.Goals as goal

pub returns-in-Ok-switch_with-clause-switched : goal.returns-in-Ok-switch_with-clause-switched
returns-in-Ok-switch_with-clause-switched g c = λ old next is.
    let after = g.W.Station.content c.switch_with.new.w in
    some_weaker (g.W.Station.content c.args.w.now) (λ before. MayFollow old next before → IfSome after (IsEntered next before)) (λ before. MayFollow old next before → IfSome after (IsEmptied next.root next.objects))
    (λ before known follow. some_weaker after (IsEntered next before) (IsEmptied next.root next.objects) (λ x e. e.emptied) (known follow)) (c.in-Ok-switch_with.ensures.entered old next is)

pub returns-in-Ok-switch_with-clause-placed : goal.returns-in-Ok-switch_with-clause-placed
returns-in-Ok-switch_with-clause-placed g c = λ old next is.
    let after = g.W.Station.content c.switch_with.new.w in
    some_weaker (g.W.Station.content c.args.w.now) (λ before. MayFollow old next before → IfSome after (IsEntered next before)) (λ before. MayFollow old next before → IfSome after (HasPages next before))
    (λ before known follow. some_weaker after (IsEntered next before) (HasPages next before) (λ x e. e.pages) (known follow)) (c.in-Ok-switch_with.ensures.entered old next is)
