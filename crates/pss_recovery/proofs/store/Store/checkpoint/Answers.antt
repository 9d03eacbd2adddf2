use Rattle.std.proofs.Common.{◌+◌, ◌%◌, IfSome, refl, subst}
use Rattle.pss_disk.specs.Moments.{Through}
use Rattle.page_store.specs.Stores.{AllHave}
use Rattle.pss_recovery.specs.Mounted.{IsMounted}
use Rattle.pss_recovery.specs.Stands.{Stands}
use Rattle.pss_recovery.specs.declared.parts.Parts.{Parts}
use Rattle.pss_recovery.proofs.Emptied.{all_mounted, all_stand}
use Rattle.pss_recovery.proofs.store.Store.checkpoint.Goals as goal

pub returns-in-Ok-clause-made : goal.returns-in-Ok-clause-made
returns-in-Ok-clause-made g c = λ S M next.
    subst (λ (p : Parts). IfSome (g.W.Station.content c.args.w.now) (λ before. IsMounted S M next p before → IfSome (g.W.Station.content c.checkpoint.new.w) (IsMounted S M next (record { alloc = c.self.inside.parts.alloc; pages = c.checkpoint.new.self; journal = c.start-self-inside.result; epoch = (c.self.inside.parts.epoch + 1) % 18446744073709551616; next = c.self.inside.parts.next })))) c.self.view_is
    (all_mounted c.self.inside.parts c.self.invariant S M next (g.W.Station.content c.args.w.now) (g.W.Station.content c.checkpoint.new.w) _ c.in-Ok.ensures.made c.in-Ok.ensures.closed c.start-self-inside.ensures refl refl c.in-Ok.ensures.noted)

pub returns-in-Ok-clause-images : goal.returns-in-Ok-clause-images
returns-in-Ok-clause-images g c = λ S M next.
    subst (λ (p : Parts). IfSome (g.W.Station.content c.args.w.now) (λ before. IsMounted S M next p before → Through (g.W.Station.history c.args.w.now) (g.W.Station.history c.checkpoint.new.w) (AllHave (Stands S M next)))) c.self.view_is
    (all_stand c.self.inside.parts c.self.invariant S M next (g.W.Station.content c.args.w.now) _ _ c.checkpoint.ensures.stores)

pub returns-in-Err-clause-images : goal.returns-in-Err-clause-images
returns-in-Err-clause-images g c = λ S M next.
    subst (λ (p : Parts). IfSome (g.W.Station.content c.args.w.now) (λ before. IsMounted S M next p before → Through (g.W.Station.history c.args.w.now) (g.W.Station.history c.checkpoint.new.w) (AllHave (Stands S M next)))) c.self.view_is
    (all_stand c.self.inside.parts c.self.invariant S M next (g.W.Station.content c.args.w.now) _ _ c.checkpoint.ensures.stores)
