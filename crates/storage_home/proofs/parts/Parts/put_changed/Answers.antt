use Rattle.std.proofs.Common.{sym, subst, ◌∙◌}
use Rattle.std.specs.Vec.Iter.{into_iter_items}
use Rattle.storage_home.specs.inner.Steps.{MayPutAll}
use Rattle.storage_home.proofs.Places.{no_items}
use Rattle.storage_home.proofs.Stepping.{all_put}
use Rattle.storage_home.proofs.parts.Parts.put_changed.Goals as goal

pub put_change-requires : goal.put_change-requires
put_change-requires c =
    (into_iter_items c.next.new.self, (c.requires.0, c.requires.1, subst (MayPutAll c.requires.0 c.requires.1 c.loop-change.self) c.in-Some.ensures.steps.0 (c.loop-change.invariant.2 c.requires.0 c.requires.1 c.requires.2)))

pub returns : goal.returns
returns c S F m = all_put S F c.loop-change.self (subst (MayPutAll S F c.loop-change.self) (no_items _ (sym c.loop-change.change-iterator.rest.ok.0 ∙ c.in-None.ensures.steps.0)) (c.loop-change.invariant.2 S F m))
