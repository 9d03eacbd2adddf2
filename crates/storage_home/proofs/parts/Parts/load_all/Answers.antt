use Rattle.std.proofs.Common.{sym, subst, ◌∙◌}
use Rattle.std.specs.Vec.Iter.{into_iter_items}
use Rattle.storage_home.specs.inner.Steps.{MayLoadAll}
use Rattle.storage_home.proofs.Places.{no_items}
use Rattle.storage_home.proofs.LoadingRows.{all_loaded}
use Rattle.storage_home.proofs.parts.Parts.load_all.Goals as goal

pub load-requires : goal.load-requires
load-requires c =
    (into_iter_items c.next.new.self, (c.requires.0, subst (MayLoadAll c.args.schema.now c.requires.0 c.loop-row.self) c.in-Some.ensures.steps.0 (c.loop-row.invariant.2 c.requires.0 c.requires.1)))

pub returns : goal.returns
returns c F m = all_loaded c.args.schema.now F c.loop-row.self (subst (MayLoadAll c.args.schema.now F c.loop-row.self) (no_items _ (sym c.loop-row.row-iterator.rest.ok.0 ∙ c.in-None.ensures.steps.0)) (c.loop-row.invariant.2 F m))
