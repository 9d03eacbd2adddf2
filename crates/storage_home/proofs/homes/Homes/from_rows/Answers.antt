use Rattle.std.proofs.Common.{sym, subst}
use Rattle.std.specs.FinMap.{empty}
use Rattle.pss_catalog.specs.Changes.{over}
use Rattle.storage_home.specs.inner.Steps.{MayLoadAll}
use Rattle.storage_home.proofs.LoadingRows.{may_load_all}
use Rattle.storage_home.proofs.homes.Homes.from_rows.Goals as goal

pub load_all-requires : goal.load_all-requires
load_all-requires c =
    (over empty c.requires.rows.steps, subst (MayLoadAll c.args.schema.now (over empty c.requires.rows.steps) c.in_ok-parts.parts) (sym c.into_vec.ensures) (may_load_all c.args.schema.now c.args.rows c.requires.rows c.in_ok-parts.parts c.in_ok-parts.ensures))

pub returns : goal.returns
returns c m =
    c.in_ok-load_all.ensures (over empty m.steps) (subst (MayLoadAll c.args.schema.now (over empty m.steps) c.in_ok-parts.parts) (sym c.into_vec.ensures) (may_load_all c.args.schema.now c.args.rows m c.in_ok-parts.parts c.in_ok-parts.ensures))

pub invariant_of-result : goal.invariant_of-result
invariant_of-result c =
    let m = c.requires.rows in (
      c.args.schema.now,
      over empty m.steps,
      c.in_ok-load_all.ensures (over empty m.steps) (subst (MayLoadAll c.args.schema.now (over empty m.steps) c.in_ok-parts.parts) (sym c.into_vec.ensures) (may_load_all c.args.schema.now c.args.rows m c.in_ok-parts.parts c.in_ok-parts.ensures)),
    )
