use Rattle.std.proofs.Common.{List, sym, subst}
use Rattle.std.specs.FinMap.{empty}
use Rattle.pss_base.specs.declared.put.Put.{Put}
use Rattle.pss_catalog.specs.Changes.{over}
use Rattle.storage_home.specs.Applied.{MayLoad}
use Rattle.storage_home.specs.Kept.{IsKept}
use Rattle.storage_home.proofs.Holding.{if_ok}
use Rattle.pss_recovery.specs.inner.Rowwise.{AreAll, AreSoFar}
use Rattle.pss_recovery.proofs.Starting.{no_rows, none_so_far}
use Rattle.pss_recovery.proofs.loading.load_rows.Goals as goal

pub from_rows-requires-clause-rows : goal.from_rows-requires-clause-rows
from_rows-requires-clause-rows c = subst (MayLoad c.args.schema.now) (sym c.new.ensures) (no_rows c.args.schema.now)

pub load_all-requires-clause-may : goal.load_all-requires-clause-may
load_all-requires-clause-may c =
    let S = c.args.schema.now in
    let kept = subst (λ (l : List Put). (m : MayLoad S l) → IsKept S (over empty m.steps) c.in-Ok.homes) c.new.ensures c.in-Ok.ensures (no_rows S) in
    subst (λ (l : List Put). AreSoFar S c.args.next l l 0 c.in-Ok.homes) (sym c.into_vec.ensures) (none_so_far S c.args.next c.args.rows c.in-Ok.homes c.requires.some c.requires.apart c.requires.small kept)

pub returns-in-Ok-load_all-clause-loaded : goal.returns-in-Ok-load_all-clause-loaded
returns-in-Ok-load_all-clause-loaded c =
    let S = c.args.schema.now in
    let all = subst (λ (l : List Put). AreAll S c.args.next l c.load_all.new.homes) c.into_vec.ensures c.in-Ok-load_all.ensures.loaded in
    if_ok c.within.result (λ same p. record { catalog = all.catalog; loaded = all.loaded; bounded = (p S all.catalog all.kept).1; kept = (p S all.catalog all.kept).0 }) c.within.ensures.within

pub returns-in-Ok-load_all-clause-total : goal.returns-in-Ok-load_all-clause-total
returns-in-Ok-load_all-clause-total c = λ e.
    let S = c.args.schema.now in
    let all = subst (λ (l : List Put). AreAll S c.args.next l c.load_all.new.homes) c.into_vec.ensures c.in-Ok-load_all.ensures.loaded in
    record { catalog = all.catalog; loaded = all.loaded; over = c.within.ensures.over e S all.catalog all.kept }
