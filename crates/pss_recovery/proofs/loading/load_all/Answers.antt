use Rattle.std.proofs.Common.{ℕ, ◌≡◌, List, Err, inl, inr, ⊎_elim, sym, ap, subst, ◌∙◌}
use Rattle.std.specs.Vec.Iter.{into_iter_items}
use Rattle.pss_base.specs.declared.put.Put.{Put}
use Rattle.storage_home.proofs.Places.{no_items}
use Rattle.pss_recovery.specs.declared.loading.LoadStop.TheVariants.{Wrong as WrongRow}
use Rattle.pss_recovery.specs.inner.Rowwise.{AreSoFar, IsWrongAt, at_row}
use Rattle.pss_recovery.proofs.Onward.{all_loaded, may_come, one_on, stop_of, wrong_here}
use Rattle.pss_recovery.proofs.loading.load_all.Goals as goal

pub load_row-requires-clause-may : goal.load_row-requires-clause-may
load_row-requires-clause-may c =
    let S = c.args.schema.now in
    let so_far = subst (λ (l : List Put). AreSoFar S c.args.next c.args.rows.items l c.loop-row.index c.loop-row.homes) c.in-Some.ensures.steps.0 c.loop-row.invariant.2 in
    (so_far.catalog, may_come S c.args.next c.args.rows.items c.in-Some.row (into_iter_items c.next.new.self) c.loop-row.index c.loop-row.homes so_far)

pub loop-row-preserved : goal.loop-row-preserved
loop-row-preserved c =
    let S = c.args.schema.now in
    let rest = into_iter_items c.next.new.self in
    let so_far = subst (λ (l : List Put). AreSoFar S c.args.next c.args.rows.items l c.loop-row.index c.loop-row.homes) c.in-Some.ensures.steps.0 c.loop-row.invariant.2 in
    let may = may_come S c.args.next c.args.rows.items c.in-Some.row rest c.loop-row.index c.loop-row.homes so_far in
    (tt, tt, one_on S c.args.next c.args.rows.items c.in-Some.row rest c.loop-row.index c.loop-row.homes so_far c.load_row.new.homes (c.in-Ok.ensures.loaded so_far.catalog may))

pub returns-in-Err-clause-refused : goal.returns-in-Err-clause-refused
returns-in-Err-clause-refused c = λ at k e.
    let S = c.args.schema.now in
    let rest = into_iter_items c.next.new.self in
    let so_far = subst (λ (l : List Put). AreSoFar S c.args.next c.args.rows.items l c.loop-row.index c.loop-row.homes) c.in-Some.ensures.steps.0 c.loop-row.invariant.2 in
    let same : at_row c.loop-row.index c.in-Err.stop ≡ WrongRow at k = sym c.at_row.ensures ∙ (cc) in
    let stop = stop_of c.loop-row.index at k c.in-Err.stop same in
    let wrong = ⊎_elim inl (λ h. inr (h so_far.catalog so_far.kept)) (c.in-Err.ensures.refused k (ap Err stop.1)) in
    subst (λ (n : ℕ). IsWrongAt S c.args.next c.args.rows.items n k) (sym stop.0) (wrong_here S c.args.next c.args.rows.items c.in-Some.row rest c.loop-row.index c.loop-row.homes so_far k wrong)

pub returns-clause-loaded : goal.returns-clause-loaded
returns-clause-loaded c =
    all_loaded c.args.schema.now c.args.next c.args.rows.items (into_iter_items c.loop-row.row-iterator) c.loop-row.index c.loop-row.homes (no_items _ (sym c.loop-row.row-iterator.rest.ok.0 ∙ c.in-None.ensures.steps.0)) c.loop-row.invariant.2
