use Rattle.std.proofs.Common.{subst}
use Rattle.page_store.specs.Kept.{rows_in}
use Rattle.page_format.proofs.Buffers.{some_all, some_weaker}
use Rattle.pss_recovery.specs.declared.loading.LoadStop.{LoadStop}
use Rattle.pss_recovery.specs.inner.Mounting.{IsLoadStop}
use Rattle.pss_recovery.proofs.Paged.{total_refused}
use Rattle.pss_recovery.proofs.paging.of_rows.Goals as goal

pub returns-in-Wrong-clause-refused : goal.returns-in-Wrong-clause-refused
returns-in-Wrong-clause-refused g c = λ S.
    some_weaker (g.W.Station.content c.args.w.now) _ _ (λ image f paged told. f paged (subst (λ (s : LoadStop). IsLoadStop S c.args.root.now.next (rows_in image c.args.root.now.slots) s) c.in-Wrong.is told)) (c.wrong_row.ensures.refused S)

pub returns-in-Total-clause-refused : goal.returns-in-Total-clause-refused
returns-in-Total-clause-refused g c = λ S.
    some_all (g.W.Station.content c.args.w.now) _
    (λ image paged told. total_refused S c.args.root.now image paged (subst (λ (s : LoadStop). IsLoadStop S c.args.root.now.next (rows_in image c.args.root.now.slots) s) c.in-Total.is told))

pub returns-in-NoMemory-clause-refused : goal.returns-in-NoMemory-clause-refused
returns-in-NoMemory-clause-refused g c = λ S. some_all (g.W.Station.content c.args.w.now) _ (λ image paged told. tt)
