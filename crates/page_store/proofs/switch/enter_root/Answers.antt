use Rattle.std.proofs.Common.{[], subst}
use Rattle.page_format.specs.Places.{area_start}
use Rattle.page_store.specs.Stores.{AllHave, IsEmptied, IsJournal, IsPrepared}
use Rattle.page_store.specs.Switch.{IsEither}
use Rattle.page_store.specs.inner.Switching.{IsEntered, IsReady}
use Rattle.page_format.proofs.Buffers.{some_weaker}
use Rattle.page_store.proofs.Entering.{either_while, entered_while, quiet_on, then_closed, then_entered}
use Rattle.pss_disk.specs.Images.{IsQuiet}
use Rattle.pss_disk.proofs.Passing.{then_come}
use Rattle.redo_journal.specs.Journal.{journal_start}
use Rattle.page_store.proofs.Elsewhere.{then_stays}
use Rattle.page_store.proofs.switch.enter_root.Goals as goal

pub returns-in_err-open_other-clause-stores : goal.returns-in_err-open_other-clause-stores
returns-in_err-open_other-clause-stores g c = λ old next before sum here ready.
    let content = g.W.Station.content c.args.w.now in
    either_while old next (g.W.Station.history c.args.w.now) (g.W.Station.history c.open_other.new.w)
    (c.open_other.ensures.stores old.root next.root old.objects next.objects sum (some_weaker content (IsReady old next before) (IsPrepared old.root old.objects next.root next.objects (area_start c.args.area)) (λ x r. subst (λ n. IsPrepared old.root old.objects next.root next.objects (area_start n) x) here r.prepared) ready))
    (c.open_other.ensures.journal old.position old.bodies (some_weaker content (IsReady old next before) (IsJournal old.position old.bodies) (λ x r. r.journal) ready))
    (c.open_other.ensures.journal (record { end = journal_start; epoch = next.root.epoch }) [] (some_weaker content (IsReady old next before) (IsJournal (record { end = journal_start; epoch = next.root.epoch }) []) (λ x r. r.none) ready))

pub returns-in_err-close_journal-clause-stores : goal.returns-in_err-close_journal-clause-stores
returns-in_err-close_journal-clause-stores g c = λ old next before sum here ready.
    let content = g.W.Station.content c.args.w.now in
    let opening = either_while old next (g.W.Station.history c.args.w.now) (g.W.Station.history c.open_other.new.w)
    (c.open_other.ensures.stores old.root next.root old.objects next.objects sum (some_weaker content (IsReady old next before) (IsPrepared old.root old.objects next.root next.objects (area_start c.args.area)) (λ x r. subst (λ n. IsPrepared old.root old.objects next.root next.objects (area_start n) x) here r.prepared) ready))
    (c.open_other.ensures.journal old.position old.bodies (some_weaker content (IsReady old next before) (IsJournal old.position old.bodies) (λ x r. r.journal) ready))
    (c.open_other.ensures.journal (record { end = journal_start; epoch = next.root.epoch }) [] (some_weaker content (IsReady old next before) (IsJournal (record { end = journal_start; epoch = next.root.epoch }) []) (λ x r. r.none) ready)) in
    let opened = then_entered old next c.args.area before content (g.W.Station.content c.open_other.new.w) here c.in_ok-open_other.ensures.content ready in
    then_come (g.W.Station.history c.args.w.now) (g.W.Station.history c.open_other.new.w) (g.W.Station.history c.close_journal.new.w) (AllHave (IsEither old next)) opening
    (entered_while old next (g.W.Station.history c.open_other.new.w) (g.W.Station.history c.close_journal.new.w)
    (c.close_journal.ensures.stores next.root next.objects (some_weaker (g.W.Station.content c.open_other.new.w) (IsEntered next before) (IsEmptied next.root next.objects) (λ x e. e.emptied) opened)))

pub returns-clause-stores : goal.returns-clause-stores
returns-clause-stores g c = λ old next before sum here ready.
    let content = g.W.Station.content c.args.w.now in
    let opening = either_while old next (g.W.Station.history c.args.w.now) (g.W.Station.history c.open_other.new.w)
    (c.open_other.ensures.stores old.root next.root old.objects next.objects sum (some_weaker content (IsReady old next before) (IsPrepared old.root old.objects next.root next.objects (area_start c.args.area)) (λ x r. subst (λ n. IsPrepared old.root old.objects next.root next.objects (area_start n) x) here r.prepared) ready))
    (c.open_other.ensures.journal old.position old.bodies (some_weaker content (IsReady old next before) (IsJournal old.position old.bodies) (λ x r. r.journal) ready))
    (c.open_other.ensures.journal (record { end = journal_start; epoch = next.root.epoch }) [] (some_weaker content (IsReady old next before) (IsJournal (record { end = journal_start; epoch = next.root.epoch }) []) (λ x r. r.none) ready)) in
    let opened = then_entered old next c.args.area before content (g.W.Station.content c.open_other.new.w) here c.in_ok-open_other.ensures.content ready in
    then_come (g.W.Station.history c.args.w.now) (g.W.Station.history c.open_other.new.w) (g.W.Station.history c.close_journal.new.w) (AllHave (IsEither old next)) opening
    (entered_while old next (g.W.Station.history c.open_other.new.w) (g.W.Station.history c.close_journal.new.w)
    (c.close_journal.ensures.stores next.root next.objects (some_weaker (g.W.Station.content c.open_other.new.w) (IsEntered next before) (IsEmptied next.root next.objects) (λ x e. e.emptied) opened)))

pub returns-clause-entered : goal.returns-clause-entered
returns-clause-entered g c = λ old next before sum here ready.
    let opened = then_entered old next c.args.area before (g.W.Station.content c.args.w.now) (g.W.Station.content c.open_other.new.w) here c.in_ok-open_other.ensures.content ready in
    then_closed next before (g.W.Station.content c.open_other.new.w) (g.W.Station.content c.close_journal.new.w) c.in_ok-close_journal.ensures.content c.in_ok-close_journal.ensures.closed opened

pub returns-in_err-close_journal-clause-quiet : goal.returns-in_err-close_journal-clause-quiet
returns-in_err-close_journal-clause-quiet g c =
    then_come (g.W.Station.history c.args.w.now) (g.W.Station.history c.open_other.new.w) (g.W.Station.history c.close_journal.new.w) (IsQuiet (g.W.Station.now c.args.w.now)) c.open_other.ensures.quiet
    (quiet_on (g.W.Station.now c.args.w.now) (g.W.Station.now c.open_other.new.w) (g.W.Station.history c.open_other.new.w) (g.W.Station.history c.close_journal.new.w) c.open_other.ensures.said c.close_journal.ensures.quiet)

pub returns-clause-quiet : goal.returns-clause-quiet
returns-clause-quiet g c =
    then_come (g.W.Station.history c.args.w.now) (g.W.Station.history c.open_other.new.w) (g.W.Station.history c.close_journal.new.w) (IsQuiet (g.W.Station.now c.args.w.now)) c.open_other.ensures.quiet
    (quiet_on (g.W.Station.now c.args.w.now) (g.W.Station.now c.open_other.new.w) (g.W.Station.history c.open_other.new.w) (g.W.Station.history c.close_journal.new.w) c.open_other.ensures.said c.close_journal.ensures.quiet)

pub returns-clause-kept : goal.returns-clause-kept
returns-clause-kept g c =
    then_stays (area_start c.args.area) (g.W.Station.content c.args.w.now) (g.W.Station.content c.open_other.new.w) (g.W.Station.content c.close_journal.new.w) c.in_ok-open_other.ensures.content c.in_ok-close_journal.ensures.content
