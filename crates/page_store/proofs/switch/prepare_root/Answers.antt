use Rattle.std.proofs.Common.{ap}
use Rattle.page_store.specs.Stores.{AllHave, HasStore, IsJournal}
use Rattle.page_store.specs.Switch.{HasOld, MayFollow}
use Rattle.page_format.specs.declared.root.Root.{Root}
use Rattle.page_format.proofs.Buffers.{some_weaker}
use Rattle.page_store.proofs.Entering.{old_while, quiet_on, then_laid, then_prepared}
use Rattle.pss_disk.specs.Images.{IsQuiet}
use Rattle.pss_disk.proofs.Passing.{then_come}
use Rattle.page_store.proofs.Elsewhere.{then_becomes_laid}
use Rattle.page_store.proofs.switch.prepare_root.Goals as goal

pub returns-in_err-close_other-clause-stores : goal.returns-in_err-close_other-clause-stores
returns-in_err-close_other-clause-stores g c = λ old next is follow.
    let content = g.W.Station.content c.args.w.now in
    old_while old (g.W.Station.history c.args.w.now) (g.W.Station.history c.close_other.new.w)
    (c.close_other.ensures.stores old.root old.objects is.area_ (some_weaker content (MayFollow old next) (HasStore old.root old.objects) (λ x f. f.store) follow))
    (c.close_other.ensures.journal old.position old.bodies (some_weaker content (MayFollow old next) (IsJournal old.position old.bodies) (λ x f. f.journal) follow))

pub returns-in_err-write_new-clause-stores : goal.returns-in_err-write_new-clause-stores
returns-in_err-write_new-clause-stores g c = λ old next is follow.
    let content = g.W.Station.content c.args.w.now in
    let closing = old_while old (g.W.Station.history c.args.w.now) (g.W.Station.history c.close_other.new.w)
    (c.close_other.ensures.stores old.root old.objects is.area_ (some_weaker content (MayFollow old next) (HasStore old.root old.objects) (λ x f. f.store) follow))
    (c.close_other.ensures.journal old.position old.bodies (some_weaker content (MayFollow old next) (IsJournal old.position old.bodies) (λ x f. f.journal) follow)) in
    let may = then_laid old next c.args.new.now.area content (g.W.Station.content c.close_other.new.w) (ap (λ (r : Root). r.area) is.root_) c.in_ok-close_other.ensures.content c.in_ok-close_other.ensures.closed follow in
    then_come (g.W.Station.history c.args.w.now) (g.W.Station.history c.close_other.new.w) (g.W.Station.history c.write_new.new.w) (AllHave (HasOld old)) closing (c.write_new.ensures.stores old next is may)

pub returns-clause-stores : goal.returns-clause-stores
returns-clause-stores g c = λ old next is follow.
    let content = g.W.Station.content c.args.w.now in
    let closing = old_while old (g.W.Station.history c.args.w.now) (g.W.Station.history c.close_other.new.w)
    (c.close_other.ensures.stores old.root old.objects is.area_ (some_weaker content (MayFollow old next) (HasStore old.root old.objects) (λ x f. f.store) follow))
    (c.close_other.ensures.journal old.position old.bodies (some_weaker content (MayFollow old next) (IsJournal old.position old.bodies) (λ x f. f.journal) follow)) in
    let may = then_laid old next c.args.new.now.area content (g.W.Station.content c.close_other.new.w) (ap (λ (r : Root). r.area) is.root_) c.in_ok-close_other.ensures.content c.in_ok-close_other.ensures.closed follow in
    then_come (g.W.Station.history c.args.w.now) (g.W.Station.history c.close_other.new.w) (g.W.Station.history c.write_new.new.w) (AllHave (HasOld old)) closing (c.write_new.ensures.stores old next is may)

pub returns-clause-ready : goal.returns-clause-ready
returns-clause-ready g c = λ old next is.
    then_prepared old next c.args.new.now.area (g.W.Station.content c.args.w.now) (g.W.Station.content c.close_other.new.w) (g.W.Station.content c.write_new.new.w) (ap (λ (r : Root). r.area) is.root_) c.in_ok-close_other.ensures.content c.in_ok-close_other.ensures.closed
    (c.in_ok-write_new.ensures.ready old next is)

pub returns-in_err-write_new-clause-quiet : goal.returns-in_err-write_new-clause-quiet
returns-in_err-write_new-clause-quiet g c =
    then_come (g.W.Station.history c.args.w.now) (g.W.Station.history c.close_other.new.w) (g.W.Station.history c.write_new.new.w) (IsQuiet (g.W.Station.now c.args.w.now)) c.close_other.ensures.quiet
    (quiet_on (g.W.Station.now c.args.w.now) (g.W.Station.now c.close_other.new.w) (g.W.Station.history c.close_other.new.w) (g.W.Station.history c.write_new.new.w) c.close_other.ensures.said c.write_new.ensures.quiet)

pub returns-clause-quiet : goal.returns-clause-quiet
returns-clause-quiet g c =
    then_come (g.W.Station.history c.args.w.now) (g.W.Station.history c.close_other.new.w) (g.W.Station.history c.write_new.new.w) (IsQuiet (g.W.Station.now c.args.w.now)) c.close_other.ensures.quiet
    (quiet_on (g.W.Station.now c.args.w.now) (g.W.Station.now c.close_other.new.w) (g.W.Station.history c.close_other.new.w) (g.W.Station.history c.write_new.new.w) c.close_other.ensures.said c.write_new.ensures.quiet)

pub returns-clause-laid : goal.returns-clause-laid
returns-clause-laid g c =
    then_becomes_laid c.args.new.now c.args.pages.now (g.W.Station.content c.args.w.now) (g.W.Station.content c.close_other.new.w) (g.W.Station.content c.write_new.new.w) c.in_ok-close_other.ensures.content c.in_ok-write_new.ensures.content
