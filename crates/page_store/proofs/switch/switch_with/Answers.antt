use Rattle.std.proofs.Common.{ap, ◌∙◌}
use Rattle.page_store.specs.Stores.{AllHave}
use Rattle.page_store.specs.Switch.{IsEither}
use Rattle.page_format.specs.declared.root.Root.{Root}
use Rattle.page_store.proofs.Entering.{entered_from, old_is_either, quiet_on, ready_now}
use Rattle.pss_disk.specs.Images.{IsQuiet}
use Rattle.pss_disk.proofs.Passing.{then_come}
use Rattle.page_store.proofs.Elsewhere.{then_written, told_on}
use Rattle.page_store.proofs.switch.switch_with.Goals as goal

pub returns-in_err-prepare_root-clause-stores : goal.returns-in_err-prepare_root-clause-stores
returns-in_err-prepare_root-clause-stores g c = λ old next is follow.
    old_is_either old next (g.W.Station.history c.args.w.now) (g.W.Station.history c.prepare_root.new.w) (c.prepare_root.ensures.stores old next is follow)

pub returns-in_err-enter_root-clause-stores : goal.returns-in_err-enter_root-clause-stores
returns-in_err-enter_root-clause-stores g c = λ old next is follow.
    let ready = ready_now old next (g.W.Station.content c.args.w.now) (g.W.Station.content c.prepare_root.new.w) (c.in_ok-prepare_root.ensures.ready old next is) follow in
    then_come (g.W.Station.history c.args.w.now) (g.W.Station.history c.prepare_root.new.w) (g.W.Station.history c.enter_root.new.w) (AllHave (IsEither old next))
    (old_is_either old next (g.W.Station.history c.args.w.now) (g.W.Station.history c.prepare_root.new.w) (c.prepare_root.ensures.stores old next is follow))
    (c.enter_root.ensures.stores old next ready.0 is.area_ (ap (λ (r : Root). r.area) is.root_) ready.1)

pub returns-clause-stores : goal.returns-clause-stores
returns-clause-stores g c = λ old next is follow.
    let ready = ready_now old next (g.W.Station.content c.args.w.now) (g.W.Station.content c.prepare_root.new.w) (c.in_ok-prepare_root.ensures.ready old next is) follow in
    then_come (g.W.Station.history c.args.w.now) (g.W.Station.history c.prepare_root.new.w) (g.W.Station.history c.enter_root.new.w) (AllHave (IsEither old next))
    (old_is_either old next (g.W.Station.history c.args.w.now) (g.W.Station.history c.prepare_root.new.w) (c.prepare_root.ensures.stores old next is follow))
    (c.enter_root.ensures.stores old next ready.0 is.area_ (ap (λ (r : Root). r.area) is.root_) ready.1)

pub returns-clause-entered : goal.returns-clause-entered
returns-clause-entered g c = λ old next is.
    entered_from old next (g.W.Station.content c.args.w.now) (g.W.Station.content c.prepare_root.new.w) (g.W.Station.content c.enter_root.new.w) (c.in_ok-prepare_root.ensures.ready old next is)
    (λ before ready. c.in_ok-enter_root.ensures.entered old next before is.area_ (ap (λ (r : Root). r.area) is.root_) ready)

pub returns-in_err-enter_root-clause-quiet : goal.returns-in_err-enter_root-clause-quiet
returns-in_err-enter_root-clause-quiet g c =
    then_come (g.W.Station.history c.args.w.now) (g.W.Station.history c.prepare_root.new.w) (g.W.Station.history c.enter_root.new.w) (IsQuiet (g.W.Station.now c.args.w.now)) c.prepare_root.ensures.quiet
    (quiet_on (g.W.Station.now c.args.w.now) (g.W.Station.now c.prepare_root.new.w) (g.W.Station.history c.prepare_root.new.w) (g.W.Station.history c.enter_root.new.w) c.prepare_root.ensures.said c.enter_root.ensures.quiet)

pub returns-clause-quiet : goal.returns-clause-quiet
returns-clause-quiet g c =
    then_come (g.W.Station.history c.args.w.now) (g.W.Station.history c.prepare_root.new.w) (g.W.Station.history c.enter_root.new.w) (IsQuiet (g.W.Station.now c.args.w.now)) c.prepare_root.ensures.quiet
    (quiet_on (g.W.Station.now c.args.w.now) (g.W.Station.now c.prepare_root.new.w) (g.W.Station.history c.prepare_root.new.w) (g.W.Station.history c.enter_root.new.w) c.prepare_root.ensures.said c.enter_root.ensures.quiet)

pub returns-clause-written : goal.returns-clause-written
returns-clause-written g c =
    then_written c.args.new.now c.args.pages.now (g.W.Station.content c.args.w.now) (g.W.Station.content c.prepare_root.new.w) (g.W.Station.content c.enter_root.new.w) c.in_ok-prepare_root.ensures.laid c.in_ok-enter_root.ensures.kept

pub returns-clause-told : goal.returns-clause-told
returns-clause-told g c =
    told_on _ _ (g.W.Station.content c.prepare_root.new.w) (g.W.Station.content c.enter_root.new.w) c.in_ok-enter_root.ensures.kept
    ∙ told_on _ _ (g.W.Station.content c.args.w.now) (g.W.Station.content c.prepare_root.new.w) c.in_ok-prepare_root.ensures.laid
