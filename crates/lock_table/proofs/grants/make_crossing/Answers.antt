use Rattle.std.proofs.Common.{[], ◌∷◌, refl, ap}
use Rattle.lock_table.proofs.Added.{ready_same, ready_alike}
use Rattle.lock_table.proofs.Keyed.{contains_first}
use Rattle.lock_table.proofs.Telling.{whole_ready}
use Rattle.lock_table.proofs.Turning.{looked_same}
use Rattle.lock_table.proofs.grants.make_crossing.Goals as goal

pub returns-in_err-col-clause-ready : goal.returns-in_err-col-clause-ready
returns-in_err-col-clause-ready c = c.make_column.ensures.ready (c.args.lock.now ∷ []) (contains_first _ []) (whole_ready c.args.links.now c.requires.whole (c.args.lock.now ∷ []))

pub make_place-requires : goal.make_place-requires
make_place-requires c = looked_same c.args.links.now c.make_column.new.links c.make_column.ensures.places c.args.lock.now.resource c.args.found c.requires.found

pub returns-in_err-found-clause-ready : goal.returns-in_err-found-clause-ready
returns-in_err-found-clause-ready c = c.make_place.ensures.ready (c.args.lock.now ∷ []) (contains_first _ []) (c.make_column.ensures.ready (c.args.lock.now ∷ []) (contains_first _ []) (whole_ready c.args.links.now c.requires.whole (c.args.lock.now ∷ [])))

pub returns-in_err-reserve-clause-ready : goal.returns-in_err-reserve-clause-ready
returns-in_err-reserve-clause-ready c =
    ready_same c.make_place.new.links _ c.in_err-reserve.ensures.err refl refl refl (c.args.lock.now ∷ [])
    (c.make_place.ensures.ready (c.args.lock.now ∷ []) (contains_first _ []) (c.make_column.ensures.ready (c.args.lock.now ∷ []) (contains_first _ []) (whole_ready c.args.links.now c.requires.whole (c.args.lock.now ∷ []))))

pub returns-clause-ready : goal.returns-clause-ready
returns-clause-ready c =
    ready_alike c.make_place.new.links _ (ap (λ p. p.nodes) c.in_ok-reserve.ensures.ok) (ap (λ p. p.rows) c.in_ok-reserve.ensures.ok) (ap (λ p. p.cols) c.in_ok-reserve.ensures.ok) refl refl refl c.in_ok-reserve.ensures.rings (c.args.lock.now ∷ [])
    (c.make_place.ensures.ready (c.args.lock.now ∷ []) (contains_first _ []) (c.make_column.ensures.ready (c.args.lock.now ∷ []) (contains_first _ []) (whole_ready c.args.links.now c.requires.whole (c.args.lock.now ∷ []))))
