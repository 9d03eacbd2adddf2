use Rattle.std.proofs.Common.{◌≡◌, true, refl, sym, ap, ◌∙◌}
use Rattle.std.specs.Prelude.{not, is_some}
use Rattle.pss_machine.specs.Deciding.{is_over_full}
use Rattle.pss_recovery.proofs.Silent.{silent_start}
use Rattle.commit_calls.specs.Ready.{MayMakeReady, IsReady}
use Rattle.commit_calls.proofs.Commitments.{becomes_as, becomes_same, full_nothing, may_save_as, next_as, no_cause, nothing_came, passes_as, unchanged_as}
use Rattle.commit_calls.proofs.Readiness.{ready_of}
use Rattle.commit_calls.proofs.storing.store_changes.Goals as goal

pub store_ready-requires-clause-may : goal.store_ready-requires-clause-may
store_ready-requires-clause-may g c =
    let m = c.requires.ready in
    let d = c.make_ready.new.parts in
    may_save_as c.args.parts.now d c.args.owner m c.in-Some.ready (ready_of c.args.parts.now d c.args.owner c.in_ok-ready.field-0 c.in-Some.ready c.in-Some.is c.in_ok-ready.ensures.ready m) c.in_ok-ready.ensures.rest
    c.next-next.result (c.next-next.ensures c.args.parts.now.schema m.kept m.at.stands.accounts) c.args.store.now c.requires.behind

pub returns-in-Ok : goal.returns-in-Ok
returns-in-Ok g c =
    let old = c.args.parts.now in
    let new = c.make_ready.new.parts in
    let n = c.args.owner in
    let stay = c.in_ok-ready.ensures.rest in
    let store = c.args.store.now in
    let before = c.args.station.now in
    let after = c.store_ready.new.station in
    let is : (m : MayMakeReady old n) → IsReady new m.kept n c.in-Some.ready = ready_of old new n c.in_ok-ready.field-0 c.in-Some.ready c.in-Some.is c.in_ok-ready.ensures.ready in
    let next_is : (m : MayMakeReady old n) → c.next-next.result ≡ m.kept.next = λ m. c.next-next.ensures old.schema m.kept m.at.stands.accounts in
    let room : (m : MayMakeReady old n) → true ≡ not (is_over_full old.schema old.limits m.kept.catalog m.owner) = λ m. ap is_some (sym c.in-Some.is) ∙ c.in_ok-ready.ensures.full m in
    record {
      full = room;
      ready = is;
      stands = c.in_ok-ready.ensures.stands;
      rest = stay;
      saved = λ m e net_is. becomes_as old new n m c.in-Some.ready (is m) stay c.next-next.result (next_is m) store c.requires.behind (room m) e net_is c.store_ready.new.store (g.W.Station.content before) (g.W.Station.content after) c.in-Ok.ensures.saved;
      images = λ m e net_is. passes_as old new n m c.in-Some.ready (is m) stay c.next-next.result (next_is m) store c.requires.behind (room m) e net_is (g.W.Station.content before) (g.W.Station.history before) (g.W.Station.history after) c.store_ready.ensures.images;
      memory = tt;
      next = λ m e net_is. next_as old new n m c.in-Some.ready (is m) stay c.next-next.result (next_is m) store c.requires.behind (room m) e net_is c.store_ready.new.store.next c.in-Ok.ensures.next;
      still = λ m e net_is nothing. c.store_ready.ensures.still (unchanged_as old new n m c.in-Some.ready (is m) stay c.next-next.result (next_is m) store c.requires.behind (room m) e net_is nothing);
      settled = c.in-Ok.ensures.settled;
      silent = c.store_ready.ensures.silent;
      cause = c.in-Ok.ensures.cause;
    }

pub returns-in-Err : goal.returns-in-Err
returns-in-Err g c =
    let old = c.args.parts.now in
    let new = c.make_ready.new.parts in
    let n = c.args.owner in
    record {
      full = tt;
      ready = tt;
      stands = tt;
      rest = c.in_ok-ready.ensures.rest;
      saved = tt;
      images = λ m e net_is.
          passes_as old new n m c.in-Some.ready (ready_of old new n c.in_ok-ready.field-0 c.in-Some.ready c.in-Some.is c.in_ok-ready.ensures.ready m) c.in_ok-ready.ensures.rest
          c.next-next.result (c.next-next.ensures old.schema m.kept m.at.stands.accounts) c.args.store.now c.requires.behind (ap is_some (sym c.in-Some.is) ∙ c.in_ok-ready.ensures.full m) e net_is
          (g.W.Station.content c.args.station.now) (g.W.Station.history c.args.station.now) (g.W.Station.history c.store_ready.new.station) c.store_ready.ensures.images;
      memory = λ is m. c.in-Err.ensures.memory is old.schema m.kept;
      next = tt;
      still = λ m e net_is nothing.
          c.store_ready.ensures.still
          (unchanged_as old new n m c.in-Some.ready (ready_of old new n c.in_ok-ready.field-0 c.in-Some.ready c.in-Some.is c.in_ok-ready.ensures.ready m) c.in_ok-ready.ensures.rest
          c.next-next.result (c.next-next.ensures old.schema m.kept m.at.stands.accounts) c.args.store.now c.requires.behind (ap is_some (sym c.in-Some.is) ∙ c.in_ok-ready.ensures.full m) e net_is nothing);
      settled = tt;
      silent = c.store_ready.ensures.silent;
      cause = c.in-Err.ensures.cause;
    }

pub returns-in-None : goal.returns-in-None
returns-in-None g c =
    let old = c.args.parts.now in
    let n = c.args.owner in
    let store = c.args.store.now in
    let station = c.args.station.now in
    record {
      full = λ m. ap is_some (sym c.in-None.is) ∙ c.in_ok-ready.ensures.full m;
      ready = tt;
      stands = c.in_ok-ready.ensures.stands;
      rest = c.in_ok-ready.ensures.rest;
      saved = λ m e net_is. becomes_same old.schema m.kept _ (full_nothing old.schema old.limits m.kept n m.owner e m.there (ap is_some (sym c.in-None.is) ∙ c.in_ok-ready.ensures.full m)) store (g.W.Station.content station);
      images = λ m e net_is saved. nothing_came (g.W.Station.content station) _ _ (g.W.Station.history station);
      memory = tt;
      next = λ m e net_is. sym ((full_nothing old.schema old.limits m.kept n m.owner e m.there (ap is_some (sym c.in-None.is) ∙ c.in_ok-ready.ensures.full m)).saved store.next);
      still = λ m e net_is nothing. refl;
      settled = c.requires.settled;
      silent = silent_start g.W.Station.now g.W.Station.history g.W.Station.speak_faults station;
      cause = no_cause (g.W.Station.disk_faults station);
    }

pub returns-in_err-ready-clause-images : goal.returns-in_err-ready-clause-images
returns-in_err-ready-clause-images g c m e net_is saved = nothing_came (g.W.Station.content c.args.station.now) _ _ (g.W.Station.history c.args.station.now)

pub returns-in_err-ready-clause-silent : goal.returns-in_err-ready-clause-silent
returns-in_err-ready-clause-silent g c = silent_start g.W.Station.now g.W.Station.history g.W.Station.speak_faults c.args.station.now
