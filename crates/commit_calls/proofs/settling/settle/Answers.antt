use Rattle.std.proofs.Common.{sym, ap, ◌∙◌}
use Rattle.std.specs.Prelude.{is_some}
use Rattle.connector_parts.proofs.Bounds.{commits_left}
use Rattle.commit_calls.specs.Ways.{effect_of}
use Rattle.commit_calls.proofs.Commitments.{way_net}
use Rattle.commit_calls.proofs.Outcomes.{done_follows, full_follows}
use Rattle.commit_calls.proofs.Readiness.{stay_on, ready_of}
use Rattle.commit_calls.proofs.settling.settle.Goals as goal

pub apply-requires : goal.apply-requires
apply-requires g c = (let m = c.requires.ready in record {
  kept = m.kept;
  stands = c.in_ok-ready.ensures.stands m.kept m.at;
  is = ready_of c.args.parts.now c.store_changes.new.parts c.args.owner c.in_ok-ready.field-0 c.in-Some.ready c.in-Some.is c.in_ok-ready.ensures.ready m;
  commits = commits_left c.args.parts.now m.kept m.at;
})

pub returns-in-Some : goal.returns-in-Some
returns-in-Some g c =
    let old = c.args.parts.now in
    let n = c.args.owner in
    let w = c.args.way in
    record {
      follows = λ m may.
          done_follows old c.apply.new.parts m.kept n m.owner m.there (effect_of w n) (stay_on old c.store_changes.new.parts c.apply.new.parts c.in_ok-ready.ensures.rest c.apply.ensures.rest)
          (ap is_some (sym c.in-Some.is) ∙ c.in_ok-ready.ensures.full m)
          (c.apply.ensures.settled m.kept (c.in_ok-ready.ensures.stands m.kept m.at) (ready_of old c.store_changes.new.parts n c.in_ok-ready.field-0 c.in-Some.ready c.in-Some.is c.in_ok-ready.ensures.ready m) may);
      saved = λ m. c.in_ok-ready.ensures.saved m (effect_of w n) (way_net w m.kept n m.owner m.there);
      images = λ m. c.store_changes.ensures.images m (effect_of w n) (way_net w m.kept n m.owner m.there);
      memory = tt;
      next = λ m. c.in_ok-ready.ensures.next m (effect_of w n) (way_net w m.kept n m.owner m.there);
      still = λ m. c.store_changes.ensures.still m (effect_of w n) (way_net w m.kept n m.owner m.there);
      settled = c.in_ok-ready.ensures.settled;
      silent = c.store_changes.ensures.silent;
      cause = c.in_ok-ready.ensures.cause;
    }

pub returns-in-None : goal.returns-in-None
returns-in-None g c =
    let old = c.args.parts.now in
    let n = c.args.owner in
    let w = c.args.way in
    record {
      follows = λ m may.
          full_follows old c.store_changes.new.parts m.kept n m.owner m.there (effect_of w n) c.in_ok-ready.ensures.rest (ap is_some (sym c.in-None.is) ∙ c.in_ok-ready.ensures.full m) (c.in_ok-ready.ensures.stands m.kept m.at);
      saved = λ m. c.in_ok-ready.ensures.saved m (effect_of w n) (way_net w m.kept n m.owner m.there);
      images = λ m. c.store_changes.ensures.images m (effect_of w n) (way_net w m.kept n m.owner m.there);
      memory = tt;
      next = λ m. c.in_ok-ready.ensures.next m (effect_of w n) (way_net w m.kept n m.owner m.there);
      still = λ m. c.store_changes.ensures.still m (effect_of w n) (way_net w m.kept n m.owner m.there);
      settled = c.in_ok-ready.ensures.settled;
      silent = c.store_changes.ensures.silent;
      cause = c.in_ok-ready.ensures.cause;
    }

pub returns-in_err-ready-clause-images : goal.returns-in_err-ready-clause-images
returns-in_err-ready-clause-images g c m = c.store_changes.ensures.images m (effect_of c.args.way c.args.owner) (way_net c.args.way m.kept c.args.owner m.owner m.there)

pub returns-in_err-ready-clause-still : goal.returns-in_err-ready-clause-still
returns-in_err-ready-clause-still g c m = c.store_changes.ensures.still m (effect_of c.args.way c.args.owner) (way_net c.args.way m.kept c.args.owner m.owner m.there)

pub returns-in_err-ready-clause-silent : goal.returns-in_err-ready-clause-silent
returns-in_err-ready-clause-silent g c = c.store_changes.ensures.silent
