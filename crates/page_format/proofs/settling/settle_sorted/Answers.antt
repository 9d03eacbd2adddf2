use Rattle.std.proofs.Common.{ℕ, ◌≡◌, ◌∙◌, ◌++◌, ◌∷◌, [], List, All, IfOk, ap, append-nil, append_assoc, sym, subst}
use Rattle.std.specs.FinMap.{empty, entries}
use Rattle.std.specs.Vec.Iter.{into_iter_items}
use Rattle.pss_base.specs.declared.put.Put.{Put}
use Rattle.page_format.specs.Objects.{IsRightPut, entries_left, entries_of, over}
use Rattle.page_format.specs.inner.Settling.{Climbs}
use Rattle.page_format.proofs.Settled.{nothing_left, right_rest}
use Rattle.page_format.proofs.settling.settle_sorted.Goals as goal

pub loop-put-init : goal.loop-put-init
loop-put-init c =
    let all = sym c.into_iter-put-iterator.ensures.into_iter_gives.0 in
    record {
      can = tt;
      finite = tt;
      all = c.into_iter-put-iterator.ensures.into_iter_gives.0;
      climbing = subst (λ (n : ℕ). Climbs n (into_iter_items c.into_iter-put-iterator.result)) (sym c.nothing-settling.ensures.serial) (subst (Climbs 0) all c.requires.climbing);
      right = subst (All IsRightPut) all c.requires.right;
      so_far = c.nothing-settling.ensures.so_far;
    }

pub take-requires : goal.take-requires
take-requires c = record {
  so_far = (c.loop-put.yielded, c.loop-put.invariant.so_far);
  later = (subst (Climbs c.loop-put.settling.serial) c.in-Some.ensures.steps.0 c.loop-put.invariant.climbing).0;
  right = (right_rest c.in-Some.put _ _ c.in-Some.ensures.steps.0 c.loop-put.invariant.right).0;
}

pub loop-put-preserved : goal.loop-put-preserved
loop-put-preserved c =
    let put : Put = c.in-Some.put in
    record {
      can = tt;
      finite = tt;
      all = append_assoc c.loop-put.yielded (put ∷ []) (into_iter_items c.next.new.self) ∙ ap (λ l. c.loop-put.yielded ++ l) (sym c.in-Some.ensures.steps.0) ∙ c.loop-put.invariant.all;
      climbing = subst (λ (n : ℕ). Climbs n (into_iter_items c.next.new.self)) (sym c.in-Ok.ensures.serial) (subst (Climbs c.loop-put.settling.serial) c.in-Some.ensures.steps.0 c.loop-put.invariant.climbing).1;
      right = (right_rest put _ _ c.in-Some.ensures.steps.0 c.loop-put.invariant.right).1;
      so_far = c.in-Ok.ensures.taken c.loop-put.yielded c.loop-put.invariant.so_far;
    }

pub finish-requires : goal.finish-requires
finish-requires c = (c.loop-put.yielded, c.loop-put.invariant.so_far)

pub returns : goal.returns
returns c =
    let none = nothing_left (into_iter_items c.loop-put.put-iterator) (sym c.loop-put.put-iterator.rest.ok.0 ∙ c.in-None.ensures.steps.0) in
    let all : c.loop-put.yielded ≡ c.args.changes.items = sym (append-nil c.loop-put.yielded) ∙ ap (λ l. c.loop-put.yielded ++ l) (sym none) ∙ c.loop-put.invariant.all in
    record {
      settled = subst (λ (puts : List Put). IfOk c.finish.result (λ settled. entries_left settled.items ≡ entries_of (entries (over empty puts)))) all (c.finish.ensures.settled c.loop-put.yielded c.loop-put.invariant.so_far);
      storable = c.finish.ensures.storable c.loop-put.yielded c.loop-put.invariant.so_far;
    }
