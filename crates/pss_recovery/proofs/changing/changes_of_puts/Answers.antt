use Rattle.std.proofs.Common.{List, ◌≡◌, rules, sym, subst, ◌∙◌}
use Rattle.std.specs.Vec.Iter.{into_iter_items}
use Rattle.pss_base.specs.declared.put.Put.{Put}
use Rattle.storage_home.specs.declared.change.Change.{Change}
use Rattle.storage_home.proofs.Places.{no_items}
use Rattle.pss_recovery.specs.inner.Remaking.{AreJoined}
use Rattle.pss_recovery.proofs.Joins.{all_joined, joined_on, may_push, none_here, none_joined}
use Rattle.pss_recovery.proofs.changing.changes_of_puts.Goals as goal

pub loop-put-init : goal.loop-put-init
loop-put-init c =
    let S = c.args.schema.now in
    let first = none_joined S c.args.homes.now c.args.next c.args.puts c.requires.rise in
    let from = subst (λ (l : List Change). AreJoined S c.args.homes.now c.args.next c.args.puts c.args.puts l) (sym c.new-changes.ensures) first in
    let same : into_iter_items c.into_iter-put-iterator.result ≡ c.args.puts = search rules in
    (tt, tt, subst (λ (l : List Put). AreJoined S c.args.homes.now c.args.next c.args.puts l c.new-changes.result) (sym same) from)

pub push-requires : goal.push-requires
push-requires c =
    let S = c.args.schema.now in
    let so_far = subst (λ (l : List Put). AreJoined S c.args.homes.now c.args.next c.args.puts l c.loop-put.changes) c.in-Some.ensures.steps.0 c.loop-put.invariant.2 in
    may_push S c.args.homes.now c.args.next c.args.puts c.in-Some.put (into_iter_items c.next.new.self) c.loop-put.changes so_far c.in-Some-2.change (rw c.in-Some-2.is at c.in_ok-change.ensures.put)

pub returns-in_default-clause-none : goal.returns-in_default-clause-none
returns-in_default-clause-none c = λ _.
    let S = c.args.schema.now in
    let so_far = subst (λ (l : List Put). AreJoined S c.args.homes.now c.args.next c.args.puts l c.loop-put.changes) c.in-Some.ensures.steps.0 c.loop-put.invariant.2 in
    none_here S c.args.homes.now c.args.next c.args.puts c.in-Some.put (into_iter_items c.next.new.self) c.loop-put.changes so_far (c.in_ok-change.ensures.none (search rules))

pub loop-put-preserved : goal.loop-put-preserved
loop-put-preserved c =
    let S = c.args.schema.now in
    let so_far = subst (λ (l : List Put). AreJoined S c.args.homes.now c.args.next c.args.puts l c.loop-put.changes) c.in-Some.ensures.steps.0 c.loop-put.invariant.2 in
    (tt, tt, joined_on S c.args.homes.now c.args.next c.args.puts c.in-Some.put (into_iter_items c.next.new.self) c.loop-put.changes so_far c.in-Some-2.change c.push.new.self (rw c.in-Some-2.is at c.in_ok-change.ensures.put) (rw c.in-Some-2.is at c.in_ok-change.ensures.found) c.in_ok-push.ensures.ok)

pub returns-clause-found : goal.returns-clause-found
returns-clause-found c = all_joined c.args.schema.now c.args.homes.now c.args.next c.args.puts (into_iter_items c.loop-put.put-iterator) c.loop-put.changes (no_items _ (sym c.loop-put.put-iterator.rest.ok.0 ∙ c.in-None.ensures.steps.0)) c.loop-put.invariant.2
