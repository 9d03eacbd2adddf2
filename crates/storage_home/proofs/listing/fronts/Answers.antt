use Rattle.std.proofs.Common.{◌+◌, get_or, take, subst}
use Rattle.std.proofs.lemmas.Option.{slice_get-get_or}
use Rattle.storage_home.specs.inner.Queues.{IsQueue}
use Rattle.storage_home.proofs.Places.{take_end}
use Rattle.storage_home.proofs.Queueing.{one_waits, listed_more}
use Rattle.storage_home.proofs.listing.fronts.Goals as goal

pub next_in-requires-clause-some : goal.next_in-requires-clause-some
next_in-requires-clause-some c = (c.requires.there (get_or c.args.heirs.now c.loop-heir.heir-index (record { 0 = 0 })) (c.loop-heir.heir-index, slice_get-get_or c.args.heirs.now c.loop-heir.heir-index (record { 0 = 0 }) c.loop-heir-test.true)).0

pub next_in-requires-clause-there : goal.next_in-requires-clause-there
next_in-requires-clause-there c = (c.requires.there (get_or c.args.heirs.now c.loop-heir.heir-index (record { 0 = 0 })) (c.loop-heir.heir-index, slice_get-get_or c.args.heirs.now c.loop-heir.heir-index (record { 0 = 0 }) c.loop-heir-test.true)).1

pub loop-heir-preserved : goal.loop-heir-preserved
loop-heir-preserved c =
    one_waits c.args.extents.now c.requires.apart (take (c.loop-heir.heir-index + 1) c.args.heirs.now) (get_or c.args.heirs.now c.loop-heir.heir-index (record { 0 = 0 })) (take c.loop-heir.heir-index c.args.heirs.now) c.loop-heir.queue.entries c.enqueue.new.queue.entries c.next_in.result
    (λ h. listed_more c.args.heirs.now c.loop-heir.heir-index (record { 0 = 0 }) h c.loop-heir-test.true) c.loop-heir.invariant c.next_in.ensures c.in_ok-enqueue.ensures

pub returns : goal.returns
returns c = subst (λ l. IsQueue c.args.extents.now l 0 c.loop-heir.queue.entries) (take_end c.args.heirs.now c.loop-heir.heir-index c.loop-heir-test.false) c.loop-heir.invariant
