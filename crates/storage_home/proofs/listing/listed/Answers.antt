use Rattle.std.proofs.Common.{ℕ, zero, suc, ◌+◌, ◌≡◌, ◌<◌, ◌++◌, ◌∷◌, [], length, sym, ap, subst, ◌∙◌, arith, refl}
use Rattle.std.proofs.lemmas.Map.Keys.{le_from_not_gt}
use Rattle.pss_catalog.specs.Catalog.{pids_where}
use Rattle.storage_home.specs.Kept.{is_of}
use Rattle.storage_home.specs.inner.Queues.{IsQueue, waiting_at, after, below}
use Rattle.storage_home.proofs.Places.{one_longer, no_items, take_end}
use Rattle.storage_home.proofs.Merging.{below_none, after_one, more_listed, all_listed, front_listed}
use Rattle.storage_home.proofs.Queueing.{queue_on}
use Rattle.storage_home.proofs.listing.listed.Goals as goal

pub loop-init : goal.loop-init
loop-init c = (
  ap length c.new-pids.ensures,
  λ heirs queue. subst (λ ps. IsQueue c.args.extents.now heirs (after 0 ps) c.args.queue.now.entries) (sym c.new-pids.ensures) queue,
  λ S M home heirs queue listing. c.new-pids.ensures ∙ sym (below_none (pids_where (is_of S home) M)) ∙ ap (λ ps. below (after 0 ps) (pids_where (is_of S home) M)) (sym c.new-pids.ensures),
)

pub loop-preserved : goal.loop-preserved
loop-preserved c =
    let more : c.push.new.self ≡ c.loop.pids ++ record { home = c.in-Some.home.0; serial = c.in-Some.serial } ∷ [] = c.in_ok-push.ensures.ok in
    let behind : after 0 c.push.new.self ≡ c.in-Some.serial + 1 = ap (after 0) more ∙ after_one 0 c.loop.pids (record { home = c.in-Some.home.0; serial = c.in-Some.serial }) in (
      ap length more ∙ one_longer c.loop.pids (record { home = c.in-Some.home.0; serial = c.in-Some.serial }) ∙ ap (λ (n : ℕ). n + 1) c.loop.invariant.0,
      λ heirs queue.
          subst (λ (n : ℕ). IsQueue c.args.extents.now heirs n c.enqueue.new.queue.entries) (sym behind)
          (queue_on c.args.extents.now c.requires.1 heirs (after 0 c.loop.pids) c.loop.queue.entries c.pop_first.new.self.entries c.enqueue.new.queue.entries (c.loop.invariant.1 heirs queue) c.in-Some.serial c.in-Some.home c.in-Some.ensures.value
          (λ q there. le_from_not_gt c.in-Some.serial q (c.in-Some.ensures.least q there)) c.in-Some.ensures.updates.0 c.next_above_in.result c.next_above_in.ensures c.in_ok-enqueue.ensures),
      λ S M home heirs queue listing.
          more ∙ ap (λ ps. ps ++ record { home = c.in-Some.home.0; serial = c.in-Some.serial } ∷ []) (c.loop.invariant.2 S M home heirs queue listing)
          ∙ sym (more_listed S M home c.args.extents.now heirs listing (after 0 c.loop.pids) c.loop.queue.entries (c.loop.invariant.1 heirs queue) c.in-Some.serial c.in-Some.home c.in-Some.ensures.value (λ q there. le_from_not_gt c.in-Some.serial q (c.in-Some.ensures.least q there)))
          ∙ ap (λ (n : ℕ). below n (pids_where (is_of S home) M)) (sym behind),
    )

pub returns-in_default : goal.returns-in_default
returns-in_default c S M home heirs queue listing =
    let nothing : c.loop.queue.entries ≡ [] = no_items c.loop.queue.entries (empty_of (length c.loop.queue.entries) (λ some. let no = c.in_default.ensures.variant.1 some in cc)) in
    let is = c.loop.invariant.2 S M home heirs queue listing in
    let all = all_listed S M home c.args.extents.now heirs listing (after 0 c.loop.pids) c.loop.queue.entries (c.loop.invariant.1 heirs queue) (λ q. ap (waiting_at q) nothing) in
    let few = c.loop-test.true in
    let long = sym (ap length (is ∙ all)) ∙ c.loop.invariant.0 in
    is ∙ all ∙ sym (take_end (pids_where (is_of S home) M) c.args.n (omega (arith, few, long)))
  where
    empty_of : (n : ℕ) → (0 < n → ⊥) → n ≡ 0
    empty_of zero none = refl
    empty_of (suc n) none = absurd (none (omega arith))

pub next_above_in-requires-clause-some : goal.next_above_in-requires-clause-some
next_above_in-requires-clause-some c = (c.requires.2 c.in-Some.home ((c.loop.invariant.1 c.requires.0 c.requires.3 c.in-Some.serial c.in-Some.home).0 c.in-Some.ensures.value).0).0

pub next_above_in-requires-clause-there : goal.next_above_in-requires-clause-there
next_above_in-requires-clause-there c = (c.requires.2 c.in-Some.home ((c.loop.invariant.1 c.requires.0 c.requires.3 c.in-Some.serial c.in-Some.home).0 c.in-Some.ensures.value).0).1

pub returns : goal.returns
returns c S M home heirs queue listing =
    let is = c.loop.invariant.2 S M home heirs queue listing in
    let over = c.loop-test.false in
    let most = c.loop.auto.counter-end in
    let number = c.loop.invariant.0 in
    let same = ap length is in
    is ∙ front_listed S M home c.args.extents.now heirs listing (after 0 c.loop.pids) c.args.n (omega (arith, over, most, number, same))
