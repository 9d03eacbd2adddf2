use Rattle.std.proofs.Common.{ℕ, List, ◌∙◌, refl, sym, subst}
use Rattle.std.proofs.lemmas.Bool.{false≢true}
use Rattle.storage_home.proofs.Places.{take_end}
use Rattle.pss_recovery.specs.inner.Held.{IsHeld, NoneHeld}
use Rattle.pss_recovery.proofs.Holders.{free_of, listed_at, none_more, not_free}
use Rattle.pss_recovery.proofs.keys.are_free.Goals as goal

pub returns-then-is_held : goal.returns-then-is_held
returns-then-is_held c = λ S M kept object keys.
    let pair = c.pair-item.result in
    let there = subst (λ (b : List ℕ). IsHeld S M pair.0 b) c.as_slice.ensures ((c.is_held.ensures S M kept).0 c.if-is_held.true) in
    ((λ e. absurd (false≢true e)), λ free. absurd (not_free S M object c.args.keys.now pair keys (listed_at c.args.keys.now c.loop-pair.pair-index pair c.loop-pair-test.true c.pair-item.is) there free))

pub loop-pair-preserved : goal.loop-pair-preserved
loop-pair-preserved c = λ S M kept.
    let pair = c.pair-item.result in
    none_more S M c.args.keys.now c.loop-pair.pair-index pair c.loop-pair-test.true c.pair-item.is (c.loop-pair.invariant S M kept)
    (λ h. false≢true (sym c.if-is_held.false ∙ (c.is_held.ensures S M kept).1 (subst (λ (b : List ℕ). IsHeld S M pair.0 b) (sym c.as_slice.ensures) h)))

pub returns : goal.returns
returns c = λ S M kept object keys.
    ((λ _. free_of S M object c.args.keys.now keys (subst (NoneHeld S M) (take_end c.args.keys.now c.loop-pair.pair-index c.loop-pair-test.false) (c.loop-pair.invariant S M kept))), λ _. refl)
