use Rattle.std.proofs.Common.{ℕ, ◌≡◌, ◌+◌, ◌∷◌, ◌∙◌, List, drop, refl, sym, ap, subst}
use Rattle.std.proofs.lemmas.Bool.{false≢true}
use Rattle.std.proofs.lemmas.List.{drop_more}
use Rattle.type_layout.specs.declared.key.KeyNo.{KeyNo}
use Rattle.storage_home.proofs.Places.{drop_end}
use Rattle.pss_recovery.specs.inner.Claims.{AreOpen, is_in}
use Rattle.pss_recovery.proofs.Tables.{open_same}
use Rattle.pss_recovery.proofs.apart.are_open.Goals as goal

pub returns-then-not-is_open : goal.returns-then-not-is_open
returns-then-not-is_open c = λ S M kept gone taken g t.
    let pair = c.pair-item.result in
    let rest = drop (c.loop-pair.pair-index + 1) c.args.pairs.now in
    let front : drop c.loop-pair.pair-index c.args.pairs.now ≡ pair ∷ rest = drop_more c.args.pairs.now c.loop-pair.pair-index pair c.loop-pair-test.true ∙ ap (λ p. p ∷ rest) (sym c.pair-item.is) in
    let same = open_same S M gone (is_in c.args.released.now) taken (is_in c.args.claimed.now) pair.0 pair.1 (sym (g pair.0.0 pair.1 c.tag.ensures.number)) (sym (t pair.0.0 pair.1 c.tag.ensures.number)) in (
      λ e. absurd (false≢true e),
      λ all.
          let here = (subst (λ (l : List (KeyNo × List ℕ)). AreOpen S M gone taken l) front ((c.loop-pair.invariant S M kept gone taken g t).1 all)).0 in
          absurd (false≢true (sym c.if-not-is_open.true ∙ (c.is_open.ensures S M kept).1 (same.0 here))),
    )

pub loop-pair-preserved : goal.loop-pair-preserved
loop-pair-preserved c = λ S M kept gone taken g t.
    let pair = c.pair-item.result in
    let rest = drop (c.loop-pair.pair-index + 1) c.args.pairs.now in
    let front : drop c.loop-pair.pair-index c.args.pairs.now ≡ pair ∷ rest = drop_more c.args.pairs.now c.loop-pair.pair-index pair c.loop-pair-test.true ∙ ap (λ p. p ∷ rest) (sym c.pair-item.is) in
    let same = open_same S M gone (is_in c.args.released.now) taken (is_in c.args.claimed.now) pair.0 pair.1 (sym (g pair.0.0 pair.1 c.tag.ensures.number)) (sym (t pair.0.0 pair.1 c.tag.ensures.number)) in
    let here = same.1 ((c.is_open.ensures S M kept).0 c.if-not-is_open.false) in
    let before = c.loop-pair.invariant S M kept gone taken g t in (
      λ left. before.0 (subst (λ (l : List (KeyNo × List ℕ)). AreOpen S M gone taken l) (sym front) (here, left)),
      λ all. (subst (λ (l : List (KeyNo × List ℕ)). AreOpen S M gone taken l) front (before.1 all)).1,
    )

pub returns : goal.returns
returns c = λ S M kept gone taken g t. (
  (λ _. (c.loop-pair.invariant S M kept gone taken g t).0 (subst (λ (l : List (KeyNo × List ℕ)). AreOpen S M gone taken l) (sym (drop_end c.args.pairs.now c.loop-pair.pair-index c.loop-pair-test.false)) tt)),
  (λ _. refl),
)
