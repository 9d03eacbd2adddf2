use Rattle.std.proofs.Common.{ℕ, ◌≡◌, ◌+◌, ◌∷◌, ◌∙◌, List, drop, sym, ap, subst}
use Rattle.std.specs.Prelude.{◌||◌}
use Rattle.std.proofs.lemmas.Bool.{false≢true}
use Rattle.std.proofs.lemmas.List.{drop_more}
use Rattle.type_layout.specs.declared.key.KeyNo.{KeyNo}
use Rattle.storage_home.specs.declared.change.Change.{Change}
use Rattle.storage_home.specs.Indexes.{lists}
use Rattle.pss_recovery.specs.inner.Claims.{AreOpen, ComeApart, is_in, no_keys, with_pairs}
use Rattle.pss_recovery.proofs.Tables.{none_in}
use Rattle.pss_recovery.proofs.apart.come_apart.Goals as goal

pub loop-change-init : goal.loop-change-init
loop-change-init c = (no_keys, (λ key bytes less. none_in c.new-claimed.result c.new-claimed.ensures.held key bytes), (λ S M kept gone g. ((λ p. p), (λ p. p))))

pub returns-then-not-branch : goal.returns-then-not-branch
returns-then-not-branch c = λ S M kept gone g.
    let change = c.change-item.result in
    let taken = c.loop-change.invariant.0 in
    let rest = drop (c.loop-change.change-index + 1) c.args.changes.now in
    let front : drop c.loop-change.change-index c.args.changes.now ≡ change ∷ rest = drop_more c.args.changes.now c.loop-change.change-index change c.loop-change-test.true ∙ ap (λ x. x ∷ rest) (sym c.change-item.is) in
    let may = c.in_ok-are_open.ensures S M kept gone taken g c.loop-change.invariant.1 in (
      λ e. absurd (false≢true e),
      λ all.
          let here = (subst (λ (l : List Change). ComeApart S M gone taken l) front ((c.loop-change.invariant.2 S M kept gone g).1 all)).0 in
          absurd (false≢true (sym c.if-not-branch.true ∙ may.1 (subst (λ (l : List (KeyNo × List ℕ)). AreOpen S M gone taken l) (sym c.as_slice-keys.ensures) here))),
    )

pub loop-change-preserved : goal.loop-change-preserved
loop-change-preserved c =
    let change = c.change-item.result in
    let taken = c.loop-change.invariant.0 in
    let rest = drop (c.loop-change.change-index + 1) c.args.changes.now in
    let front : drop c.loop-change.change-index c.args.changes.now ≡ change ∷ rest = drop_more c.args.changes.now c.loop-change.change-index change c.loop-change-test.true ∙ ap (λ x. x ∷ rest) (sym c.change-item.is) in (
      with_pairs change.new_keys taken,
      λ key bytes less. c.in_ok-put_keys.ensures key bytes less ∙ ap (λ (l : List (KeyNo × List ℕ)). lists l key bytes || is_in c.loop-change.claimed key bytes) c.as_slice-keys.ensures ∙ ap (λ b. lists change.new_keys key bytes || b) (c.loop-change.invariant.1 key bytes less),
      λ S M kept gone g.
          let may = c.in_ok-are_open.ensures S M kept gone taken g c.loop-change.invariant.1 in
          let here = subst (λ (l : List (KeyNo × List ℕ)). AreOpen S M gone taken l) c.as_slice-keys.ensures (may.0 c.if-not-branch.false) in
          let before = c.loop-change.invariant.2 S M kept gone g in (
            λ left. before.0 (subst (λ (l : List Change). ComeApart S M gone taken l) (sym front) (here, left)),
            λ all. (subst (λ (l : List Change). ComeApart S M gone taken l) front (before.1 all)).1,
          ),
    )
