use Rattle.std.proofs.Common.{ℕ, List, take, subst, refl, sym, ap, ◌∙◌, arith}
use Rattle.std.proofs.lemmas.Bool.{false≢true}
use Rattle.pss_recovery.specs.inner.Lines.{EndsAt}
use Rattle.pss_recovery.proofs.Differences.{agree_on, differ_here}
use Rattle.pss_recovery.proofs.shapes.first_difference.Goals as goal

pub returns-then-not-are_same : goal.returns-then-not-are_same
returns-then-not-are_same c =
    let m = c.lines_end-end.result in
    let n = c.lines_end.result in
    let own = subst (λ (l : List ℕ). EndsAt l m) c.behind-own.ensures c.lines_end-end.ensures in
    let their = subst (λ (l : List ℕ). EndsAt l n) c.behind-their.ensures c.lines_end.ensures in
    differ_here c.args.shape.now c.args.other.now c.homes.at c.homes.home m n c.homes.invariant own their
    (λ e. false≢true (c.if-not-are_same.ensures.1 (ap (take m) c.behind-own.ensures ∙ e ∙ sym (ap (take n) c.behind-their.ensures))))

pub homes-preserved : goal.homes-preserved
homes-preserved c =
    let m = c.lines_end-end.result in
    let n = c.lines_end.result in
    let own = subst (λ (l : List ℕ). EndsAt l m) c.behind-own.ensures c.lines_end-end.ensures in
    let their = subst (λ (l : List ℕ). EndsAt l n) c.behind-their.ensures c.lines_end.ensures in
    agree_on c.args.shape.now c.args.other.now c.homes.at c.homes.home m n c.homes.invariant own their
    (sym (ap (take m) c.behind-own.ensures) ∙ c.if-not-are_same.ensures.0 refl ∙ ap (take n) c.behind-their.ensures) (omega (arith, c.if-end-eq0.false))
