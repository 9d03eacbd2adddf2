use Rattle.std.proofs.Common.{ℕ, suc, ◌≡◌, ◌+◌, ◌++◌, ◌∷◌, [], ◌∙◌, List, ap, arith, length, refl, subst, sym, take}
use Rattle.std.proofs.Math.Seq.{take-length, take-suc}
use Rattle.pss_base.specs.declared.put.Put.{Put}
use Rattle.page_format.specs.inner.Settling.{AreSettled}
use Rattle.page_format.proofs.Settled.{objects_are, settled_none, settled_one}
use Rattle.page_format.proofs.settling.are_settled.Goals as goal

pub loop-put-init : goal.loop-put-init
loop-put-init c = settled_none 1

pub loop-put-preserved : goal.loop-put-preserved
loop-put-preserved c =
    let k = c.loop-put.put-index in
    let puts = c.args.changes.now in
    let put = c.put-item.result in
    let more : take (k + 1) puts ≡ take k puts ++ put ∷ [] = ap (λ (n : ℕ). take n puts) (let h : k + 1 ≡ suc k = omega arith in h) ∙ take-suc puts k put c.loop-put-test.true ∙ ap (λ (x : Put). take k puts ++ x ∷ []) (sym c.put-item.is) in
    subst (λ (l : List Put). AreSettled l (put.serial + 1) l) (sym more) (settled_one (take k puts) put c.loop-put.last (c.if-not-is_next.ensures.left refl) (c.if-not-is_next.ensures.above refl) (c.if-not-is_next.ensures.storable refl) c.loop-put.invariant)

pub returns-clause-settled : goal.returns-clause-settled
returns-clause-settled c is =
    let puts = c.args.changes.now in
    let whole : take c.loop-put.put-index puts ≡ puts = ap (λ (n : ℕ). take n puts) (let h : c.loop-put.put-index ≡ length puts = omega (arith, c.loop-put.auto.put-index-end, c.loop-put-test.false) in h) ∙ take-length puts in
    objects_are puts _ _ (subst (λ (l : List Put). AreSettled l (c.loop-put.last + 1) l) whole c.loop-put.invariant)
