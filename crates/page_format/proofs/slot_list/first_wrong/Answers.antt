use Rattle.std.proofs.Common.{get_or, refl, subst, List, Bool, sym, arith}
use Rattle.std.proofs.lemmas.Bool.{false≢true}
use Rattle.page_format.proofs.SlotLists.{tested_more, tested_none, tested_wrong, Fails}
use Rattle.page_format.proofs.slot_list.first_wrong.Goals as goal

pub loop-k-init : goal.loop-k-init
loop-k-init c = tested_none _ _ c.in_ok-named.named.items c.in_ok-named.ensures.len c.in_ok-named.ensures.none

pub loop-k-preserved : goal.loop-k-preserved
loop-k-preserved c =
    let named = c.loop-k.named.items in
    tested_more c.args.slots.now c.args.len c.loop-k.k named c.loop-k.invariant
    (λ f. false≢true (c.if-is_wrong.ensures.1 (subst (λ (l : List Bool). Fails c.args.slots.now c.args.len l (get_or c.args.slots.now c.loop-k.k 0)) (sym c.deref.ensures.value) f)))

pub returns-then-is_wrong-clause-wrong : goal.returns-then-is_wrong-clause-wrong
returns-then-is_wrong-clause-wrong c =
    let slots = c.args.slots.now in
    tested_wrong slots c.args.len c.loop-k.k c.loop-k.named.items c.loop-k.invariant (subst (λ (l : List Bool). Fails slots c.args.len l (get_or c.args.slots.now c.loop-k.k 0)) c.deref.ensures.value (c.if-is_wrong.ensures.0 refl))

pub returns-clause-none : goal.returns-clause-none
returns-clause-none c = λ _ k lt. c.loop-k.invariant.right k (omega arith)
