use Rattle.std.proofs.Common.{◌≡◌, ◌<◌, ◌≤◌, ◌∙◌, ℕ, List, Bool, true, Some, length, get_or, sym, ap, arith}
use Rattle.psdl_lineage.specs.Graph.{parents_in}
use Rattle.psdl_lineage.specs.Descent.{has}
use Rattle.psdl_lineage.specs.Sources.{sources_in}
use Rattle.psdl_lineage.specs.inner.KeptSources.{list_at}
use Rattle.psdl_lineage.specs.inner.SourceTables.{kept_in}
use Rattle.psdl_lineage.proofs.Firsts.{there_at}
use Rattle.psdl_lineage.proofs.Idle.{none_joined, length-cleared}
use Rattle.psdl_lineage.proofs.Kept.{sources_below, one_parent_more, named_more, all_joined, without_own, with_own}
use Rattle.psdl_lineage.proofs.source_lists.SourceLists.joined.Goals as goal

pub loop-parent-init : goal.loop-parent-init
loop-parent-init c =
    record {
      sized = ap (λ (l : List Bool). length l) c.clear.ensures ∙ length-cleared c.args.marks.now ∙ c.requires.sized;
      joined = none_joined c.args.marks.now c.clear.new.self c.new-joined.result.items c.clear.ensures c.new-joined.ensures.items;
      items = c.new-joined.ensures.items;
      named = λ p h. absurd (cc);
    }

pub join-requires-clause-below : goal.join-requires-clause-below
join-requires-clause-below c n h =
    let graph : List (List ℕ) = c.args.graph.now in
    let ps : List ℕ = c.parents-parents.result.now in
    let p : ℕ = get_or ps c.loop-parent.parent-index 0 in
    let is_list : c.in-Some.list.now ≡ sources_in graph c.args.own.now p = c.requires.table.list p c.in-Some.list.now (sym c.in-Some.ensures) in
    let named : has (parents_in graph c.args.number) p ≡ true =
    ap (λ (l : List ℕ). has l p) (sym c.parents-parents.ensures.parents) ∙ there_at ps c.loop-parent.parent-index c.loop-parent-test.true in
    let inside : p < length graph = c.parents-parents.ensures.graph c.args.number p named in
    omega (
      arith,
      sources_below graph c.args.own.now p c.parents-parents.ensures.graph inside n (ap (λ (l : List ℕ). has l n) (sym is_list) ∙ h),
      c.loop-parent.invariant.sized,
    )

pub loop-parent-preserved : goal.loop-parent-preserved
loop-parent-preserved c =
    let graph : List (List ℕ) = c.args.graph.now in
    let ps : List ℕ = parents_in graph c.args.number in
    let i : ℕ = c.loop-parent.parent-index in
    let same : c.parents-parents.result.now ≡ ps = c.parents-parents.ensures.parents in
    let p : ℕ = get_or ps i 0 in
    let lt : i < length ps = omega (arith, c.loop-parent-test.true, ap (λ (l : List ℕ). length l) same) in
    let at_p : Some c.in-Some.list.now ≡ list_at (kept_in c.args.self.now) p =
    c.in-Some.ensures ∙ ap (λ (l : List ℕ). list_at (kept_in c.args.self.now) (get_or l i 0)) same in
    record {
      sized = c.in_ok-join-in-Some.ensures.sized ∙ c.loop-parent.invariant.sized;
      joined = c.in_ok-join-in-Some.ensures.joined;
      items =
          one_parent_more (sources_in graph c.args.own.now) ps i c.loop-parent.joined.items c.in-Some.list.now c.join.new.joined.items lt c.loop-parent.invariant.items
          (c.requires.table.list p c.in-Some.list.now (sym at_p)) c.in_ok-join-in-Some.ensures.items;
      named =
          named_more (kept_in c.args.self.now) ps i c.in-Some.list.now lt at_p c.loop-parent.invariant.named;
    }

pub returns-then-not-is_own-clause-list : goal.returns-then-not-is_own-clause-list
returns-then-not-is_own-clause-list c =
    let graph : List (List ℕ) = c.args.graph.now in
    let past : length (parents_in graph c.args.number) ≤ c.loop-parent.parent-index =
    omega (arith, c.loop-parent-test.false, ap (λ (l : List ℕ). length l) c.parents-parents.ensures.parents) in
    without_own c.args.own.now c.args.number c.loop-parent.joined.items (sources_in graph c.args.own.now c.args.number) (sym c.is_own.ensures ∙ c.if-not-is_own.true) c.loop-parent.invariant.joined.distinct
    (all_joined graph c.args.own.now (kept_in c.args.self.now) c.args.number c.loop-parent.parent-index c.loop-parent.joined.items c.requires.table c.requires.unkept c.requires.number past c.loop-parent.invariant.items
    c.loop-parent.invariant.named)

pub returns-clause-list : goal.returns-clause-list
returns-clause-list c =
    let graph : List (List ℕ) = c.args.graph.now in
    let past : length (parents_in graph c.args.number) ≤ c.loop-parent.parent-index =
    omega (arith, c.loop-parent-test.false, ap (λ (l : List ℕ). length l) c.parents-parents.ensures.parents) in
    with_own c.args.own.now c.args.number c.loop-parent.joined.items (sources_in graph c.args.own.now c.args.number) c.add.new.joined.items (sym c.is_own.ensures ∙ c.if-not-is_own.false)
    (all_joined graph c.args.own.now (kept_in c.args.self.now) c.args.number c.loop-parent.parent-index c.loop-parent.joined.items c.requires.table c.requires.unkept c.requires.number past c.loop-parent.invariant.items
    c.loop-parent.invariant.named)
    (rw c.new.ensures at c.in_ok-add.ensures.items)
