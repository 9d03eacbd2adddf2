use Rattle.std.proofs.Common.{◌≡◌, ◌<◌, ◌≤◌, ◌∙◌, ℕ, List, Bool, length, get_or, sym, ap, arith}
use Rattle.std.specs.List.{flat_map, range_with_len}
use Rattle.std.proofs.lemmas.List.{take_all}
use Rattle.std.proofs.lemmas.List.FromFn.{length-range_with_len, get_or-range_with_len}
use Rattle.psdl_lineage.specs.Descent.{has}
use Rattle.psdl_lineage.specs.Graph.{ancestry_in}
use Rattle.psdl_lineage.proofs.Repeats.{once}
use Rattle.psdl_lineage.proofs.Idle.{idle, length-cleared}
use Rattle.psdl_lineage.proofs.Kept.{one_parent_more}
use Rattle.psdl_lineage.proofs.Reaching.{found_below}
use Rattle.psdl_lineage.proofs.ancestry.order.Goals as goal

pub loop-number-init : goal.loop-number-init
loop-number-init c =
    record {
      sized = ap (λ (l : List Bool). length l) c.clear.ensures ∙ length-cleared c.args.marks.now;
      idle = idle c.args.graph.now c.args.marks.now c.clear.new.self c.new-walk.result c.requires.sized c.clear.ensures c.new-walk.ensures.way c.new-walk.ensures.found;
      found = c.new-walk.ensures.found;
    }

pub loop-number-preserved : goal.loop-number-preserved
loop-number-preserved c =
    let graph : List (List ℕ) = c.args.graph.now in
    let all : List ℕ = range_with_len 0 (length graph) in
    let i : ℕ = c.loop-number.number in
    let lt : i < length graph = omega (arith, c.loop-number-test.true, c.len-number-end.ensures) in
    let here : get_or all i 0 ≡ i = omega (arith, get_or-range_with_len 0 (length graph) i 0 lt) in
    record {
      sized = c.run.ensures.sized ∙ c.loop-number.invariant.sized;
      idle = c.in_ok-run.ensures.idle;
      found =
          one_parent_more (ancestry_in graph) all i c.loop-number.walk.found.items (ancestry_in graph i) c.run.new.self.found.items (omega (arith, lt, length-range_with_len 0 (length graph)))
          c.loop-number.invariant.found (ap (ancestry_in graph) (sym here)) c.in_ok-run.ensures.found;
    }

pub returns-clause-order : goal.returns-clause-order
returns-clause-order c =
    let graph : List (List ℕ) = c.args.graph.now in
    let past : length (range_with_len 0 (length graph)) ≤ c.loop-number.number = omega (arith, c.loop-number-test.false, c.len-number-end.ensures, length-range_with_len 0 (length graph)) in
    c.into_found.ensures ∙ c.loop-number.invariant.found ∙ ap (λ (l : List ℕ). once (flat_map (ancestry_in graph) l)) (take_all c.loop-number.number (range_with_len 0 (length graph)) past)

pub returns-clause-below : goal.returns-clause-below
returns-clause-below c n h =
    found_below c.args.graph.now c.loop-number.marks _ c.loop-number.walk.found.items 0 c.loop-number.invariant.idle.on n (ap (λ (l : List ℕ). has l n) (sym c.into_found.ensures) ∙ h)
