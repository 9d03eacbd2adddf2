use Rattle.std.proofs.Common.{rules, ◌≡◌, ◌<◌, ◌∙◌, ℕ, List, Bool, length, drop, get_or, sym, ap, arith, Some, None, cond}
use Rattle.std.proofs.Math.ListN.{replicate}
use Rattle.std.proofs.lemmas.Grind.{get_or_default_zero}
use Rattle.psdl_lineage.specs.Descent.{has}
use Rattle.psdl_lineage.specs.Graph.{ancestry_in}
use Rattle.psdl_lineage.proofs.Repeats.{once}
use Rattle.psdl_lineage.proofs.Idle.{idle, length-cleared}
use Rattle.psdl_lineage.proofs.Reaching.{found_once, found_below}
use Rattle.psdl_lineage.proofs.Firsts.{there_at, none_first, one_root_more, longer}
use Rattle.psdl_lineage.proofs.descendants.first_descendants.Goals as goal

pub loop-root-init : goal.loop-root-init
loop-root-init c =
    record {
      sized = ap (λ (l : List Bool). length l) c.clear.ensures ∙ length-cleared c.args.marks.now;
      idle = idle c.args.graph.now c.args.marks.now c.clear.new.self c.new-walk.result c.requires.sized c.clear.ensures c.new-walk.ensures.way c.new-walk.ensures.found;
      first = none_first c.args.graph.now c.new-walk.result.found.items c.in_ok-firsts.firsts.items c.new-walk.ensures.found (c.in_ok-firsts.ensures.items_if_clones_equal (λ y e. search rules) ∙ ap (λ (k : ℕ). replicate k None) c.len.ensures);
    }

pub run-requires-clause-number : goal.run-requires-clause-number
run-requires-clause-number c =
    let item : c.root-item.result ≡ get_or c.args.roots.now c.loop-root.root-index 0 = c.root-item.is ∙ get_or_default_zero c.args.roots.now c.loop-root.root-index c.root-item.result c.loop-root-test.true in
    let is : c.index.result ≡ get_or c.args.roots.now c.loop-root.root-index 0 = c.index.ensures ∙ item in
    rw is (c.requires.roots (get_or c.args.roots.now c.loop-root.root-index 0) (there_at c.args.roots.now c.loop-root.root-index c.loop-root-test.true))

pub found_since-requires : goal.found_since-requires
found_since-requires c =
    let item : c.root-item.result ≡ get_or c.args.roots.now c.loop-root.root-index 0 = c.root-item.is ∙ get_or_default_zero c.args.roots.now c.loop-root.root-index c.root-item.result c.loop-root-test.true in
    let is : c.index.result ≡ get_or c.args.roots.now c.loop-root.root-index 0 = c.index.ensures ∙ item in
    let found : List ℕ = c.loop-root.walk.found.items in
    let distinct : once found ≡ found = found_once c.args.graph.now c.loop-root.marks _ found c.loop-root.invariant.idle.on in
    omega (arith, longer found (ancestry_in c.args.graph.now (get_or c.args.roots.now c.loop-root.root-index 0)) c.run.new.self.found.items distinct (rw is at c.in_ok-run.ensures.found), c.len-before.ensures)

pub give-requires : goal.give-requires
give-requires c n h =
    let below : n < length c.args.graph.now =
    found_below c.args.graph.now c.run.new.marks _ c.run.new.self.found.items c.len-before.result c.in_ok-run.ensures.idle.on n (ap (λ (l : List ℕ). has l n) (sym c.found_since.ensures) ∙ h) in
    omega (arith, c.loop-root.invariant.first.sized)

pub loop-root-preserved : goal.loop-root-preserved
loop-root-preserved c =
    let item : c.root-item.result ≡ get_or c.args.roots.now c.loop-root.root-index 0 = c.root-item.is ∙ get_or_default_zero c.args.roots.now c.loop-root.root-index c.root-item.result c.loop-root-test.true in
    let is : c.index.result ≡ get_or c.args.roots.now c.loop-root.root-index 0 = c.index.ensures ∙ item in
    let found : List ℕ = c.loop-root.walk.found.items in
    let distinct : once found ≡ found = found_once c.args.graph.now c.loop-root.marks _ found c.loop-root.invariant.idle.on in
    let since : c.found_since.result.now ≡ drop (length found) c.run.new.self.found.items =
    c.found_since.ensures ∙ ap (λ (k : ℕ). drop k c.run.new.self.found.items) c.len-before.ensures in
    record {
      sized = c.run.ensures.sized ∙ c.loop-root.invariant.sized;
      idle = c.in_ok-run.ensures.idle;
      first =
          one_root_more c.args.graph.now c.args.roots.now c.loop-root.root-index found c.run.new.self.found.items c.loop-root.firsts.items c.give.new.firsts.items c.loop-root-test.true
          c.loop-root.invariant.first distinct (rw is at c.in_ok-run.ensures.found) c.give.ensures.len
          (λ n.
          (rw item at c.give.ensures.given n)
          ∙ ap (λ (l : List ℕ). cond (has l n) (Some (get_or c.args.roots.now c.loop-root.root-index 0)) (get_or c.loop-root.firsts.items n None)) since);
    }
