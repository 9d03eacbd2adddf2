use Rattle.std.proofs.Common.{◌∷◌, ℕ, List, Bool, arith, sym, refl, subst}
use Rattle.psdl_lineage.specs.declared.walk.Step.{Step}
use Rattle.psdl_lineage.specs.inner.Walking.{IsWalk, Moved, is_marked, way_of}
use Rattle.psdl_lineage.specs.inner.Walks.{steps_of}
use Rattle.psdl_lineage.proofs.Counting.{marked_within}
use Rattle.psdl_lineage.proofs.Repeats.{has_here}
use Rattle.psdl_lineage.proofs.Going.{way_marked, leaves, takes}
use Rattle.psdl_lineage.proofs.Named.{past_all}
use Rattle.psdl_lineage.proofs.walk.Walk.go.Goals as goal

pub parent-requires : goal.parent-requires
parent-requires c =
    let steps : List Step = steps_of c.args.self.now in
    let graph : List (List ℕ) = c.args.graph.now in
    let n : ℕ = c.args.step.number in
    let w : IsWalk graph c.args.marks.now (c.args.step ∷ steps) c.args.self.now.found.items = c.requires in
    omega (arith, marked_within c.args.marks.now n (way_marked graph c.args.marks.now (c.args.step ∷ steps) c.args.self.now.found.items w n (has_here n (way_of steps))), w.sized)

pub returns-in_ok-push-in-None-clause-moved : goal.returns-in_ok-push-in-None-clause-moved
returns-in_ok-push-in-None-clause-moved c =
    let steps : List Step = steps_of c.args.self.now in
    let graph : List (List ℕ) = c.args.graph.now in
    let found : List ℕ = c.args.self.now.found.items in
    subst (λ (l : List ℕ). Moved graph c.args.marks.now (c.args.step ∷ steps) found c.args.marks.now steps l) (sym c.in_ok-push-in-None.ensures.items)
    (leaves graph c.args.marks.now c.args.step steps found c.requires (past_all _ _ (sym c.in-None.ensures.parent)))

pub returns-in_ok-enter-in-Some-clause-moved : goal.returns-in_ok-enter-in-Some-clause-moved
returns-in_ok-enter-in-Some-clause-moved c =
    let graph : List (List ℕ) = c.args.graph.now in
    let marks : List Bool = c.args.marks.now in
    let w : IsWalk graph marks (c.args.step ∷ steps_of c.args.self.now) c.args.self.now.found.items = c.requires in
    takes graph marks c.args.step c.args.self.now.way.items c.args.self.now.found.items c.in-Some.parent c.requires (sym c.in-Some.ensures.parent) (omega (arith, c.in-Some.ensures.below, w.sized))
    c.enter.new.marks c.push-in-Some.new.self.items c.enter.new.self.way.items c.enter.new.self.found.items (is_marked marks c.in-Some.parent) refl
    c.in_ok-enter-in-Some.ensures.marks c.in_ok-push-in-Some.ensures.items c.in_ok-enter-in-Some.ensures.way c.in_ok-enter-in-Some.ensures.found
