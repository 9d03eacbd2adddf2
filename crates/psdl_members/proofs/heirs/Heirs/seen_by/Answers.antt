use Rattle.std.proofs.Common.{◌||◌, ℕ, List, length, arith, subst, sym}
use Rattle.std.specs.List.{list_any}
use Rattle.psdl_lineage.specs.Graph.{parents_in}
use Rattle.psdl_members.specs.declared.seen.Seen.{Seen}
use Rattle.psdl_members.specs.inner.Heirs.{sees, shows}
use Rattle.psdl_members.specs.inner.Seeing.{IsSeen}
use Rattle.psdl_members.proofs.Sights.{seen_alike, sees_by}
use Rattle.psdl_members.proofs.heirs.Heirs.seen_by.Goals as goal

pub parents-requires : goal.parents-requires
parents-requires c = omega (arith, c.requires, c.args.self.now.order.within)

pub returns : goal.returns
returns c es body each =
    let self = c.args.self.now in
    let graph : List (List ℕ) = self.graph.now in
    let rows = self.rows.now in
    let n : ℕ = c.args.number in
    let ps : List ℕ = parents_in graph n in
    let own : IsSeen c.seen_at-own.result es (shows rows n) = subst (λ (s : Seen). IsSeen s es (shows rows n)) (sym c.seen_at-own.ensures) body in
    let above : IsSeen c.seen_by_all.result es (λ test. list_any (λ p. sees graph rows p test) ps) = rw c.parents.ensures.parents at (c.seen_by_all.ensures es (sees graph rows) (rw (c.parents.ensures.parents) each)) in
    seen_alike c.and.result es (λ test. shows rows n test || list_any (λ p. sees graph rows p test) ps) (sees graph rows n) (sees_by graph rows (length self.heirs.items) n self.order c.requires)
    (c.and.ensures es (shows rows n) (λ test. list_any (λ p. sees graph rows p test) ps) own above)
