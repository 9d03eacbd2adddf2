use Rattle.std.proofs.Common.{◌∙◌, ◌<◌, ℕ, List, length, length-set, sym, arith, false}
use Rattle.std.proofs.lemmas.List.{get_or_read}
use Rattle.psdl_members.specs.inner.Heirs.{sees}
use Rattle.psdl_members.specs.inner.Seeing.{IsSeen}
use Rattle.psdl_members.proofs.Telling.{told_idle, told_heir}
use Rattle.psdl_members.proofs.heirs.Heirs.tell.Goals as goal

pub returns-then-not-index-clause-told : goal.returns-then-not-index-clause-told
returns-then-not-index-clause-told c es before few so_far =
    let self = c.args.self.now in
    let read = get_or_read self.heirs.items c.args.number c.index.result.now c.requires.number c.index.ensures false in
    told_idle self.graph.now self.rows.now es before self.heirs.items c.args.number c.args.seen.now.items c.args.clashes.now.items self.order self.told c.requires.number c.requires.seen (sym read ∙ c.if-not-index.true) so_far

pub returns-clause-seen : goal.returns-clause-seen
returns-clause-seen c = length-set c.args.seen.now.items c.args.number c.seen_by-here.result ∙ c.requires.seen

pub returns-clause-sized : goal.returns-clause-sized
returns-clause-sized c = length-set c.args.clashes.now.items c.args.number c.either-clash.result ∙ c.requires.sized

pub returns-clause-told : goal.returns-clause-told
returns-clause-told c es before few so_far =
    let self = c.args.self.now in
    let i : ℕ = c.args.number in
    let graph : List (List ℕ) = self.graph.now in
    let rows = self.rows.now in
    let room : i < length c.args.seen.now.items = omega (arith, c.requires.number, c.requires.seen) in
    let here : IsSeen c.seen_by-here.result es (sees graph rows i) =
    (rw c.deref.ensures.value at c.seen_by-here.ensures) es (so_far.ahead i (omega arith) room) (λ p named. so_far.seen_is p (self.order.order i p c.requires.number named)) in
    let space : i < length c.args.clashes.now.items = omega (arith, c.requires.number, c.requires.sized) in
    told_heir graph rows es before self.heirs.items i c.args.seen.now.items c.args.clashes.now.items c.seen_by-here.result c.index-2.result.now c.either-clash.result c.has_clash.result room space here
    (get_or_read c.args.clashes.now.items i c.index-2.result.now space c.index-2.ensures false) (c.has_clash.ensures es (sees graph rows i) few here) c.either-clash.ensures so_far
