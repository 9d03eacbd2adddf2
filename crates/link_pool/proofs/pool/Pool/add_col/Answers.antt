use Rattle.std.proofs.Common.{◌<◌, sym, ap, ◌∙◌, subst, arith}
use Rattle.std.specs.FinMap as map
use Rattle.link_pool.specs.Names.{col_named}
use Rattle.link_pool.specs.declared.cells.Side.TheVariants.{Cols}
use Rattle.link_pool.proofs.Settled.{rings_hold}
use Rattle.link_pool.proofs.Heads.{ring_was_none}
use Rattle.link_pool.proofs.Whole.{col_added_whole, col_added_told}
use Rattle.link_pool.proofs.pool.Pool.add_col.Goals as goal

pub invariant_of-self : goal.invariant_of-self
invariant_of-self g c =
    col_added_whole c.self.inside.cells c.add_head-number.new.cells c.self.inside.promised c.self.invariant c.add_head-number.ensures.capacity c.add_head-number.result c.add_head-number.ensures.vacant c.add_head-number.ensures.len
    (let more : 0 < c.make_cell.new.self.room = subst (λ m. 0 < m.room) (sym c.in_ok-make_cell.ensures.ok) (omega arith) in subst (λ m. 0 < m.room) (sym c.self.view_is) more) c.add_head-number.ensures.updates

pub returns-clause-new : goal.returns-clause-new
returns-clause-new g c =
    ap (λ m. map.get m.cols (col_named c.add_head-number.result)) (sym c.in_ok-make_cell.ensures.ok) ∙ ap (λ m. map.get m.cols (col_named c.add_head-number.result)) (sym c.self.view_is) ∙ ring_was_none Cols c.self.inside.cells c.add_head-number.new.cells c.self.invariant.sound c.add_head-number.result c.add_head-number.ensures.vacant c.add_head-number.ensures.updates

pub returns-clause-ok : goal.returns-clause-ok
returns-clause-ok g c =
    let more = sym c.self.view_is in
    col_added_told c.self.inside.cells c.add_head-number.new.cells c.self.inside.promised c.self.invariant c.add_head-number.ensures.capacity c.add_head-number.result c.add_head-number.ensures.vacant c.add_head-number.ensures.len
    (let more : 0 < c.make_cell.new.self.room = subst (λ m. 0 < m.room) (sym c.in_ok-make_cell.ensures.ok) (omega arith) in subst (λ m. 0 < m.room) (sym c.self.view_is) more) c.add_head-number.ensures.updates c.args.self.now (c.self.view_is ∙ c.in_ok-make_cell.ensures.ok)

pub returns-clause-rings : goal.returns-clause-rings
returns-clause-rings g c = let w = invariant_of-self g c in rings_hold c.add_head-number.new.cells c.self.inside.promised w.sound
