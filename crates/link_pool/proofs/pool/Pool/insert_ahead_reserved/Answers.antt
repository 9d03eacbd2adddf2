use Rattle.std.proofs.Common.{sym, ap, ◌∙◌}
use Rattle.std.specs.FinMap as map
use Rattle.link_pool.specs.Names.{node_named}
use Rattle.link_pool.specs.Cells.{seat_of}
use Rattle.link_pool.proofs.Sound.{get-nodes}
use Rattle.link_pool.proofs.Settled.{rings_hold}
use Rattle.link_pool.proofs.Told.{row_found, col_found}
use Rattle.link_pool.proofs.Whole.{came_ahead}
use Rattle.link_pool.proofs.pool.Pool.insert_ahead_reserved.Goals as goal

pub add_ahead-number-requires-clause-row : goal.add_ahead-number-requires-clause-row
add_ahead-number-requires-clause-row g c = row_found c.self.inside.cells c.self.inside.promised c.args.self.now c.self.view_is c.args.row c.requires.row

pub add_ahead-number-requires-clause-col : goal.add_ahead-number-requires-clause-col
add_ahead-number-requires-clause-col g c = col_found c.self.inside.cells c.self.inside.promised c.args.self.now c.self.view_is c.args.col c.requires.col

pub invariant_of-self : goal.invariant_of-self
invariant_of-self g c =
    let t = c.add_ahead-number.ensures in
    let came =
    came_ahead c.self.inside.cells c.add_ahead-number.new.cells c.self.inside.promised c.self.invariant c.args.self.now c.self.view_is (node_named c.add_ahead-number.result) (record { row = c.args.row; col = c.args.col; item = c.args.item }) c.requires.row c.requires.col
    c.requires.room t.vacant t.len t.capacity t.rows t.cols in
    came.0

pub returns-clause-new : goal.returns-clause-new
returns-clause-new g c = ap (λ m. map.get m.nodes (node_named c.add_ahead-number.result)) (sym c.self.view_is) ∙ get-nodes c.self.inside.cells (node_named c.add_ahead-number.result) ∙ ap seat_of c.add_ahead-number.ensures.vacant

pub returns-clause-inserted : goal.returns-clause-inserted
returns-clause-inserted g c =
    let t = c.add_ahead-number.ensures in
    let came =
    came_ahead c.self.inside.cells c.add_ahead-number.new.cells c.self.inside.promised c.self.invariant c.args.self.now c.self.view_is (node_named c.add_ahead-number.result) (record { row = c.args.row; col = c.args.col; item = c.args.item }) c.requires.row c.requires.col
    c.requires.room t.vacant t.len t.capacity t.rows t.cols in
    came.1

pub returns-clause-rings : goal.returns-clause-rings
returns-clause-rings g c = let w = invariant_of-self g c in rings_hold c.add_ahead-number.new.cells c.self.inside.promised w.sound
