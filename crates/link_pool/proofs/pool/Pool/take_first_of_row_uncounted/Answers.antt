use Rattle.std.proofs.Common.{◌≡◌, refl, sym, ap, ◌∙◌, subst}
use Rattle.std.specs.Prelude.{MatchOption, IsSomeAnd}
use Rattle.std.specs.Option.{option_map, option_and_then}
use Rattle.std.specs.FinMap as map
use Rattle.link_pool.specs.Meaning.{unlinked, col_and_item, AreRings}
use Rattle.link_pool.specs.Cells.{meaning_of}
use Rattle.link_pool.specs.declared.cells.Side.TheVariants.{Rows}
use Rattle.link_pool.proofs.Settled.{rings_hold}
use Rattle.link_pool.proofs.Told.{row_found, first_seated, first_of_row_told, seat_told}
use Rattle.link_pool.proofs.Whole.{unlinked_whole, unlinked_told}
use Rattle.link_pool.proofs.pool.Pool.take_first_of_row_uncounted.Goals as goal

pub first_of-requires-clause-head : goal.first_of-requires-clause-head
first_of-requires-clause-head g c = row_found c.self.inside.cells c.self.inside.promised c.args.self.now c.self.view_is c.args.row c.requires

pub returns-in_err-node-clause-answer : goal.returns-in_err-node-clause-answer
returns-in_err-node-clause-answer g c = c.from_residual.ensures ∙ ap (λ o. option_map col_and_item (option_and_then (map.get c.args.self.now.nodes) o)) (sym (first_of_row_told c.self.inside.cells c.self.inside.promised c.args.self.now c.self.view_is c.args.row c.requires c.first_of.result c.first_of.ensures ∙ c.in_err-node.was))

pub returns-in_err-node-clause-unlinked : goal.returns-in_err-node-clause-unlinked
returns-in_err-node-clause-unlinked g c = subst (λ o. MatchOption o (c.args.self.now ≡ c.args.self.now) (λ node. IsSomeAnd (map.get c.args.self.now.nodes node) (λ seat. c.args.self.now ≡ unlinked c.args.self.now node seat))) (sym (first_of_row_told c.self.inside.cells c.self.inside.promised c.args.self.now c.self.view_is c.args.row c.requires c.first_of.result c.first_of.ensures ∙ c.in_err-node.was)) refl

pub returns-in_err-node-clause-rings : goal.returns-in_err-node-clause-rings
returns-in_err-node-clause-rings g c = subst AreRings c.self.view_is (rings_hold c.self.inside.cells c.self.inside.promised c.self.invariant.sound)

pub take_out-item-requires-clause-node : goal.take_out-item-requires-clause-node
take_out-item-requires-clause-node g c =
    first_seated Rows c.self.inside.cells c.self.invariant.sound.rows c.args.row.number (row_found c.self.inside.cells c.self.inside.promised c.args.self.now c.self.view_is c.args.row c.requires) c.in_ok-node.node (sym c.first_of.ensures ∙ c.in_ok-node.was)

pub invariant_of-self : goal.invariant_of-self
invariant_of-self g c = unlinked_whole c.self.inside.cells c.take_out-item.new.cells c.self.inside.promised c.self.invariant c.take_out-item.ensures.capacity c.in_ok-node.node c.take_out-item.result c.take_out-item.ensures.seat c.take_out-item.ensures.rows c.take_out-item.ensures.cols c.take_out-item.ensures.len

pub returns-clause-answer : goal.returns-clause-answer
returns-clause-answer g c =
    sym (ap (λ o. option_map col_and_item (option_and_then (map.get c.args.self.now.nodes) o)) (first_of_row_told c.self.inside.cells c.self.inside.promised c.args.self.now c.self.view_is c.args.row c.requires c.first_of.result c.first_of.ensures ∙ c.in_ok-node.was) ∙ ap (option_map col_and_item) (seat_told c.self.inside.cells c.self.inside.promised c.args.self.now c.self.view_is c.in_ok-node.node c.take_out-item.result c.take_out-item.ensures.seat))

pub returns-clause-unlinked : goal.returns-clause-unlinked
returns-clause-unlinked g c =
    subst (λ o. MatchOption o (meaning_of c.take_out-item.new.cells c.self.inside.promised ≡ c.args.self.now) (λ node. IsSomeAnd (map.get c.args.self.now.nodes node) (λ seat. meaning_of c.take_out-item.new.cells c.self.inside.promised ≡ unlinked c.args.self.now node seat))) (sym (first_of_row_told c.self.inside.cells c.self.inside.promised c.args.self.now c.self.view_is c.args.row c.requires c.first_of.result c.first_of.ensures ∙ c.in_ok-node.was))
    (unlinked_told c.self.inside.cells c.take_out-item.new.cells c.self.inside.promised c.self.invariant c.take_out-item.ensures.capacity c.in_ok-node.node c.take_out-item.result c.take_out-item.ensures.seat c.take_out-item.ensures.rows c.take_out-item.ensures.cols c.take_out-item.ensures.len c.args.self.now c.self.view_is)

pub returns-clause-rings : goal.returns-clause-rings
returns-clause-rings g c =
    let w = unlinked_whole c.self.inside.cells c.take_out-item.new.cells c.self.inside.promised c.self.invariant c.take_out-item.ensures.capacity c.in_ok-node.node c.take_out-item.result c.take_out-item.ensures.seat c.take_out-item.ensures.rows c.take_out-item.ensures.cols c.take_out-item.ensures.len in
    rings_hold c.take_out-item.new.cells c.self.inside.promised w.sound
