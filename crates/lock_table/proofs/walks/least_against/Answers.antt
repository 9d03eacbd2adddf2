use Rattle.std.proofs.Common.{◌<◌, length, sym, ap, ◌∙◌, subst}
use Rattle.link_pool.specs.Rings.{list_in}
use Rattle.lock_table.specs.inner.Nodes.{is_against, lesser}
use Rattle.lock_table.specs.inner.Walks.{ahead}
use Rattle.lock_table.proofs.Walking.{Gathers, gather_begins, gather_on, gather_ends, stands, next_shorter}
use Rattle.lock_table.proofs.walks.least_against.Goals as goal

pub loop-next-init : goal.loop-next-init
loop-next-init c = gather_begins c.args.pool.now c.args.row (is_against c.args.owner c.args.mode) c.first_of_row_uncounted-next.result c.first_of_row_uncounted-next.ensures

pub item-requires : goal.item-requires
item-requires c = stands c.args.pool.now c.args.row c.rings_hold.ensures.rings c.in-Some.node (subst (Gathers c.args.pool.now c.args.row (is_against c.args.owner c.args.mode) c.loop-next.least) c.in-Some.is c.loop-next.invariant).next_is

pub next_in_row_uncounted-next-requires : goal.next_in_row_uncounted-next-requires
next_in_row_uncounted-next-requires c = stands c.args.pool.now c.args.row c.rings_hold.ensures.rings c.in-Some.node (subst (Gathers c.args.pool.now c.args.row (is_against c.args.owner c.args.mode) c.loop-next.least) c.in-Some.is c.loop-next.invariant).next_is

pub loop-next-smaller : goal.loop-next-smaller
loop-next-smaller c =
    subst (λ o. length (ahead c.next_in_row_uncounted-next.result (list_in c.args.pool.now.rows c.args.row)) < length (ahead o (list_in c.args.pool.now.rows c.args.row))) (sym c.in-Some.is)
    (next_shorter c.args.pool.now c.args.row c.rings_hold.ensures.rings c.in-Some.node (subst (Gathers c.args.pool.now c.args.row (is_against c.args.owner c.args.mode) c.loop-next.least) c.in-Some.is c.loop-next.invariant).next_is c.next_in_row_uncounted-next.result c.next_in_row_uncounted-next.ensures)

pub loop-next-preserved : goal.loop-next-preserved
loop-next-preserved c =
    gather_on c.args.pool.now c.args.row (is_against c.args.owner c.args.mode) c.rings_hold.ensures.rings c.in-Some.node c.item.result.now c.item.ensures c.next_in_row_uncounted-next.result c.next_in_row_uncounted-next.ensures
    c.loop-next.least c.lesser-least.result (subst (Gathers c.args.pool.now c.args.row (is_against c.args.owner c.args.mode) c.loop-next.least) c.in-Some.is c.loop-next.invariant) (c.lesser-least.ensures ∙ ap (lesser c.loop-next.least) c.against.ensures)

pub returns : goal.returns
returns c = gather_ends c.args.pool.now c.args.row (is_against c.args.owner c.args.mode) c.loop-next.least (subst (Gathers c.args.pool.now c.args.row (is_against c.args.owner c.args.mode) c.loop-next.least) c.in_default.is c.loop-next.invariant)
