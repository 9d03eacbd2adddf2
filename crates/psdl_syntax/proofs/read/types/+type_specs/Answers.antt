use Rattle.std.proofs.Common.{rules, map, option_map}
use Rattle.std.proofs.lemmas.Result.{err_from_is_err_and}
use Rattle.part_readers.proofs.Loops.{first_fails, second_fails, both_gives}
use Rattle.psdl_syntax.specs.Seen.{seen}
use Rattle.psdl_tree.specs.Views.{expression_view, plain_type_view, type_spec_view}
use Rattle.psdl_syntax.specs.Productions.{sequence_inner_at, type_spec_at, comma_bound_at}
use Rattle.psdl_syntax.proofs.Sequences.{sequence_view, plain_view}
use Rattle.psdl_syntax.proofs.SpecParts.{sequence_gives, word_fails, open_fails, inner_fails, close_fails, spec_gives, spec_fails, plain_gives, plain_fails}
use Rattle.psdl_syntax.proofs.read.types.+type_specs.Goals as goal

pub sequence_inner_of-returns : goal.sequence_inner_of-returns
unfolding sequence_inner_at
sequence_inner_of-returns t c = both_gives (type_spec_at c.args.depth) (comma_bound_at c.args.depth) (map seen c.args.tokens.now) (type_spec_view c.in_ok-item.item) (map seen c.in_ok-item.rest.now) (option_map expression_view c.in_ok-bound.bound) (map seen c.in_ok-bound.rest.now) c.in_ok-item.ensures c.in_ok-bound.ensures

pub sequence_inner_of-returns-in_err-item : goal.sequence_inner_of-returns-in_err-item
unfolding sequence_inner_at
sequence_inner_of-returns-in_err-item t c =
    let p = err_from_is_err_and c.from_residual.result c.from_residual.ensures.1 in
    rw (p.1, p.2) (first_fails c.in_err-item.field-0.0 (type_spec_at c.args.depth) (comma_bound_at c.args.depth) (map seen c.args.tokens.now) c.in_err-item.ensures)

pub sequence_inner_of-returns-in_err-bound : goal.sequence_inner_of-returns-in_err-bound
unfolding sequence_inner_at
sequence_inner_of-returns-in_err-bound t c =
    let p = err_from_is_err_and c.from_residual-in_err-bound.result c.from_residual-in_err-bound.ensures.1 in
    rw (p.1, p.2) (second_fails c.in_err-bound.field-0.0 (type_spec_at c.args.depth) (comma_bound_at c.args.depth) (map seen c.args.tokens.now) (type_spec_view c.in_ok-item.item) (map seen c.in_ok-item.rest.now) c.in_ok-item.ensures c.in_err-bound.ensures)

pub sequence_of-returns : goal.sequence_of-returns
sequence_of-returns t c =
    rw c.in_ok-inner-2.ensures.kept
    (sequence_gives c.args.depth (map seen c.args.tokens.now) (map seen c.in_ok-rest.rest.now) (map seen c.in_ok-rest-2.rest.now) (map seen c.in_ok-inner.rest.now) (map seen c.in_ok-inner-2.rest.now) (type_spec_view c.in_ok-inner.inner.0, option_map expression_view c.in_ok-inner.inner.1) c.in_ok-rest-2.ensures.room c.in_ok-rest.ensures c.in_ok-rest-2.ensures.read c.in_ok-inner.ensures c.in_ok-inner-2.ensures.sign)

pub sequence_of-returns-in_err-rest : goal.sequence_of-returns-in_err-rest
sequence_of-returns-in_err-rest t c =
    let p = err_from_is_err_and c.from_residual.result c.from_residual.ensures.1 in
    rw (p.1, p.2) (word_fails c.in_err-rest.field-0.0 c.args.depth (map seen c.args.tokens.now) c.in_err-rest.ensures)

pub sequence_of-returns-in_err-rest-2 : goal.sequence_of-returns-in_err-rest-2
sequence_of-returns-in_err-rest-2 t c =
    let p = err_from_is_err_and c.from_residual-in_err-rest-2.result c.from_residual-in_err-rest-2.ensures.1 in
    rw (p.1, p.2) (open_fails c.in_err-rest-2.field-0.0 c.args.depth (map seen c.args.tokens.now) (map seen c.in_ok-rest.rest.now) c.in_ok-rest.ensures c.in_err-rest-2.ensures.read)

pub sequence_of-returns-in_err-inner : goal.sequence_of-returns-in_err-inner
sequence_of-returns-in_err-inner t c =
    let p = err_from_is_err_and c.from_residual-in_err-inner.result c.from_residual-in_err-inner.ensures.1 in
    rw (p.1, p.2) (inner_fails c.in_err-inner.field-0.0 c.args.depth (map seen c.args.tokens.now) (map seen c.in_ok-rest.rest.now) (map seen c.in_ok-rest-2.rest.now) c.in_ok-rest-2.ensures.room c.in_ok-rest.ensures c.in_ok-rest-2.ensures.read c.in_err-inner.ensures)

pub sequence_of-returns-in_err-inner-2 : goal.sequence_of-returns-in_err-inner-2
sequence_of-returns-in_err-inner-2 t c =
    let p = err_from_is_err_and c.from_residual-in_err-inner-2.result c.from_residual-in_err-inner-2.ensures.1 in
    rw (p.1, p.2) (close_fails c.in_err-inner-2.field-0.0 c.args.depth (map seen c.args.tokens.now) (map seen c.in_ok-rest.rest.now) (map seen c.in_ok-rest-2.rest.now) (map seen c.in_ok-inner.rest.now) (type_spec_view c.in_ok-inner.inner.0, option_map expression_view c.in_ok-inner.inner.1) c.in_ok-rest-2.ensures.room c.in_ok-rest.ensures c.in_ok-rest-2.ensures.read c.in_ok-inner.ensures c.in_err-inner-2.ensures.sign)

pub type_spec_of-returns-then-at_keyword : goal.type_spec_of-returns-then-at_keyword
type_spec_of-returns-then-at_keyword t c =
    rw (sequence_view c.in_ok-new.field-0 c.in_ok-item.bound, c.in_ok-new.ensures.ok)
    (spec_gives c.args.depth (map seen c.args.tokens.now) (map seen c.in_ok-item.rest.now) (type_spec_view c.in_ok-item.item) (option_map expression_view c.in_ok-item.bound) (search rules) c.in_ok-item.ensures)

pub type_spec_of-returns-in_err-item : goal.type_spec_of-returns-in_err-item
type_spec_of-returns-in_err-item t c =
    let p = err_from_is_err_and c.from_residual.result c.from_residual.ensures.1 in
    rw (p.1, p.2) (spec_fails c.in_err-item.field-0.0 c.args.depth (map seen c.args.tokens.now) (search rules) c.in_err-item.ensures)

pub type_spec_of-returns : goal.type_spec_of-returns
type_spec_of-returns t c =
    rw (plain_view c.in_ok-plain.plain)
    (plain_gives c.args.depth (map seen c.args.tokens.now) (map seen c.in_ok-plain.rest.now) (plain_type_view c.in_ok-plain.plain) (search rules) c.in_ok-plain.ensures)

pub type_spec_of-returns-in_err-plain : goal.type_spec_of-returns-in_err-plain
type_spec_of-returns-in_err-plain t c =
    let p = err_from_is_err_and c.from_residual-in_err-plain.result c.from_residual-in_err-plain.ensures.1 in
    rw (p.1, p.2) (plain_fails c.in_err-plain.field-0.0 c.args.depth (map seen c.args.tokens.now) (search rules) c.in_err-plain.ensures)
