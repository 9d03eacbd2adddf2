use Rattle.std.proofs.Common.{rules, true, ◌≡◌, length, map, refl}
use Rattle.std.proofs.lemmas.Result.{err_from_is_err_and}
use Rattle.part_readers.specs.Reading.{starts, many}
use Rattle.part_readers.proofs.Loops.{pushed_on, stops, no_more, is_done}
use Rattle.psdl_tokens.specs.declared.token.Keyword.TheVariants as keywords
use Rattle.psdl_syntax.specs.Seen.{seen}
use Rattle.psdl_tree.specs.Views.{definition_view}
use Rattle.psdl_syntax.specs.Productions.{is_inside, definition_at, body_with, is_word}
use Rattle.psdl_syntax.proofs.Rolled.{module_rolled}
use Rattle.psdl_syntax.proofs.read.definitions.+definitions.Goals as goal

pub definitions_of-returns-then-not-before_brace : goal.definitions_of-returns-then-not-before_brace
definitions_of-returns-then-not-before_brace t c = no_more is_inside (definition_at c.args.depth) (map definition_view c.loop.items.items) (length c.args.tokens.now) c.loop.counter (map seen c.loop.rest.now) (many is_inside (definition_at c.args.depth) (map seen c.args.tokens.now)) (search rules) c.loop.invariant

pub definitions_of-returns-in_err-item : goal.definitions_of-returns-in_err-item
definitions_of-returns-in_err-item t c =
    let p = err_from_is_err_and c.from_residual.result c.from_residual.ensures.1 in
    rw (p.1, p.2) (stops c.in_err-item.field-0.0 is_inside (definition_at c.args.depth) (map definition_view c.loop.items.items) (length c.args.tokens.now) c.loop.counter (map seen c.loop.rest.now) (many is_inside (definition_at c.args.depth) (map seen c.args.tokens.now)) c.loop-test.true (search rules) c.in_err-item.ensures c.loop.invariant)

pub definitions_of-loop-preserved : goal.definitions_of-loop-preserved
definitions_of-loop-preserved t c = pushed_on definition_view is_inside (definition_at c.args.depth) _ _ _ (length c.args.tokens.now) c.loop.counter (map seen c.loop.rest.now) (definition_view c.in_ok-item.item) (map seen c.in_ok-item.after.now) (many is_inside (definition_at c.args.depth) (map seen c.args.tokens.now)) c.in_ok-push.ensures.items refl c.loop-test.true (search rules) c.in_ok-item.ensures c.loop.invariant

pub definitions_of-returns : goal.definitions_of-returns
definitions_of-returns t c = is_done is_inside (definition_at c.args.depth) (map definition_view c.loop.items.items) (length c.args.tokens.now) c.loop.counter (map seen c.loop.rest.now) (many is_inside (definition_at c.args.depth) (map seen c.args.tokens.now)) c.loop-test.false c.loop.invariant

pub body_of-returns-then-at_keyword : goal.body_of-returns-then-at_keyword
unfolding body_with
body_of-returns-then-at_keyword t c =
    let goes : starts (is_word keywords.Module) (map seen c.args.tokens.now) ≡ true = search rules in
    rw (module_rolled c.in_ok-name.name c.in_ok-name.definitions, goes, c.in_ok-name.ensures) refl
