use Rattle.std.proofs.Common.{rules, length, map, refl}
use Rattle.std.proofs.lemmas.Result.{err_from_is_err_and}
use Rattle.part_readers.specs.Reading.{many}
use Rattle.part_readers.proofs.Loops.{pushed_on, stops, no_more, is_done}
use Rattle.psdl_syntax.specs.Seen.{seen}
use Rattle.psdl_syntax.specs.Lists.{begins}
use Rattle.psdl_syntax.proofs.read.lists.parts_of.Goals as goal

pub returns-then-not-is_part_here : goal.returns-then-not-is_part_here
returns-then-not-is_part_here g c = no_more (begins c.args.start) (g.P.Part.part_at c.args.depth) (map g.P.Part.part_view c.loop.parts.items) (length c.args.tokens.now) c.loop.counter (map seen c.loop.rest.now) (many (begins c.args.start) (g.P.Part.part_at c.args.depth) (map seen c.args.tokens.now)) (search rules) c.loop.invariant

pub returns-in_err-part : goal.returns-in_err-part
returns-in_err-part g c =
    let p = err_from_is_err_and c.from_residual.result c.from_residual.ensures.1 in
    rw (p.1, p.2) (stops c.in_err-part.field-0.0 (begins c.args.start) (g.P.Part.part_at c.args.depth) (map g.P.Part.part_view c.loop.parts.items) (length c.args.tokens.now) c.loop.counter (map seen c.loop.rest.now) (many (begins c.args.start) (g.P.Part.part_at c.args.depth) (map seen c.args.tokens.now)) c.loop-test.true (search rules) c.in_err-part.ensures c.loop.invariant)

pub loop-preserved : goal.loop-preserved
loop-preserved g c = pushed_on g.P.Part.part_view (begins c.args.start) (g.P.Part.part_at c.args.depth) _ _ _ (length c.args.tokens.now) c.loop.counter (map seen c.loop.rest.now) (g.P.Part.part_view c.in_ok-part.part) (map seen c.in_ok-part.after.now) (many (begins c.args.start) (g.P.Part.part_at c.args.depth) (map seen c.args.tokens.now)) c.in_ok-push.ensures.items refl c.loop-test.true (search rules) c.in_ok-part.ensures c.loop.invariant

pub returns : goal.returns
returns g c = is_done (begins c.args.start) (g.P.Part.part_at c.args.depth) (map g.P.Part.part_view c.loop.parts.items) (length c.args.tokens.now) c.loop.counter (map seen c.loop.rest.now) (many (begins c.args.start) (g.P.Part.part_at c.args.depth) (map seen c.args.tokens.now)) c.loop-test.false c.loop.invariant
