use Rattle.std.proofs.Common.{sym, ◌∙◌}
use Rattle.schema_names.proofs.Leading.{not_yet, at_last, as_long}
use Rattle.schema_names.proofs.provided.first_called.Goals as goal

pub returns-then-is_called : goal.returns-then-is_called
returns-then-is_called c = at_last c.args.list.now c.args.word.now c.loop-place.place (rw c.parts.ensures (as_long c.parts.result.scopes.now c.parts.result.provisions.now c.loop-place.place c.loop-place-test.true)) c.loop-place.invariant (sym c.is_called.ensures ∙ c.if-is_called.true)

pub loop-place-preserved : goal.loop-place-preserved
loop-place-preserved c = not_yet c.args.list.now c.args.word.now c.loop-place.place (rw c.parts.ensures (as_long c.parts.result.scopes.now c.parts.result.provisions.now c.loop-place.place c.loop-place-test.true)) c.loop-place.invariant (sym c.is_called.ensures ∙ c.if-is_called.false)
