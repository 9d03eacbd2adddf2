use Rattle.std.proofs.Common.{sym}
use Rattle.psdl_tokens.proofs.Stringing.{read_more}
use Rattle.psdl_tokens.proofs.quoted.string_in.Goals as goal

pub loop-at-preserved : goal.loop-at-preserved
loop-at-preserved c =
    rw c.in_ok-push.ensures.ok
    (read_more c.args.rest.now c.loop-at.at c.loop-at.bytes c.in-Some.character c.loop-at.invariant c.loop-at-test.true
    c.if-rest-at-eq34.false (sym c.in-Some.ensures.character) c.in-Some.ensures.size.0)
