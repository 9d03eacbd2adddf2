use Rattle.std.proofs.Common.{◌+◌, arith}
use Rattle.psdl_tokens.proofs.Placing.{place_within}
use Rattle.psdl_tokens.proofs.cursor.place_behind.Goals as goal

pub behind-place-requires-clause-column : goal.behind-place-requires-clause-column
behind-place-requires-clause-column c =
    omega (arith, (place_within c.loop-byte.place c.args.text.now (c.args.place.offset + c.loop-byte.byte-index) c.loop-byte.invariant).column)
