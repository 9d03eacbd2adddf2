use Rattle.psdl_tokens.proofs.Placing.{place_of-feed, place_of-other}
use Rattle.std.proofs.lemmas.Bool.{ne_eqb}
use Rattle.psdl_tokens.proofs.cursor.behind.Goals as goal

pub returns-then-byte-eq10 : goal.returns-then-byte-eq10
returns-then-byte-eq10 c = λ front e. place_of-feed c.args.place front c.args.byte c.if-byte-eq10.true e

pub returns : goal.returns
returns c = λ front e. place_of-other c.args.place front c.args.byte (ne_eqb c.args.byte 10 c.if-byte-eq10.false) e
