use Rattle.std.proofs.Common.{◌≡◌, ◌↔◌, IsTrue, Any, rules}
use Rattle.psdl_tokens.proofs.Tables.{contained_of}
use Rattle.psdl_tokens.proofs.names.is_in.Goals as goal

pub returns : goal.returns
returns c =
    let some : IsTrue c.any.result ↔ Any (λ entry. entry.now ≡ c.args.word.now) c.args.table.now = search rules in
    contained_of c.args.word.now c.args.table.now c.any.result some
