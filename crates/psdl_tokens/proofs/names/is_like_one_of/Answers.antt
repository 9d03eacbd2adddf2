use Rattle.std.proofs.Common.{◌↔◌, IsTrue, Any, rules}
use Rattle.psdl_tokens.specs.Names.{SameButForCase}
use Rattle.psdl_tokens.specs.Spellings.{keyword_spelling}
use Rattle.psdl_tokens.proofs.Tables.{any_of}
use Rattle.psdl_tokens.proofs.names.is_like_one_of.Goals as goal

pub returns : goal.returns
returns c =
    let some : IsTrue c.any.result ↔ Any (λ keyword. SameButForCase c.args.word.now (keyword_spelling keyword)) c.args.table.now = search rules in
    any_of keyword_spelling (SameButForCase c.args.word.now) c.args.table.now c.any.result some
