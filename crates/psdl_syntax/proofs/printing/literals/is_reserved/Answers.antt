use Rattle.std.proofs.Common.{◌≡◌, true, false, refl}
use Rattle.psdl_tokens.specs.Lexis.{is_keyword_like, is_left_out}
use Rattle.psdl_tokens.proofs.Wording.{keyword_test, left_out_test}
use Rattle.psdl_syntax.proofs.printing.literals.is_reserved.Goals as goal

pub returns-then-is_keyword : goal.returns-then-is_keyword
returns-then-is_keyword c =
    let k : is_keyword_like c.args.name.now ≡ c.is_keyword.result = keyword_test _ c.is_keyword.result c.is_keyword.ensures in
    let t : c.is_keyword.result ≡ true = c.if-is_keyword.true in
    rw (k, t) refl

pub returns-else-is_keyword : goal.returns-else-is_keyword
returns-else-is_keyword c =
    let k : is_keyword_like c.args.name.now ≡ c.is_keyword.result = keyword_test _ c.is_keyword.result c.is_keyword.ensures in
    let f : c.is_keyword.result ≡ false = c.if-is_keyword.false in
    let o : is_left_out c.args.name.now ≡ c.is_left_out.result = left_out_test _ c.is_left_out.result c.is_left_out.ensures in
    rw (k, f, o) refl
