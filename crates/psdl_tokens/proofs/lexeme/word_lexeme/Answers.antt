use Rattle.std.proofs.Common.{◌≡◌, None, sym, ◌∙◌}
use Rattle.psdl_tokens.specs.Spellings.{keyword_of}
use Rattle.psdl_tokens.proofs.Wording.{keyword_test, left_out_test, word-miscased, word-left_out, word-identifier}
use Rattle.psdl_tokens.proofs.lexeme.word_lexeme.Goals as goal

pub returns-then-is_keyword-clause-lexeme : goal.returns-then-is_keyword-clause-lexeme
returns-then-is_keyword-clause-lexeme c =
    let none : keyword_of c.args.word.now ≡ None = sym c.keyword_of.ensures ∙ c.in_default.is in
    word-miscased c.args.word.now none (keyword_test _ c.is_keyword.result c.is_keyword.ensures ∙ c.if-is_keyword.true)

pub returns-then-is_left_out-clause-lexeme : goal.returns-then-is_left_out-clause-lexeme
returns-then-is_left_out-clause-lexeme c =
    let none : keyword_of c.args.word.now ≡ None = sym c.keyword_of.ensures ∙ c.in_default.is in
    word-left_out c.args.word.now none
    (keyword_test _ c.is_keyword.result c.is_keyword.ensures ∙ c.if-is_keyword.false)
    (left_out_test _ c.is_left_out.result c.is_left_out.ensures ∙ c.if-is_left_out.true)

pub returns-clause-lexeme : goal.returns-clause-lexeme
returns-clause-lexeme c =
    let none : keyword_of c.args.word.now ≡ None = sym c.keyword_of.ensures ∙ c.in_default.is in
    word-identifier c.args.word.now c.in_ok-from_slice.field-0 none
    (keyword_test _ c.is_keyword.result c.is_keyword.ensures ∙ c.if-is_keyword.false)
    (left_out_test _ c.is_left_out.result c.is_left_out.ensures ∙ c.if-is_left_out.false)
    c.in_ok-from_slice.ensures
