use Rattle.std.proofs.Common.{length, sym, ◌∙◌}
use Rattle.script_text.proofs.WordLaws.{one_found, whole_word}
use Rattle.script_text.proofs.words.last_word.Goals as goal

pub returns-clause-word : goal.returns-clause-word
returns-clause-word c =
    let behind = c.in_ok-behind.behind.now in
    let at = whole_word behind (sym c.has_blank.ensures ∙ c.if-has_blank.false) in
    let found = one_found c.args.tail.column c.args.tail.text.now behind (length behind) c.in_ok-behind.ensures at c.if-len-eq0.false in
    rw (c.split_at.ensures.front, c.split_at.ensures.back) found
