use Rattle.std.proofs.Common.{◌+◌, ◌-◌, length, refl}
use Rattle.script_text.proofs.WordLaws.{next_found, none_found}
use Rattle.script_text.proofs.words.next_word.Goals as goal

pub returns-then-len-eq0 : goal.returns-then-len-eq0
returns-then-len-eq0 c = none_found c.args.tail.column c.args.tail.text.now c.skip_blanks-behind.result.now c.count_word-len.result c.skip_blanks-behind.ensures c.count_word-len.ensures.count c.if-len-eq0.true

pub returns : goal.returns
returns c =
    let at = c.args.tail.column + (length c.args.tail.text.now - length c.skip_blanks-behind.result.now) in
    let found = next_found c.args.tail.column at c.args.tail.text.now c.skip_blanks-behind.result.now c.count_word-len.result c.skip_blanks-behind.ensures c.count_word-len.ensures.count c.if-len-eq0.false refl in
    rw (c.split_at.ensures.front, c.split_at.ensures.back) found
