use Rattle.std.proofs.Common.{◌+◌, arith}
use Rattle.script_text.proofs.WordLaws.{one_found}
use Rattle.script_text.proofs.FrontLaws.{entry_end}
use Rattle.script_text.proofs.parts.one_entry.Goals as goal

pub returns-clause-word : goal.returns-clause-word
returns-clause-word c =
    let at = entry_end c.in_ok-behind.behind.now c.in_ok-digits.digits.now c.in_ok-number.number c.in_ok-digits.ensures c.in_ok-number.ensures in
    let found = one_found c.args.tail.column c.args.tail.text.now c.in_ok-behind.behind.now (c.in_ok-number.number.len + 1) c.in_ok-behind.ensures at (λ none. omega (arith, none)) in
    rw (c.split_at.ensures.front, c.split_at.ensures.back) found
