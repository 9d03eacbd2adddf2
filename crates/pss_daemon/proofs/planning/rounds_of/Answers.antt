use Rattle.std.proofs.Common.{◌≡◌, ◌∙◌, sym, ap, arith, get_or}
use Rattle.std.proofs.lemmas.Bool.{false≢true}
use Rattle.pss_daemon.proofs.Rounds.{decimal_begins, decimal_is_text, decimal_is_read, read_is_decimal}
use Rattle.pss_daemon.proofs.planning.rounds_of.Goals as goal

pub returns-then-not-begins_above_zero : goal.returns-then-not-begins_above_zero
returns-then-not-begins_above_zero c = λ rounds low high e.
    false≢true (c.if-not-begins_above_zero.ensures.1 (decimal_begins c.args.word.now rounds low high e))

pub returns-in_default : goal.returns-in_default
returns-in_default c = λ rounds low high e.
    c.in_default.ensures.cases.0 (decimal_is_text c.args.word.now rounds high e)

pub returns-in_default-parse : goal.returns-in_default-parse
returns-in_default-parse c = λ rounds low high e.
    c.in_default-parse.not-Ok rounds
    (decimal_is_read c.in-Ok.text.now rounds c.parse.result high (c.in-Ok.ensures.cases.0 ∙ e) c.parse.ensures.value.0)

pub returns-then-rounds-gt-MOST_ROUNDS : goal.returns-then-rounds-gt-MOST_ROUNDS
returns-then-rounds-gt-MOST_ROUNDS c = λ rounds low high e.
    let read = decimal_is_read c.in-Ok.text.now rounds c.parse.result high (c.in-Ok.ensures.cases.0 ∙ e) c.parse.ensures.value.0 in
    let same : c.in-Ok-parse.rounds ≡ rounds = cc (sym c.in-Ok-parse.is ∙ read) in
    omega (arith, same)

pub returns : goal.returns
returns c =
    let begins = c.begins_above_zero.ensures.0 c.if-not-begins_above_zero.false in
    let text : c.in-Ok.text.now ≡ c.args.word.now = c.in-Ok.ensures.cases.0 in
    let first : get_or c.in-Ok.text.now 0 0 ≡ get_or c.args.word.now 0 0 = ap (λ w. get_or w 0 0) text in
    let is = read_is_decimal c.in-Ok.text.now c.in-Ok-parse.rounds c.parse.result c.in-Ok-parse.is c.parse.ensures.value.0 (omega (arith, begins.0, first)) in
    (is.0, c.if-rounds-gt-MOST_ROUNDS.false, sym text ∙ is.1)
