use Rattle.std.proofs.Common.{refl, Ok, Err, Some}
use Rattle.std.proofs.lemmas.Result.{err_from_is_err_and}
use Rattle.script_text.specs.Words.{words_in}
use Rattle.script_text.specs.inner.Seen.{seen, seen_word}
use Rattle.script_text.proofs.Reading.{command_said, fault_said, tells_exactly}
use Rattle.script_text.proofs.command.read_command.Goals as goal

pub returns-in_err-read_from-clause-reads : goal.returns-in_err-read_from-clause-reads
returns-in_err-read_from-clause-reads c =
    let p = err_from_is_err_and c.from_residual.result c.from_residual.ensures.1 in
    let said =
    fault_said c.args.line.now (seen_word c.in-Some.word) (words_in (seen c.in-Some.word.rest)) c.in_err-read_from.field-0.0.column c.in-Some.ensures.first (c.in-Some.ensures.loud refl) c.in_err-read_from.ensures in
    rw (p.1, p.2) (tells_exactly c.args.line.now (Err c.in_err-read_from.field-0.0) said)

pub returns-clause-reads : goal.returns-clause-reads
returns-clause-reads c =
    tells_exactly c.args.line.now (Ok (Some c.in_ok-read_from.field-0))
    (command_said c.args.line.now (seen_word c.in-Some.word) (words_in (seen c.in-Some.word.rest)) c.in_ok-read_from.field-0 c.in-Some.ensures.first (c.in-Some.ensures.loud refl) c.in_ok-read_from.ensures)
