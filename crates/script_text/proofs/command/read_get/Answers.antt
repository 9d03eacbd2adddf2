use Rattle.script_text.proofs.Reading.{get_line}
use Rattle.script_text.proofs.command.read_get.Goals as goal

pub returns-in-Some : goal.returns-in-Some
returns-in-Some c = get_line c.args.line.now c.in_ok-text.text.now _ c.in_ok-text.ensures.gets c.in_ok-text.ensures.spaced c.in-Some.ensures
