use Rattle.script_text.proofs.CommandLaws as laws
use Rattle.script_text.proofs.laws.lines_say_one_thing.Goals as goal

pub returns : goal.returns
returns c = laws.lines_say_one_thing
