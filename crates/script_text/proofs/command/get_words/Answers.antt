use Rattle.script_text.specs.inner.Seen.{seen, seen_word}
use Rattle.script_text.proofs.Reading.{get_row}
use Rattle.script_text.proofs.command.get_words.Goals as goal

pub returns : goal.returns
returns c =
    get_row (seen c.args.tail) (seen_word c.in_ok-s.s) (seen_word c.in_ok-found.found.word) (seen_word c.in_ok-member.member) c.in_ok-found.found.entry
    c.in_ok-s.ensures.word c.in_ok-s.ensures.name c.in_ok-found.ensures.word c.in_ok-found.ensures.entry c.in_ok-member.ensures.word c.in_ok-member.ensures.last
