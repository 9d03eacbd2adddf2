use Rattle.type_layout.specs.Views.{plain_value}
use Rattle.data_calls.proofs.Tellings.{of_member}
use Rattle.data_calls.proofs.telling.print_seen.Goals as goal

pub append_text-requires : goal.append_text-requires
append_text-requires c =
    let s = c.in-Some.seen in
    of_member c.args.parts.now c.requires.kept c.requires.at c.args.name.now c.args.entry c.args.word.now s.acting s.pid s.member (plain_value s.value.now) (c.in-Some.ensures c.requires.kept c.requires.at)

pub returns-in_ok-append_text-in-Some : goal.returns-in_ok-append_text-in-Some
returns-in_ok-append_text-in-Some c = record { p = c.in-Some.seen.pid; member = c.in-Some.seen.member; value = plain_value c.in-Some.seen.value.now; seen = c.in-Some.ensures; grown = c.in_ok-append_text-in-Some.ensures }
