-- Replies that are counted.
use Rattle.std.specs.Prelude.{ℕ, ◌+◌, List, [], ◌∷◌, ◌++◌, codes, decimal, Bool, true, false, None, Some, if◌then◌else◌}
use Rattle.std.specs.declared.option.Option.{Option}
use Rattle.pss_machine.specs.declared.reply.Reply.{Reply}
use Rattle.pss_machine.specs.declared.reply.Reply.TheVariants as reply
use Rattle.people_demo.specs.declared.tally.Tally.{Tally}
use Rattle.people_demo.specs.Lines.{numbered}

-- the text of the reply begins with `OK`
abbrev pub is_ok : Reply → Bool
is_ok reply.Done = true
is_ok (reply.Entry entry pid) = true
is_ok (reply.Reference pid) = true
is_ok (reply.PidAndShort pid) = true
is_ok (reply.Val value) = true
is_ok (reply.Truth truth) = true
is_ok (reply.Count count) = true
is_ok (reply.State state) = true
is_ok (reply.HomeFound home name) = true
is_ok (reply.List count pids) = true
is_ok (reply.Stat sessions transactions entries attached bodies locks commits objects) = true
is_ok (reply.History commits members) = true
is_ok _ = false

-- the number that a reply tells, if it tells one
abbrev pub count_in : Reply → ℕ
count_in (reply.Count count) = count
count_in _ = 0

abbrev pub no_tally : Tally
no_tally = record { replies = 0; ok = 0; count = 0 }

abbrev pub with_reply : Tally → Reply → Tally
with_reply tally r = record { replies = tally.replies + 1; ok = tally.ok + (if is_ok r then 1 else 0); count = count_in r }

abbrev pub with_answer : Tally → Option Reply → Tally
with_answer tally None = tally
with_answer tally (Some r) = with_reply tally r

-- the replies to lines, counted
abbrev pub counted_from : Tally → List Reply → Tally
counted_from tally [] = tally
counted_from tally (r ∷ rs) = counted_from (with_reply tally r) rs

abbrev pub tally_of : List Reply → Tally
tally_of replies = counted_from no_tally replies

-- how many rounds and replies there were, and how many of these begin with `OK`
abbrev pub replies_part : ℕ → Tally → List ℕ
replies_part rounds tally = numbered (codes "demo rounds ") rounds ++ (numbered (codes " replies ") tally.replies ++ numbered (codes " ok ") tally.ok)

-- how many people are counted
abbrev pub count_part : ℕ → List ℕ
count_part count = codes " count " ++ decimal count ++ 10 ∷ []

-- what is spoken of so many rounds
abbrev pub demo_line : ℕ → Tally → List ℕ
demo_line rounds tally = replies_part rounds tally ++ count_part tally.count
