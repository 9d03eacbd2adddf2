-- The verb that a word may be, by its length and its first byte, and by its third where two verbs have these.
use Rattle.std.specs.Prelude.{ℕ, List, length, Option, Some, None, ◌==◌, slice_index, if◌then◌else◌}
use Rattle.script_text.specs.declared.verb.AloneVerb.TheVariants.{Checkpoint, Stat, History}
use Rattle.script_text.specs.declared.verb.SessionVerb.TheVariants.{Close, Suspend, Status, FreeAll, Flush, Refresh}
use Rattle.script_text.specs.declared.verb.TransactionVerb.TheVariants.{Commit, Rollback}
use Rattle.script_text.specs.declared.verb.HomeVerb.TheVariants.{Home, Count, List as Lists}
use Rattle.script_text.specs.declared.verb.KeyVerb.TheVariants.{Make, Find, FindRef}
use Rattle.script_text.specs.declared.verb.EntryVerb.TheVariants.{Exists, Destroy, PidOf, Dup, Release}
use Rattle.script_text.specs.declared.verb.MemberVerb.TheVariants.{Get, Follow}
use Rattle.script_text.specs.declared.verb.Verb.{Verb}
use Rattle.script_text.specs.declared.verb.Verb.TheVariants as verb

abbrev pub of_three : ℕ → Option Verb
of_three first =
    if first == 100 then Some (verb.Entry Dup)
    else if first == 101 then Some verb.End
    else if first == 103 then Some (verb.Member Get)
    else if first == 112 then Some verb.Pid
    else if first == 115 then Some verb.Set
    else None

abbrev pub of_four : ℕ → Option Verb
of_four first =
    if first == 102 then Some (verb.Key Find)
    else if first == 104 then Some (verb.Home Home)
    else if first == 108 then Some (verb.Home Lists)
    else if first == 109 then Some (verb.Key Make)
    else if first == 111 then Some verb.Open
    else if first == 115 then Some (verb.Alone Stat)
    else None

abbrev pub of_five : ℕ → ℕ → Option Verb
of_five first third =
    if first == 98 then Some verb.Begin
    else if first == 99 then (if third == 111 then Some (verb.Session Close) else Some (verb.Home Count))
    else if first == 102 then Some (verb.Session Flush)
    else if first == 112 then Some (verb.Entry PidOf)
    else if first == 115 then (if third == 97 then Some verb.Start else Some verb.Short)
    else None

abbrev pub of_six : ℕ → ℕ → Option Verb
of_six first third =
    if first == 99 then (if third == 109 then Some (verb.Transaction Commit) else Some verb.Create)
    else if first == 101 then Some (verb.Entry Exists)
    else if first == 102 then Some (verb.Member Follow)
    else if first == 115 then Some (verb.Session Status)
    else None

abbrev pub of_seven : ℕ → ℕ → Option Verb
of_seven first third =
    if first == 100 then Some (verb.Entry Destroy)
    else if first == 102 then (if third == 110 then Some (verb.Key FindRef) else Some (verb.Session FreeAll))
    else if first == 104 then Some (verb.Alone History)
    else if first == 114 then (if third == 108 then Some (verb.Entry Release) else Some (verb.Session Refresh))
    else if first == 115 then Some (verb.Session Suspend)
    else None

abbrev pub by_length : ℕ → ℕ → ℕ → Option Verb
by_length len first third =
    if len == 3 then of_three first
    else if len == 4 then of_four first
    else if len == 5 then of_five first third
    else if len == 6 then of_six first third
    else if len == 7 then of_seven first third
    else if len == 8 then Some (verb.Transaction Rollback)
    else if len == 10 then Some (verb.Alone Checkpoint)
    else None

abbrev pub likely : List ℕ → Option Verb
likely word = by_length (length word) (slice_index word 0) (slice_index word 2)
