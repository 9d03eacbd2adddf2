-- What a line says, by its first word and the words that each command has behind it.
use Rattle.std.specs.Prelude.{ℕ, List, [], ◌∷◌, length, codes, find, Option, Some, None, Result, Ok, Err, Bool, true, false, ◌&&◌, ◌==◌, not, nat_le, nat_lt, slice_index, if◌then◌else◌}
use Rattle.std.specs.List.{list_all}
use Rattle.std.specs.Char.{is_ascii_digit}
use Rattle.std.specs.Str.{bytes_eq}
use Rattle.std.specs.Str.Parse.{digits_value}
use Rattle.pss_base.specs.declared.pid.Pid.{Pid}
use Rattle.pss_base.specs.PidText.{pid_of, short_pid_of}
use Rattle.pss_machine.specs.declared.command.Rest.{Rest}
use Rattle.pss_machine.specs.declared.command.Command.{Command}
use Rattle.pss_machine.specs.declared.command.Command.TheVariants as command
use Rattle.pss_machine.specs.Run.{Said, Silent, Says, Wrong}
use Rattle.script_text.specs.declared.verb.AloneVerb.{AloneVerb}
use Rattle.script_text.specs.declared.verb.AloneVerb.TheVariants.{Checkpoint, Stat, History}
use Rattle.script_text.specs.declared.verb.SessionVerb.{SessionVerb}
use Rattle.script_text.specs.declared.verb.SessionVerb.TheVariants.{Close, Suspend, Status, FreeAll, Flush, Refresh}
use Rattle.script_text.specs.declared.verb.TransactionVerb.{TransactionVerb}
use Rattle.script_text.specs.declared.verb.TransactionVerb.TheVariants.{Commit, Rollback}
use Rattle.script_text.specs.declared.verb.HomeVerb.{HomeVerb}
use Rattle.script_text.specs.declared.verb.HomeVerb.TheVariants.{Home, Count, List as Lists}
use Rattle.script_text.specs.declared.verb.KeyVerb.{KeyVerb}
use Rattle.script_text.specs.declared.verb.KeyVerb.TheVariants.{Make, Find, FindRef}
use Rattle.script_text.specs.declared.verb.EntryVerb.{EntryVerb}
use Rattle.script_text.specs.declared.verb.EntryVerb.TheVariants.{Exists, Destroy, PidOf, Dup, Release}
use Rattle.script_text.specs.declared.verb.MemberVerb.{MemberVerb}
use Rattle.script_text.specs.declared.verb.MemberVerb.TheVariants.{Get, Follow}
use Rattle.script_text.specs.declared.verb.Verb.{Verb}
use Rattle.script_text.specs.declared.verb.Verb.TheVariants as verb
use Rattle.script_text.specs.Words.{Word, words_in, words, end_of}
use Rattle.script_text.specs.Parts.{is_name}
use Rattle.script_text.specs.Spelling.{is_silent}

-- ---- first words

abbrev pub verb_text : Verb → List ℕ
verb_text verb.Open = codes "open"
verb_text verb.Begin = codes "begin"
verb_text verb.Start = codes "start"
verb_text verb.End = codes "end"
verb_text verb.Create = codes "create"
verb_text verb.Pid = codes "pid"
verb_text verb.Short = codes "short"
verb_text verb.Set = codes "set"
verb_text (verb.Alone Checkpoint) = codes "checkpoint"
verb_text (verb.Alone Stat) = codes "stat"
verb_text (verb.Alone History) = codes "history"
verb_text (verb.Session Close) = codes "close"
verb_text (verb.Session Suspend) = codes "suspend"
verb_text (verb.Session Status) = codes "status"
verb_text (verb.Session FreeAll) = codes "freeall"
verb_text (verb.Session Flush) = codes "flush"
verb_text (verb.Session Refresh) = codes "refresh"
verb_text (verb.Transaction Commit) = codes "commit"
verb_text (verb.Transaction Rollback) = codes "rollback"
verb_text (verb.Home Home) = codes "home"
verb_text (verb.Home Count) = codes "count"
verb_text (verb.Home Lists) = codes "list"
verb_text (verb.Key Make) = codes "make"
verb_text (verb.Key Find) = codes "find"
verb_text (verb.Key FindRef) = codes "findref"
verb_text (verb.Entry Exists) = codes "exists"
verb_text (verb.Entry Destroy) = codes "destroy"
verb_text (verb.Entry PidOf) = codes "pidof"
verb_text (verb.Entry Dup) = codes "dup"
verb_text (verb.Entry Release) = codes "release"
verb_text (verb.Member Get) = codes "get"
verb_text (verb.Member Follow) = codes "follow"

abbrev pub all_verbs : List Verb
all_verbs =
    verb.Open ∷ verb.Begin ∷ verb.Start ∷ verb.End ∷ verb.Create ∷ verb.Pid ∷ verb.Short ∷ verb.Set
    ∷ verb.Alone Checkpoint ∷ verb.Alone Stat ∷ verb.Alone History
    ∷ verb.Session Close ∷ verb.Session Suspend ∷ verb.Session Status ∷ verb.Session FreeAll ∷ verb.Session Flush ∷ verb.Session Refresh
    ∷ verb.Transaction Commit ∷ verb.Transaction Rollback
    ∷ verb.Home Home ∷ verb.Home Count ∷ verb.Home Lists
    ∷ verb.Key Make ∷ verb.Key Find ∷ verb.Key FindRef
    ∷ verb.Entry Exists ∷ verb.Entry Destroy ∷ verb.Entry PidOf ∷ verb.Entry Dup ∷ verb.Entry Release
    ∷ verb.Member Get ∷ verb.Member Follow ∷ []

-- the verb that a word is
unfoldable pub verb_of : List ℕ → Option Verb
verb_of word = find (λ v. bytes_eq word (verb_text v)) all_verbs

-- ---- the words behind

pub data Kind : Type 0 where
  OfName : Kind
  OfWord : Kind
  OfEntry : Kind
  OfPid : Kind
  OfSerial : Kind
  -- one of two words
  OneOf : (one other : List ℕ) → Kind

-- what is told of a word
abbrev pub Value : Kind → Type 0
Value OfName = List ℕ
Value OfWord = List ℕ
Value OfEntry = ℕ
Value OfPid = Pid
Value OfSerial = ℕ
Value (OneOf one other) = Bool

-- a zero with more behind it
abbrev pub has_leading_zero : List ℕ → Bool
has_leading_zero digits = slice_index digits 0 == 48 && nat_lt 1 (length digits)

-- one to ten decimal digits, with no zero in front of others
abbrev pub is_entry_number : List ℕ → Bool
is_entry_number digits = nat_lt 0 (length digits) && (list_all is_ascii_digit digits && (nat_le (length digits) 10 && not (has_leading_zero digits)))

abbrev pub entry_of : List ℕ → Option ℕ
entry_of [] = None
entry_of (b ∷ digits) = if b == 105 && is_entry_number digits then Some (digits_value 10 digits) else None

-- what a word says, if it is of the kind
abbrev pub value_of : (k : Kind) → List ℕ → Option (Value k)
value_of OfName text = if is_name text then Some text else None
value_of OfWord text = Some text
value_of OfEntry text = entry_of text
value_of OfPid text = pid_of text
value_of OfSerial text = short_pid_of text
value_of (OneOf one other) text = if bytes_eq text one then Some true else if bytes_eq text other then Some false else None

-- the words behind a verb, and whether values follow
pub record Form : Type 0 where
  pub kinds : List Kind
  pub has_values : Bool

abbrev pub bare : List Kind → Form
bare kinds = record { kinds = kinds; has_values = false }

abbrev pub with_values : List Kind → Form
with_values kinds = record { kinds = kinds; has_values = true }

abbrev pub form : Verb → Form
form verb.Open = bare (OfName ∷ OneOf (codes "tx") (codes "basic") ∷ OneOf (codes "rw") (codes "ro") ∷ [])
form verb.Begin = bare (OfName ∷ OneOf (codes "SERIALIZABLE") (codes "READ_COMMITTED") ∷ [])
form verb.Start = bare (OfName ∷ OfName ∷ [])
form verb.End = bare (OfName ∷ OneOf (codes "ok") (codes "fail") ∷ [])
form verb.Create = with_values (OfName ∷ OfWord ∷ [])
form verb.Pid = bare (OfName ∷ OfPid ∷ [])
form verb.Short = bare (OfName ∷ OfWord ∷ OfSerial ∷ [])
form verb.Set = with_values (OfName ∷ OfEntry ∷ OfWord ∷ [])
form (verb.Alone v) = bare []
form (verb.Session v) = bare (OfName ∷ [])
form (verb.Transaction v) = bare (OfName ∷ [])
form (verb.Home v) = bare (OfName ∷ OfWord ∷ [])
form (verb.Key v) = with_values (OfName ∷ OfWord ∷ OfWord ∷ [])
form (verb.Entry v) = bare (OfName ∷ OfEntry ∷ [])
form (verb.Member v) = bare (OfName ∷ OfEntry ∷ OfWord ∷ [])

-- what the words of a form say, one behind the other
abbrev pub Row : List Kind → Bool → Type 0
Row [] false = Unit {0}
Row [] true = Rest
Row (k ∷ ks) has_values = Value k × Row ks has_values

-- ---- reading

infixl 10 ◌>>=◌
-- a step, and the next with what the first gave
abbrev pub ◌>>=◌ : {A B : Type 0} → Result A ℕ → (A → Result B ℕ) → Result B ℕ
(Ok x) >>= next = next x
(Err column) >>= next = Err column

-- what is made of a value, or else another thing
abbrev pub given : {A B : Type 0} → Option A → B → (A → B) → B
given None other f = other
given (Some x) other f = f x

-- the first word of the rest of a line; or the column one past the end
abbrev pub word_in : Rest → Result Word ℕ
word_in rest = first (words_in rest)
  where
    first : List Word → Result Word ℕ
    first [] = Err (end_of rest)
    first (w ∷ ws) = Ok w

-- what the first word says and what is behind it; or its column where it is not of the kind
unfoldable pub step : (k : Kind) → Rest → Result (Value k × Rest) ℕ
step k rest = word_in rest >>= λ w. given (value_of k w.text) (Err w.column) (λ x. Ok (x, w.rest))

-- nothing but blanks; or the column of the first word
unfoldable pub nothing_in : Rest → Result (Unit {0}) ℕ
nothing_in rest = first (words_in rest)
  where
    first : List Word → Result (Unit {0}) ℕ
    first [] = Ok tt
    first (w ∷ ws) = Err w.column

-- the words of these kinds, and behind them the values or nothing
abbrev pub row_in : (ks : List Kind) → (has_values : Bool) → Rest → Result (Row ks has_values) ℕ
row_in [] false rest = nothing_in rest
row_in [] true rest = Ok rest
row_in (k ∷ ks) has_values rest = step k rest >>= λ x. row_in ks has_values x.1 >>= λ row. Ok (x.0, row)

-- ---- commands

abbrev pub alone : AloneVerb → Command
alone Checkpoint = command.Checkpoint
alone Stat = command.Stat
alone History = command.History

abbrev pub of_session : SessionVerb → List ℕ → Command
of_session Close s = command.Close s
of_session Suspend s = command.Suspend s
of_session Status s = command.Status s
of_session FreeAll s = command.FreeAll s
of_session Flush s = command.Flush s
of_session Refresh s = command.Refresh s

abbrev pub of_transaction : TransactionVerb → List ℕ → Command
of_transaction Commit t = command.Commit t
of_transaction Rollback t = command.Rollback t

abbrev pub of_home : HomeVerb → List ℕ → List ℕ → Command
of_home Home s home = command.Home s home
of_home Count s home = command.Count s home
of_home Lists s home = command.List s home

abbrev pub of_key : KeyVerb → List ℕ → List ℕ → List ℕ → Rest → Command
of_key Make s home factory values = command.Make s home factory values
of_key Find s home key values = command.Find s home key values
of_key FindRef s home key values = command.FindRef s home key values

abbrev pub of_entry : EntryVerb → List ℕ → ℕ → Command
of_entry Exists s entry = command.Exists s entry
of_entry Destroy s entry = command.Destroy s entry
of_entry PidOf s entry = command.PidOf s entry
of_entry Dup s entry = command.Dup s entry
of_entry Release s entry = command.Release s entry

abbrev pub of_member : MemberVerb → List ℕ → ℕ → List ℕ → Command
of_member Get s entry member = command.Get s entry member
of_member Follow s entry member = command.Follow s entry member

-- the command of a verb and what the words behind it say
abbrev pub built : (v : Verb) → Row (form v).kinds (form v).has_values → Command
built verb.Open row = command.OpenSession row.0 row.1.0 row.1.1.0
built verb.Begin row = command.Begin row.0 row.1.0
built verb.Start row = command.Start row.0 row.1.0
built verb.End row = command.End row.0 row.1.0
built verb.Create row = command.Create row.0 row.1.0 row.1.1
built verb.Pid row = command.Pid row.0 row.1.0
built verb.Short row = command.Short row.0 row.1.0 row.1.1.0
built verb.Set row = command.Set row.0 row.1.0 row.1.1.0 row.1.1.1
built (verb.Alone v) row = alone v
built (verb.Session v) row = of_session v row.0
built (verb.Transaction v) row = of_transaction v row.0
built (verb.Home v) row = of_home v row.0 row.1.0
built (verb.Key v) row = of_key v row.0 row.1.0 row.1.1.0 row.1.1.1
built (verb.Entry v) row = of_entry v row.0 row.1.0
built (verb.Member v) row = of_member v row.0 row.1.0 row.1.1.0

-- the command of a verb, by the line behind it
abbrev pub command_in : Verb → Rest → Result Command ℕ
command_in v rest = row_in (form v).kinds (form v).has_values rest >>= λ row. Ok (built v row)

abbrev pub said_by : Result Command ℕ → Said
said_by (Ok c) = Says c
said_by (Err column) = Wrong column

-- what the words of a line say
abbrev pub said_in : List Word → Said
said_in [] = Silent
said_in (w ∷ ws) = if is_silent (w ∷ ws) then Silent else given (verb_of w.text) (Wrong w.column) (λ v. said_by (command_in v w.rest))

-- what a line says
abbrev pub meaning : List ℕ → Said
meaning line = said_in (words line)
