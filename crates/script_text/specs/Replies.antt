-- The texts of replies.
use Rattle.std.specs.Prelude.{ℕ, List, [], ◌∷◌, ◌++◌, codes, decimal, Bool, if◌then◌else◌}
use Rattle.std.specs.List.{flat_map}
use Rattle.pss_base.specs.declared.pid.Pid.{Pid}
use Rattle.pss_base.specs.PidText.{pid_text, short_pid_text}
use Rattle.pss_machine.specs.declared.session.StateName.{StateName}
use Rattle.pss_machine.specs.declared.session.StateName.TheVariants as in_state
use Rattle.pss_machine.specs.declared.reply.Reply.{Reply}
use Rattle.pss_machine.specs.declared.reply.Reply.TheVariants as reply

-- behind a word and a blank
abbrev pub behind : List ℕ → List ℕ → List ℕ
behind word text = word ++ 32 ∷ text

-- texts with a blank in front of each
abbrev pub each_word : List (List ℕ) → List ℕ
each_word texts = flat_map (λ text. 32 ∷ text) texts

-- pids with a blank in front of each
abbrev pub each_pid : List Pid → List ℕ
each_pid pids = flat_map (λ pid. 32 ∷ pid_text pid) pids

abbrev pub truth_text : Bool → List ℕ
truth_text b = if b then codes "TRUE" else codes "FALSE"

abbrev pub state_text : StateName → List ℕ
state_text in_state.NoTransaction = codes "NO_TRANSACTION"
state_text in_state.Active = codes "ACTIVE"
state_text in_state.Suspended = codes "SUSPENDED"
state_text in_state.Ending = codes "ENDING"

-- a number behind a word
abbrev pub numbered : List ℕ → ℕ → List ℕ
numbered word n = behind word (decimal n)

-- numbers behind words
abbrev pub each_number : List (List ℕ × ℕ) → List ℕ
each_number counts = flat_map (λ count. numbered count.0 count.1) counts

-- the text of a reply, without its line feed
abbrev pub text : Reply → List ℕ
text reply.Done = codes "OK"
text (reply.Entry entry pid) = codes "OK i" ++ decimal entry ++ 32 ∷ pid_text pid
text (reply.Reference pid) = behind (codes "OK") (pid_text pid)
text (reply.PidAndShort pid) = behind (codes "OK") (pid_text pid ++ 32 ∷ short_pid_text pid.serial)
text (reply.Val value) = behind (codes "OK") value
text (reply.Truth b) = behind (codes "OK") (truth_text b)
text (reply.Count n) = numbered (codes "OK") n
text (reply.State s) = behind (codes "OK") (state_text s)
text (reply.HomeFound home name) = numbered (codes "OK") home.0 ++ 32 ∷ name
text (reply.List count pids) = numbered (codes "OK") count ++ each_pid pids
text (reply.Stat sessions transactions entries attached bodies locks commits objects) =
    codes "OK" ++ each_number
    ((codes " sessions", sessions)
    ∷ (codes " transactions", transactions)
    ∷ (codes " entries", entries)
    ∷ (codes " attached", attached)
    ∷ (codes " bodies", bodies)
    ∷ (codes " locks", locks)
    ∷ (codes " commits", commits)
    ∷ (codes " objects", objects)
    ∷ [])
text (reply.History commits members) = numbered (codes "OK") commits ++ each_word members
text (reply.Err column) = numbered (codes "ERR") column
text reply.NoSession = codes "NOSESSION"
text reply.NoTransaction = codes "NOTRANSACTION"
text reply.Exists = codes "EXISTS"
text reply.Sessions = codes "SESSIONS"
text reply.Transactions = codes "TRANSACTIONS"
text reply.Kind = codes "KIND"
text reply.NoTx = codes "NOTX"
text (reply.Assoc name) = behind (codes "ASSOC") name
text (reply.StillOpen name) = behind (codes "OPEN") name
text reply.NoEntry = codes "NOENTRY"
text reply.NoHome = codes "NOHOME"
text reply.NoKey = codes "NOKEY"
text reply.NoFactory = codes "NOFACTORY"
text reply.NoMember = codes "NOMEMBER"
text reply.NotRef = codes "NOTREF"
text (reply.BadValue column) = numbered (codes "BADVALUE") column
text reply.ReadOnly = codes "READONLY"
text reply.Many = codes "MANY"
text reply.Serials = codes "SERIALS"
text reply.Entries = codes "ENTRIES"
text (reply.Busy name) = behind (codes "BUSY") name
text reply.NotFound = codes "NOTFOUND"
text (reply.Gone pid) = behind (codes "GONE") (pid_text pid)
text reply.Nil = codes "NIL"
text (reply.Duplicate key) = behind (codes "DUPLICATE") key
text reply.TooLarge = codes "TOOLARGE"
text reply.RolledBack = codes "ROLLEDBACK"
text reply.Full = codes "FULL"
