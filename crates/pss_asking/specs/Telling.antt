-- What the answers of calls tell of what a command asks.
use Rattle.std.specs.Prelude.{ℕ, ◌≡◌, List, Option, Result, Ok, Err}
use Rattle.std.specs.Option.{option_map}
use Rattle.type_layout.specs.declared.schema.Schema.{Schema}
use Rattle.type_layout.specs.Members.{plain_member}
use Rattle.pss_machine.specs.declared.command.Rest.{Rest}
use Rattle.pss_machine.specs.declared.reply.Reply.{Reply}
use Rattle.pss_machine.specs.declared.reply.Reply.TheVariants as reply
use Rattle.pss_machine.specs.Operations.{PlainOp, plain_op}
use Rattle.pss_machine.specs.Asking.{Asked as PlainAsked, Place as PlainPlace, ◌>>=◌, finding}
use Rattle.pss_machine.specs.Copies.{Copies, entry_numbered}
use Rattle.pss_asking.specs.declared.asked.Asked.{Asked}
use Rattle.pss_asking.specs.declared.asked.Named.{Named}
use Rattle.pss_asking.specs.declared.asked.Refusal.{Refusal}
use Rattle.pss_asking.specs.declared.asked.Refusal.TheVariants as refusal
use Rattle.pss_asking.specs.declared.asked.AskFault.{AskFault}
use Rattle.pss_asking.specs.declared.asked.AskFault.TheVariants.{Memory, Refused}
use Rattle.pss_asking.specs.declared.naming.Place.{Place}

-- what is asked, as the machine has it
abbrev pub plain_asked : Asked → PlainAsked
plain_asked asked = record { op = plain_op asked.op; entry = asked.entry; obtains = asked.obtains }

-- the reply that a refusal is
abbrev pub reply_of : Refusal → Reply
reply_of refusal.NoEntry = reply.NoEntry
reply_of refusal.NoHome = reply.NoHome
reply_of refusal.NoKey = reply.NoKey
reply_of refusal.NoFactory = reply.NoFactory
reply_of refusal.NoMember = reply.NoMember
reply_of refusal.NotRef = reply.NotRef
reply_of (refusal.BadValue column) = reply.BadValue column
reply_of refusal.ReadOnly = reply.ReadOnly

-- a call that failed tells the reply, unless memory ran out
abbrev pub Refuses : {B : Type 0} → AskFault → Result B Reply → Type 0
Refuses Memory told = Unit {0}
Refuses (Refused why) told = told ≡ Err (reply_of why)

-- what a call returned, seen by view, is what is told, unless memory ran out
abbrev pub Tells : {A B : Type 0} → (A → B) → Result A AskFault → Result B Reply → Type 0
Tells view (Ok x) told = told ≡ Ok (view x)
Tells view (Err fault) told = Refuses fault told

-- a member of a home, as the machine has it
abbrev pub plain_place : Place → PlainPlace
plain_place place = record { number = place.number; member = plain_member place.member.now }

-- what is asked of the object that holds a key
abbrev pub finding_to : (PlainOp → PlainAsked) → Schema → List ℕ → List ℕ → Rest → Result PlainAsked Reply
finding_to f S home key rest = finding S home key rest >>= λ op. Ok (f op)

-- the session's entry of a number, where it has one, as a command names it
abbrev pub entry_named : Copies → ℕ → Option Named
entry_named copies n = option_map (λ e. record { number = n; pid = e.pid }) (entry_numbered copies n)
