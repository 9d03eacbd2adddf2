-- What a body tells a basic session of a member that it reads.
use Rattle.std.specs.Prelude.{ℕ, ◌≡◌, ◌++◌, List, length, drop, Option, Some, None, Bool, true, false}
use Rattle.std.specs.List.{slice_get}
use Rattle.std.specs.Option.{option_map, option_and_then}
use Rattle.std.specs.FinMap.{get}
use Rattle.pss_base.specs.declared.pid.Pid.{Pid}
use Rattle.type_layout.specs.Types.{PlainValue}
use Rattle.pss_machine.specs.Operations.{Get, Ask, Val}
use Rattle.pss_machine.specs.declared.command.Command.TheVariants as command
use Rattle.pss_machine.specs.declared.reply.Reply.TheVariants as reply
use Rattle.pss_machine.specs.Homes.{home_of}
use Rattle.pss_machine.specs.Names.{member_named}
use Rattle.pss_machine.specs.Copies.{entry_numbered}
use Rattle.pss_machine.specs.Kept.{Kept, copies_of}
use Rattle.pss_machine.specs.Asking.{Asked}
use Rattle.pss_machine.specs.Stepping.{step_of, step_on_copy, value_text}
use Rattle.incarnations.specs.Meaning.{AreCopies, slot, body_under}
use Rattle.connector_parts.specs.declared.parts.Parts.{Parts}
use Rattle.connector_parts.specs.Stands.{IsAt, Comes}
use Rattle.data_calls.specs.declared.acting.Acting.{Acting}
use Rattle.data_calls.specs.Acting.{IsNamed}
use Rattle.data_calls.specs.Asking.{MayTake}

-- a member is read, and nothing obtained
pub record IsReading (asked : Asked) : Type 0 where
  pub p : Pid
  pub member : ℕ
  pub op_is : asked.op ≡ Ask (Get p member)
  pub only : asked.obtains ≡ false

-- the step needs no lock and changes nothing, and its answer is this value; the entry that is named stands on a body
pub record IsGlance {c : Parts} {acting : Acting} {asked : Asked} (m : MayTake c acting asked) (v : PlainValue) : Type 0 where
  pub step_is : step_of c.schema m.asks.kept.catalog m.asks.is.owner (copies_of m.asks.kept acting.session) asked ≡ step_on_copy asked.op (Val v)
  pub are : AreCopies c.attended.copies
  pub n : ℕ
  pub named : asked.entry ≡ Some n
  pub values : List PlainValue
  pub stands : option_and_then (get c.attended.copies.bodies) (body_under c.attended.copies (slot acting.session n)) ≡ Some values

-- ---- a get by its words

-- the session of the name is basic and has this entry, which stands on a body; there the named member of the object has this value
pub record IsSeen (c : Parts) (k : Kept) (name : List ℕ) (n : ℕ) (word : List ℕ) (acting : Acting) (p : Pid) (member : ℕ) (v : PlainValue) : Type 0 where
  pub named : IsNamed k name acting
  pub basic : acting.basic ≡ true
  pub object : option_map (λ e. e.pid) (entry_numbered (copies_of k acting.session) n) ≡ Some p
  pub member_is : member_named c.schema (home_of p) word ≡ Some member
  pub are : AreCopies c.attended.copies
  pub values : List PlainValue
  pub stands : option_and_then (get c.attended.copies.bodies) (body_under c.attended.copies (slot acting.session n)) ≡ Some values
  pub has : slice_get values member ≡ Some v

-- its text was added to a line
pub record PrintsIn (c : Parts) (name : List ℕ) (n : ℕ) (word : List ℕ) (acting : Acting) (old new : List ℕ) : Type 0 where
  pub p : Pid
  pub member : ℕ
  pub value : PlainValue
  pub seen : (k : Kept) → IsAt c k → IsSeen c k name n word acting p member value
  pub grown : new ≡ old ++ value_text c.schema (Ask (Get p member)) value

-- or the line is as before
abbrev pub IsPrinted : Parts → List ℕ → ℕ → List ℕ → Option Acting → (old new : List ℕ) → Type 0
IsPrinted c name n word (Some acting) old new = PrintsIn c name n word acting old new
IsPrinted c name n word None old new = new ≡ old

-- what was added to a line
abbrev pub added : List ℕ → List ℕ → List ℕ
added old new = drop (length old) new

-- a value is the reply, and its text was added to a line
pub record Tells (c new : Parts) (name : List ℕ) (n : ℕ) (word : List ℕ) (before after : List ℕ) : Type 0 where
  pub comes : (k : Kept) → IsAt c k → Comes c k (command.Get name n word) (reply.Val (added before after)) new
  pub grows : after ≡ before ++ added before after

-- or all is as before
abbrev pub IsTold : (c new : Parts) → List ℕ → ℕ → List ℕ → Bool → (before after : List ℕ) → Type 0
IsTold c new name n word true before after = Tells c new name n word before after
IsTold c new name n word false before after = (new ≡ c) × (after ≡ before)
