-- Data commands: which of them may not be, what step each of the others is, and its reply.
use Rattle.std.specs.Prelude.{ℕ, ◌-◌, ◌^◌, ◌==◌, ◌&&◌, not, nat_le, List, [], length, Option, Some, None, Result, Ok, Err, Bool, true, false, if◌then◌else◌}
use Rattle.std.specs.List.{slice_get}
use Rattle.std.specs.FinMap.{len}
use Rattle.pss_base.specs.declared.pid.Pid.{Pid}
use Rattle.pss_base.specs.declared.owner.OwnerNo.{OwnerNo}
use Rattle.pss_base.specs.declared.session.SessionNo.{SessionNo}
use Rattle.type_layout.specs.declared.key.KeyNo.{KeyNo}
use Rattle.type_layout.specs.declared.schema.Schema.{Schema}
use Rattle.type_layout.specs.Types.{PlainValue}
use Rattle.type_layout.specs.Schemas.{given, key_at}
use Rattle.pss_catalog.specs.Catalog.{Catalog}
use Rattle.value_text.specs.Printed.{printed}
use Rattle.pss_machine.specs.declared.limits.Limits.{Limits}
use Rattle.pss_machine.specs.declared.reply.Reply.{Reply}
use Rattle.pss_machine.specs.declared.reply.Reply.TheVariants as reply
use Rattle.pss_machine.specs.Operations.{Get, Follow, PlainOp, Create, Set, Destroy, Ask, PlainAnswer, Done, Found, IsThere, Val, Number, Listing, NotFound, Gone, Nil, Duplicate, TooLarge, Busy}
use Rattle.pss_machine.specs.Homes.{home_of, member_at}
use Rattle.pss_machine.specs.Alone.{followed}
use Rattle.pss_machine.specs.Owners.{Owner, is_basic, view, has_changed, blocker, Step, step_on_view}
use Rattle.pss_machine.specs.Sessions.{Session}
use Rattle.pss_machine.specs.Copies.{Copies, Stand, Loose, Shared, Copied, entry_numbered, number_for}
use Rattle.pss_machine.specs.Kept.{Kept, Actor, actor_in, name_of, copies_of}
use Rattle.pss_machine.specs.Asking.{Asked, ◌>>=◌, refused_where}
use Rattle.pss_machine.specs.Effects.{Decision, Steps, does, says}

-- ---- what may not be more

-- it would change an object that its owner has not changed
abbrev pub changes_further : Owner → PlainOp → Bool
changes_further owner (Create serial object) = not (has_changed owner serial)
changes_further owner (Set p member value) = not (has_changed owner p.serial)
changes_further owner (Destroy p) = not (has_changed owner p.serial)
changes_further owner (Ask question) = false

abbrev pub is_create : PlainOp → Bool
is_create (Create serial object) = true
is_create _ = false

-- the operation is within the limits of its owner's changes, of serials and of its session's entries
abbrev pub within : Limits → ℕ → Owner → Copies → Asked → Result Asked Reply
within limits next owner copies asked =
    refused_where (changes_further owner asked.op && nat_le limits.changes (len owner.changes)) reply.Many
    (refused_where (is_create asked.op && next == 2 ^ 64 - 1) reply.Serials
    (refused_where (asked.obtains && nat_le limits.entries (length copies.entries)) reply.Entries (Ok asked)))

-- ---- the step

-- the values that an entry's own copy has
abbrev pub copied_values : Copies → Option ℕ → Option (List PlainValue)
copied_values copies named = given named None (λ n. given (entry_numbered copies n) None (λ e. of_stand e.stand))
  where
    of_stand : Stand → Option (List PlainValue)
    of_stand Loose = None
    of_stand Shared = None
    of_stand (Copied values) = Some values

-- what these values tell of a member, by themselves; a reference is looked up in the view
abbrev pub told_by_copy : Catalog → List PlainValue → PlainOp → Option PlainAnswer
told_by_copy M values (Ask (Get p member)) = given (slice_get values member) None (λ v. Some (Val v))
told_by_copy M values (Ask (Follow p member)) = given (slice_get values member) None (λ v. Some (followed M p v))
told_by_copy M values _ = None

-- an answer from a copy needs no lock and changes nothing
abbrev pub step_on_copy : PlainOp → PlainAnswer → Step
step_on_copy op answer = record { op = op; answer = answer; needs = []; own = [] }

-- what the named entry's copy tells a basic session
abbrev pub copied_answer : Catalog → Owner → Copies → Asked → Option PlainAnswer
copied_answer M owner copies asked = if is_basic owner.level then given (copied_values copies asked.entry) None (λ values. told_by_copy (view M owner) values asked.op) else None

-- `get` and `follow` of an entry that stands on a copy are answered by it; all else is done on the owner's view
abbrev pub step_of : Schema → Catalog → Owner → Copies → Asked → Step
step_of S M owner copies asked = given (copied_answer M owner copies asked) (step_on_view S M owner asked.op) (step_on_copy asked.op)

-- ---- the reply

-- the text of a member's value
abbrev pub value_text : Schema → PlainOp → PlainValue → List ℕ
value_text S (Ask (Get p member)) v = given (member_at S (home_of p) member) [] (λ m. printed m.type v)
value_text S _ v = []

abbrev pub key_name : Schema → KeyNo → List ℕ
key_name S k = given (key_at S k) [] (λ key. key.name)

-- the object, with its entry where the session obtains it
abbrev pub found_reply : Copies → Bool → Pid → Reply
found_reply copies true p = reply.Entry (number_for copies p) p
found_reply copies false p = reply.Reference p

abbrev pub reply_to : Schema → Kept → Copies → Asked → PlainAnswer → Reply
reply_to S k copies asked Done = reply.Done
reply_to S k copies asked (Found p) = found_reply copies asked.obtains p
reply_to S k copies asked (IsThere b) = reply.Truth b
reply_to S k copies asked (Val v) = reply.Val (value_text S asked.op v)
reply_to S k copies asked (Number n) = reply.Count n
reply_to S k copies asked (Listing n first) = reply.List n first
reply_to S k copies asked NotFound = reply.NotFound
reply_to S k copies asked (Gone p) = reply.Gone p
reply_to S k copies asked Nil = reply.Nil
reply_to S k copies asked (Duplicate key) = reply.Duplicate (key_name S key)
reply_to S k copies asked TooLarge = reply.TooLarge
reply_to S k copies asked (Busy n) = reply.Busy (name_of k n)

-- ---- the decision

-- the step is taken, unless another owner holds it up
abbrev pub unless_busy : Schema → Kept → SessionNo → OwnerNo → Asked → Step → Decision
unless_busy S k s n asked step =
    given (blocker k.owners n step.needs)
    (does (Steps n s step asked) (reply_to S k (copies_of k s) asked step.answer))
    (λ b. says (reply_to S k (copies_of k s) asked (Busy b)))

-- what an owner's command comes to
abbrev pub decided : Schema → Kept → SessionNo → Actor → Result Asked Reply → Decision
decided S k s actor (Ok asked) = unless_busy S k s actor.number asked (step_of S k.catalog actor.owner (copies_of k s) asked)
decided S k s actor (Err refusal) = says refusal

-- a data command in a session, by what its words ask
abbrev pub data_command : Schema → Limits → Kept → SessionNo → Session → Result Asked Reply → Decision
data_command S limits k s session asked =
    given (actor_in k.owners session) (says reply.NoTx) (λ actor. decided S k s actor (asked >>= within limits k.next actor.owner (copies_of k s)))
