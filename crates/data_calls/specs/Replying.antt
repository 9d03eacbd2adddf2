-- Answers that can be replied to.
use Rattle.std.specs.Prelude.{ℕ, ◌≡◌, Option, Some, None}
use Rattle.pss_base.specs.declared.pid.Pid.{Pid}
use Rattle.pss_base.specs.declared.owner.OwnerNo.{OwnerNo}
use Rattle.pss_base.specs.declared.session.SessionNo.{SessionNo}
use Rattle.type_layout.specs.declared.schema.Schema.{Schema}
use Rattle.type_layout.specs.Types.{PlainValue, PlainMember}
use Rattle.type_layout.specs.Values.{Of}
use Rattle.pss_machine.specs.declared.reply.Reply.{Reply}
use Rattle.pss_machine.specs.declared.reply.Reply.TheVariants as reply
use Rattle.pss_machine.specs.Homes.{home_of, member_at}
use Rattle.pss_machine.specs.Operations.{Get, PlainOp, Ask, PlainAnswer, Val, Busy}
use Rattle.pss_machine.specs.Kept.{Kept, copies_of}
use Rattle.pss_machine.specs.Asking.{Asked}
use Rattle.data_calls.specs.Ways.{entry_found}

-- a value that was read is of its member's type
abbrev pub MayPrint : Schema → PlainOp → PlainValue → Type 0
MayPrint S op value = (p : Pid) (i : ℕ) (member : PlainMember) → op ≡ Ask (Get p i) → member_at S (home_of p) i ≡ Some member → Of member.type value

-- the object's home has the member, and the value is of its type
pub record IsOfMember (S : Schema) (p : Pid) (i : ℕ) (value : PlainValue) : Type 0 where
  pub member : PlainMember
  pub there : member_at S (home_of p) i ≡ Some member
  pub of : Of member.type value

-- by the entry of what was obtained, or by its object alone
abbrev pub found_as : Option ℕ → Pid → Reply
found_as None pid = reply.Reference pid
found_as (Some entry) pid = reply.Entry entry pid

-- a value can be printed, the entry is that of what was found, and nobody holds the step up
pub record CanReply (S : Schema) (k : Kept) (s : SessionNo) (asked : Asked) (answer : PlainAnswer) (entry : Option ℕ) : Type 0 where
  pub prints : (value : PlainValue) → answer ≡ Val value → MayPrint S asked.op value
  pub free : (n : OwnerNo) → answer ≡ Busy n → ⊥
  pub entry_is : entry ≡ entry_found asked.obtains answer (copies_of k s)

pub record MayReply (S : Schema) (asked : Asked) (answer : PlainAnswer) (entry : Option ℕ) : Type 0 where
  pub kept : Kept
  pub session : SessionNo
  pub can : CanReply S kept session asked answer entry
