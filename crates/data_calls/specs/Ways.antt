-- What the machine keeps on the way from a command to the next.
use Rattle.std.specs.Prelude.{ℕ, ◌≡◌, ◌<◌, ◌-◌, ◌^◌, List, Option, Some, None, IsSome, IfSome, Bool, true, false, if◌then◌else◌, length}
use Rattle.std.specs.Option.{option_map, option_and_then}
use Rattle.std.specs.FinMap.{get}
use Rattle.pss_base.specs.declared.pid.Pid.{Pid}
use Rattle.pss_base.specs.declared.session.SessionNo.{SessionNo}
use Rattle.type_layout.specs.declared.schema.Schema.{Schema}
use Rattle.type_layout.specs.Types.{PlainValue}
use Rattle.pss_catalog.specs.Catalog.{Object}
use Rattle.pss_machine.specs.declared.limits.Limits.{Limits}
use Rattle.pss_machine.specs.Maps.{with_at}
use Rattle.pss_machine.specs.Operations.{PlainAnswer, Found}
use Rattle.pss_machine.specs.Alone.{object_of}
use Rattle.pss_machine.specs.Owners.{view}
use Rattle.pss_machine.specs.Copies.{Copies, Entry, entry_numbered, is_attached, obtained, number_for}
use Rattle.pss_machine.specs.Entries.{AreOrderly}
use Rattle.pss_machine.specs.Kept.{Kept, copies_of}
use Rattle.pss_machine.specs.Asking.{Asked}
use Rattle.pss_machine.specs.Moving.{is_done}
use Rattle.incarnations.specs.Meaning.{slot, body_under}
use Rattle.owner_accounts.specs.Accounts.{AreAccounts}
use Rattle.owner_accounts.specs.Reached.{IsReached}
use Rattle.pss_copies.specs.Seats.{Attends, seated_at}
use Rattle.connector_parts.specs.declared.parts.Parts.{Parts}
use Rattle.data_calls.specs.declared.acting.Acting.{Acting}
use Rattle.data_calls.specs.Acting.{IsActing}

-- ---- what is kept on the way

-- the named entry stands on a body
abbrev pub named_at : Kept → SessionNo → Option ℕ → Kept
named_at k s None = k
named_at k s (Some n) = seated_at k s n

-- the object is obtained
abbrev pub obtained_at : Kept → SessionNo → Pid → Kept
obtained_at k s p = record k { copies = with_at k.copies s.0 (obtained p) }

-- the object that was found is obtained, and its entry stands on a body
abbrev pub found_at : Kept → SessionNo → Bool → PlainAnswer → Kept
found_at k s true (Found p) = seated_at (obtained_at k s p) s (number_for (copies_of k s) p)
found_at k s _ _ = k

-- the entry that a step names stands on a body, where it did what it was asked for
abbrev pub named_by : Kept → SessionNo → Option ℕ → PlainAnswer → Kept
named_by k s entry answer = if is_done answer then named_at k s entry else k

-- so do all entries of the step
abbrev pub seated_by : Kept → SessionNo → Asked → PlainAnswer → Kept
seated_by k s asked answer = found_at (named_by k s asked.entry answer) s asked.obtains answer

-- the number of the entry by which what was found is obtained, where it is to be
abbrev pub entry_found : Bool → PlainAnswer → Copies → Option ℕ
entry_found true (Found p) copies = Some (number_for copies p)
entry_found _ _ copies = None

-- ---- the parts on the way

-- the objects and owners are already those of what is to come; the sessions and entries are on the way there
pub record IsOnWay (S : Schema) (limits : Limits) (c : Parts) (to now : Kept) : Type 0 where
  pub schema_is : c.schema ≡ S
  pub limits_is : c.limits ≡ limits
  pub reached : IsReached S limits to
  pub accounts : AreAccounts S c.accounts to
  pub attended : Attends now c.attended
  pub catalog : now.catalog ≡ to.catalog
  pub owners : now.owners ≡ to.owners
  pub sessions : now.sessions ≡ to.sessions

-- some way, in a session that acts
pub record OnWay (c : Parts) (acting : Acting) : Type 0 where
  pub schema : Schema
  pub limits : Limits
  pub to : Kept
  pub now : Kept
  pub way : IsOnWay schema limits c to now
  pub is : IsActing to acting

-- farther on the same way
abbrev pub Reaches : {c : Parts} {acting : Acting} → OnWay c acting → Parts → Kept → Type 0
Reaches w new now = IsOnWay w.schema w.limits new w.to now

-- ---- entries on the way

-- the owner sees the object
pub record IsSeen (to : Kept) (acting : Acting) (is : IsActing to acting) (p : Pid) : Type 0 where
  pub object : Object
  pub there : object_of (view to.catalog is.owner) p ≡ Some object

-- the object has these values, as the owner sees it
abbrev pub HasValues : (to : Kept) (acting : Acting) → IsActing to acting → Pid → List PlainValue → Type 0
HasValues to acting is p values = Some values ≡ option_map (λ (object : Object). object.values) (get (view to.catalog is.owner) p.serial)

-- an entry is there whose object the owner sees, unless it stands on a body already
pub record CanSeat (to now : Kept) (acting : Acting) (is : IsActing to acting) (n : ℕ) : Type 0 where
  pub entry : Entry
  pub there : entry_numbered (copies_of now acting.session) n ≡ Some entry
  pub seen : is_attached entry ≡ false → IsSeen to acting is entry.pid

-- the session's entry of the number stands on no body
abbrev pub IsLoose : Parts → SessionNo → ℕ → Type 0
IsLoose c s n = option_and_then (get c.attended.copies.bodies) (body_under c.attended.copies (slot s n)) ≡ None

-- an object that the owner sees may be obtained once more
pub record CanObtain (to now : Kept) (acting : Acting) (is : IsActing to acting) (p : Pid) : Type 0 where
  pub seen : IsSeen to acting is p
  pub there : IsSome (get now.copies acting.session.0)
  pub orderly : AreOrderly (copies_of now acting.session)
  pub room : length (copies_of now acting.session).entries < 65535
  pub last : (copies_of now acting.session).last < 2 ^ 32 - 1
  pub counts : (n : ℕ) (e : Entry) → entry_numbered (copies_of now acting.session) n ≡ Some e → e.count < 2 ^ 32 - 1

-- the owner sees the object, with the values that it was made with, where these are given
pub record MaySee (c : Parts) (acting : Acting) (p : Pid) (made : Option (List PlainValue)) : Type 0 where
  pub on : OnWay c acting
  pub seen : IsSeen on.to acting on.is p
  pub made_is : IfSome made (HasValues on.to acting on.is p)

pub record MaySeat (c : Parts) (acting : Acting) (n : ℕ) (made : Option (List PlainValue)) : Type 0 where
  pub on : OnWay c acting
  pub can : CanSeat on.to on.now acting on.is n
  pub made_is : IfSome made (HasValues on.to acting on.is can.entry.pid)

pub record MayObtain (c : Parts) (acting : Acting) (p : Pid) (made : Option (List PlainValue)) : Type 0 where
  pub on : OnWay c acting
  pub can : CanObtain on.to on.now acting on.is p
  pub made_is : IfSome made (HasValues on.to acting on.is p)

-- the entry that is named may stand on a body, where the step did what it was asked for
pub record MayName (c : Parts) (acting : Acting) (entry : Option ℕ) (answer : PlainAnswer) : Type 0 where
  pub on : OnWay c acting
  pub can : is_done answer ≡ true → (n : ℕ) → entry ≡ Some n → CanSeat on.to on.now acting on.is n

-- what was found may be obtained, where it is to be
pub record MayFind (c : Parts) (acting : Acting) (obtains : Bool) (answer : PlainAnswer) (made : Option (List PlainValue)) : Type 0 where
  pub on : OnWay c acting
  pub can : obtains ≡ true → (p : Pid) → answer ≡ Found p → CanObtain on.to on.now acting on.is p
  pub made_is : (p : Pid) → answer ≡ Found p → IfSome made (HasValues on.to acting on.is p)

-- ---- what calls make of it

-- it is obtained by the entry of this number, which stands on a body
abbrev pub IsObtainedNow : {c : Parts} {acting : Acting} {p : Pid} {made : Option (List PlainValue)} → MayObtain c acting p made → ℕ → Parts → Type 0
IsObtainedNow {acting = acting} {p = p} m n new =
    (n ≡ number_for (copies_of m.on.now acting.session) p) × Reaches m.on new (found_at m.on.now acting.session true (Found p))

abbrev pub IsNamedNow : {c : Parts} {acting : Acting} {entry : Option ℕ} {answer : PlainAnswer} → MayName c acting entry answer → Parts → Type 0
IsNamedNow {acting = acting} {entry = entry} {answer = answer} m new = Reaches m.on new (named_by m.on.now acting.session entry answer)

abbrev pub IsFoundNow : {c : Parts} {acting : Acting} {obtains : Bool} {answer : PlainAnswer} {made : Option (List PlainValue)} → MayFind c acting obtains answer made → Option ℕ → Parts → Type 0
IsFoundNow {acting = acting} {obtains = obtains} {answer = answer} m entry new =
    (entry ≡ entry_found obtains answer (copies_of m.on.now acting.session)) × Reaches m.on new (found_at m.on.now acting.session obtains answer)
