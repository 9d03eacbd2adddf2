-- What commands come to at the limits of the program, and one below them.
use Rattle.std.specs.Prelude.{ℕ, ◌≡◌, List, length, Option, Some, None, IsSome, Result, Ok, true, false}
use Rattle.std.specs.FinMap.{get, len}
use Rattle.pss_base.specs.declared.owner.OwnerNo.{OwnerNo}
use Rattle.pss_base.specs.declared.session.SessionNo.{SessionNo}
use Rattle.type_layout.specs.declared.schema.Schema.{Schema}
use Rattle.pss_catalog.specs.Catalog.{total}
use Rattle.pss_catalog.specs.Changes.{over}
use Rattle.pss_machine.specs.declared.session.Kind.TheVariants.{Basic}
use Rattle.pss_machine.specs.declared.command.Command.{Command}
use Rattle.pss_machine.specs.declared.command.Command.TheVariants as command
use Rattle.pss_machine.specs.declared.reply.Reply.{Reply}
use Rattle.pss_machine.specs.declared.reply.Reply.TheVariants as reply
use Rattle.pss_machine.specs.Limits.{standard}
use Rattle.pss_machine.specs.Operations.{FindPid, Count, ListOf, PlainOp, Create, Set, Destroy, Ask}
use Rattle.pss_machine.specs.Commands.{data_session}
use Rattle.pss_machine.specs.Owners.{Owner, net}
use Rattle.pss_machine.specs.Sessions.{Session, session_named, first_open}
use Rattle.pss_machine.specs.Kept.{Kept, Actor, actor_in, copies_of, transaction_named}
use Rattle.pss_machine.specs.Asking.{Asked, obtaining, only, creating, making, finding, shortening, asking_whether, getting, setting, destroying, following, asking_of_home, ◌>>=◌}
use Rattle.pss_machine.specs.Effects.{Commits, Flushes, does, says}
use Rattle.pss_machine.specs.Stepping.{changes_further, is_create, decided}
use Rattle.pss_machine.specs.Deciding.{is_marked, decision}

-- ---- data commands

-- what the words of a data command ask in a session
abbrev pub asks_for : Schema → Kept → SessionNo → Session → Command → Option (Result Asked Reply)
asks_for S k s session (command.Create name home values) = Some (creating S k.next session home values)
asks_for S k s session (command.Make name home factory values) = Some (making S k.next session home factory values)
asks_for S k s session (command.Find name home key values) = Some (finding S home key values >>= λ op. Ok (obtaining op))
asks_for S k s session (command.FindRef name home key values) = Some (finding S home key values >>= λ op. Ok (only op))
asks_for S k s session (command.Pid name pid) = Some (Ok (obtaining (Ask (FindPid pid))))
asks_for S k s session (command.Short name home serial) = Some (shortening S home serial)
asks_for S k s session (command.Exists name n) = Some (asking_whether (copies_of k s) n)
asks_for S k s session (command.Get name n member) = Some (getting S (copies_of k s) n member)
asks_for S k s session (command.Set name n member value) = Some (setting S session (copies_of k s) n member value)
asks_for S k s session (command.Destroy name n) = Some (destroying session (copies_of k s) n)
asks_for S k s session (command.Follow name n member) = Some (following S (copies_of k s) n member)
asks_for S k s session (command.Count name home) = Some (asking_of_home S home (λ h. Ask (Count h)))
asks_for S k s session (command.List name home) = Some (asking_of_home S home (λ h. Ask (ListOf h)))
asks_for S k s session _ = None

-- the words of a data command ask this of an owner, in a session that may act
pub record IsAsked (S : Schema) (k : Kept) (command : Command) (s : SessionNo) (actor : Actor) (asked : Asked) : Type 0 where
  pub name : List ℕ
  pub session : Session
  pub in_session : data_session command ≡ Some name
  pub named : session_named k.sessions name ≡ Some (s.0, session)
  pub acts : actor_in k.owners session ≡ Some actor
  pub words : asks_for S k s session command ≡ Some (Ok asked)

-- one below each limit the catalog is asked
abbrev pub BelowAllLimits : Type 0
BelowAllLimits =
    (S : Schema) (k : Kept) (command : Command) (s : SessionNo) (actor : Actor) (asked : Asked) → IsAsked S k command s actor asked
    → len actor.owner.changes ≡ 255 → k.next ≡ 18446744073709551614 → length (copies_of k s).entries ≡ 65534
    → decision S standard k command ≡ decided S k s actor (Ok asked)

-- of 256 objects changed there is no further one
abbrev pub ManyAt256 : Type 0
ManyAt256 =
    (S : Schema) (k : Kept) (command : Command) (s : SessionNo) (actor : Actor) (asked : Asked) → IsAsked S k command s actor asked
    → changes_further actor.owner asked.op ≡ true → len actor.owner.changes ≡ 256
    → decision S standard k command ≡ says reply.Many

-- the serial of the object that an operation would make, set or destroy
abbrev pub serial_to_change : PlainOp → Option ℕ
serial_to_change (Create serial object) = Some serial
serial_to_change (Set p member value) = Some p.serial
serial_to_change (Destroy p) = Some p.serial
serial_to_change (Ask question) = None

-- an owner that has changed 256 objects changes none that it has not changed, be that object there or gone
abbrev pub NoFurtherAt256 : Type 0
NoFurtherAt256 =
    (S : Schema) (k : Kept) (command : Command) (s : SessionNo) (actor : Actor) (asked : Asked) → IsAsked S k command s actor asked
    → (serial : ℕ) → serial_to_change asked.op ≡ Some serial → get actor.owner.changes serial ≡ None → len actor.owner.changes ≡ 256
    → decision S standard k command ≡ says reply.Many

-- one that it has changed before it may change again
abbrev pub AgainAt256 : Type 0
AgainAt256 =
    (S : Schema) (k : Kept) (command : Command) (s : SessionNo) (actor : Actor) (asked : Asked) → IsAsked S k command s actor asked
    → (serial : ℕ) → serial_to_change asked.op ≡ Some serial → IsSome (get actor.owner.changes serial) → k.next ≡ 18446744073709551614 → length (copies_of k s).entries ≡ 65534
    → decision S standard k command ≡ decided S k s actor (Ok asked)

-- the last serial of 64 bits is not given
abbrev pub SerialsAtLast : Type 0
SerialsAtLast =
    (S : Schema) (k : Kept) (command : Command) (s : SessionNo) (actor : Actor) (asked : Asked) → IsAsked S k command s actor asked
    → is_create asked.op ≡ true → len actor.owner.changes ≡ 255 → k.next ≡ 18446744073709551615
    → decision S standard k command ≡ says reply.Serials

-- a session with 65,535 entries obtains nothing, also not what it has an entry of
abbrev pub EntriesAt65535 : Type 0
EntriesAt65535 =
    (S : Schema) (k : Kept) (command : Command) (s : SessionNo) (actor : Actor) (asked : Asked) → IsAsked S k command s actor asked
    → asked.obtains ≡ true → len actor.owner.changes ≡ 255 → k.next ≡ 18446744073709551614 → length (copies_of k s).entries ≡ 65535
    → decision S standard k command ≡ says reply.Entries

-- ---- commits

-- of a transaction that is not marked and whose sessions have all ended, after whose commit the objects would take so many octets
abbrev pub CommitsInto : ℕ → (Kept → List ℕ → OwnerNo → Schema → Type 0) → Type 0
CommitsInto octets P =
    (S : Schema) (k : Kept) (t : List ℕ) (n : OwnerNo) (owner : Owner) → transaction_named k t ≡ Some n → first_open k.sessions n ≡ None → is_marked k n ≡ false → get k.owners n.0 ≡ Some owner
    → total S (over k.catalog (net k.catalog owner)) ≡ octets → P k t n S

abbrev pub CommitsAt67108864 : Type 0
CommitsAt67108864 = CommitsInto 67108864 (λ k t n S. decision S standard k (command.Commit t) ≡ does (Commits n) reply.Done)

abbrev pub FullAt67108865 : Type 0
FullAt67108865 = CommitsInto 67108865 (λ k t n S. decision S standard k (command.Commit t) ≡ says reply.Full)

-- of a basic session, after whose flush the objects would take so many octets
abbrev pub FlushesInto : ℕ → (Kept → List ℕ → OwnerNo → Schema → Type 0) → Type 0
FlushesInto octets P =
    (S : Schema) (k : Kept) (name : List ℕ) (s : SessionNo) (session : Session) (n : OwnerNo) (owner : Owner) → session_named k.sessions name ≡ Some (s.0, session) → session.kind ≡ Basic n → get k.owners n.0 ≡ Some owner
    → total S (over k.catalog (net k.catalog owner)) ≡ octets → P k name n S

abbrev pub FlushesAt67108864 : Type 0
FlushesAt67108864 = FlushesInto 67108864 (λ k name n S. decision S standard k (command.Flush name) ≡ does (Flushes n) reply.Done)

abbrev pub FlushFullAt67108865 : Type 0
FlushFullAt67108865 = FlushesInto 67108865 (λ k name n S. decision S standard k (command.Flush name) ≡ says reply.Full)
