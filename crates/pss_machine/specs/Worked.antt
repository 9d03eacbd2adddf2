-- Worked cases under small limits: `create` and `flush` at each limit and one below.
use Rattle.std.specs.Prelude.{ℕ, ◌≡◌, [], ◌∷◌, codes, Some, None}
use Rattle.std.specs.FinMap.{empty, insert}
use Rattle.std.specs.FinSet as set
use Rattle.type_layout.specs.declared.schema.Schema.{Schema}
use Rattle.pss_catalog.specs.Catalog.{Object}
use Rattle.pss_machine.specs.declared.level.Level.TheVariants as level
use Rattle.pss_machine.specs.declared.limits.Limits.{Limits}
use Rattle.pss_machine.specs.declared.session.Kind.TheVariants.{Basic}
use Rattle.pss_machine.specs.declared.session.Access.TheVariants.{ReadWrite}
use Rattle.pss_machine.specs.declared.session.Association.TheVariants.{NoTransaction}
use Rattle.pss_machine.specs.declared.command.Command.TheVariants as command
use Rattle.pss_machine.specs.declared.reply.Reply.{Reply}
use Rattle.pss_machine.specs.declared.reply.Reply.TheVariants as reply
use Rattle.pss_machine.specs.Changes.{Changes}
use Rattle.pss_machine.specs.Owners.{Owner}
use Rattle.pss_machine.specs.Sessions.{Session}
use Rattle.pss_machine.specs.Copies.{Shared, Entry, Copies}
use Rattle.pss_machine.specs.Kept.{Kept}
use Rattle.pss_machine.specs.Moving.{new_title}
use Rattle.pss_machine.specs.Deciding.{decision}

-- one home, whose objects have no members: each takes 17 octets, 16 and the first one of its record
abbrev pub marks : Schema
marks = record {
  homes = record { name = codes "Marks"; base = None; layout = record { members = [] }; keys = []; factories = [] } ∷ [];
  keys = [];
  provided = [];
}

abbrev pub mark : Object
mark = record { home = record { 0 = 1 }; values = [] }

-- one session and one transaction, two changes and two entries
abbrev pub small : ℕ → Limits
small total = record { total = total; sessions = 1; transactions = 1; changes = 2; entries = 2 }

-- a basic session `s` that may write
abbrev pub the_session : Session
the_session = record { name = codes "s"; kind = Basic (record { 0 = 1 }); access = ReadWrite; association = NoTransaction }

-- its owner, with changes
abbrev pub owner_with : Changes → Owner
owner_with changes = record { level = level.Basic; locks = set.empty; changes = changes }

-- nothing but this session, with a next serial, changes that it has made, and entries
abbrev pub only_with : ℕ → Changes → Copies → Kept
only_with next changes copies = record {
  catalog = empty;
  next = next;
  owners = insert empty 1 (owner_with changes);
  titles = insert empty 1 (new_title (codes "s"));
  next_owner = 2;
  sessions = insert empty 1 the_session;
  copies = insert empty 1 copies;
  next_session = 2;
  commits = 0;
  recent = [];
}

-- it has made no object, one, or two
abbrev pub none_made : Changes
none_made = empty

abbrev pub one_made : Changes
one_made = insert empty 1 (Some mark)

abbrev pub two_made : Changes
two_made = insert (insert empty 1 (Some mark)) 2 (Some mark)

-- the entry for an object that it has made
abbrev pub entry_of : ℕ → Entry
entry_of n = record { number = n; pid = record { home = 1; serial = n }; count = 1; stand = Shared }

abbrev pub one_entry : Copies
one_entry = record { last = 1; entries = entry_of 1 ∷ [] }

abbrev pub two_entries : Copies
two_entries = record { last = 2; entries = entry_of 1 ∷ entry_of 2 ∷ [] }

-- the reply to `create s Marks`, where the objects may take 34 octets
abbrev pub created : ℕ → Changes → Copies → Reply
created next changes copies = (decision marks (small 34) (only_with next changes copies) (command.Create (codes "s") (codes "Marks") (record { column = 15; text = [] }))).reply

-- the reply to `flush s`, where the objects may take so many
abbrev pub flushed : ℕ → Changes → Reply
flushed total changes = (decision marks (small total) (only_with 3 changes two_entries) (command.Flush (codes "s"))).reply

-- entry `i2` for the object of a serial
abbrev pub gives : ℕ → Reply
gives serial = reply.Entry 2 (record { home = 1; serial = serial })

pub record AreAtSmallLimits : Type 0 where
  pub one_change : created 2 one_made one_entry ≡ gives 2
  pub two_changes : created 3 two_made one_entry ≡ reply.Many
  pub last_serial_but_one : created 18446744073709551614 one_made one_entry ≡ gives 18446744073709551614
  pub last_serial : created 18446744073709551615 one_made one_entry ≡ reply.Serials
  pub one_with_entry : created 3 none_made one_entry ≡ gives 3
  pub two_with_entries : created 3 none_made two_entries ≡ reply.Entries
  pub all_refuse : created 18446744073709551615 two_made two_entries ≡ reply.Many
  pub with_room : flushed 34 two_made ≡ reply.Done
  pub without_room : flushed 33 two_made ≡ reply.Full
