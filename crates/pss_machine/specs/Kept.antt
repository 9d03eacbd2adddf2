-- What the machine keeps from one command to the next, and what is found in it.
use Rattle.std.specs.Prelude.{ℕ, List, [], find, filter, length, Option, None, Bool, false, not, ◌&&◌, ◌||◌, is_some, unwrap_or}
use Rattle.std.specs.Option.{option_map}
use Rattle.std.specs.Ordering.{nat_cmp}
use Rattle.std.specs.FinMap.{FinMap, get, entries, empty}
use Rattle.std.specs.Str.{bytes_eq}
use Rattle.pss_base.specs.declared.owner.OwnerNo.{OwnerNo}
use Rattle.pss_base.specs.declared.session.SessionNo.{SessionNo}
use Rattle.type_layout.specs.Schemas.{given}
use Rattle.pss_catalog.specs.Catalog.{Catalog}
use Rattle.pss_machine.specs.Owners.{Owner, Owners, is_basic}
use Rattle.pss_machine.specs.Sessions.{Session, Sessions, acts_for, session_named}
use Rattle.pss_machine.specs.Copies.{Copies, AllCopies, no_copies}

-- an owner as it is called: its name, whether it was marked to be rolled back, and how many data commands it has done
pub record Title : Type 0 where
  pub name : List ℕ
  pub failed : Bool
  pub commands : ℕ

pub record Kept : Type 0 where
  -- the committed objects, and the serial that the next one takes
  pub catalog : Catalog
  pub next : ℕ
  -- the transactions and the basic sessions as owners, and as they are called; the number of the next one
  pub owners : Owners
  pub titles : FinMap nat_cmp Title
  pub next_owner : ℕ
  -- the sessions, and the entries of each; the number of the next one
  pub sessions : Sessions
  pub copies : AllCopies
  pub next_session : ℕ
  -- how many commits there were, and the texts of the last of them, oldest first
  pub commits : ℕ
  pub recent : List (List ℕ)

-- nobody is there yet
abbrev pub first_kept : Catalog → ℕ → Kept
first_kept M next = record {
  catalog = M;
  next = next;
  owners = empty;
  titles = empty;
  next_owner = 1;
  sessions = empty;
  copies = empty;
  next_session = 1;
  commits = 0;
  recent = [];
}

-- ---- what is found

abbrev pub name_of : Kept → OwnerNo → List ℕ
name_of k n = given (get k.titles n.0) [] (λ title. title.name)

-- a transaction, and no basic session, has this number
abbrev pub is_transaction : Owners → ℕ → Bool
is_transaction owners n = given (get owners n) false (λ owner. not (is_basic owner.level))

-- the transaction of a name
abbrev pub transaction_named : Kept → List ℕ → Option OwnerNo
transaction_named k name = option_map (λ e. record { 0 = e.0 }) (find (λ e. bytes_eq e.1.name name && is_transaction k.owners e.0) (entries k.titles))

-- a session or a transaction has this name
abbrev pub is_in_use : Kept → List ℕ → Bool
is_in_use k name = is_some (session_named k.sessions name) || is_some (transaction_named k name)

abbrev pub transaction_count : Kept → ℕ
transaction_count k = length (filter (λ e. not (is_basic e.1.level)) (entries k.owners))

-- the entries of a session
abbrev pub copies_of : Kept → SessionNo → Copies
copies_of k s = unwrap_or (get k.copies s.0) no_copies

-- an owner with its number
pub record Actor : Type 0 where
  pub number : OwnerNo
  pub owner : Owner

-- who acts in a session's data commands, where they may be
abbrev pub actor_in : Owners → Session → Option Actor
actor_in owners session = given (acts_for session) None (λ n. option_map (λ owner. record { number = n; owner = owner }) (get owners n.0))
