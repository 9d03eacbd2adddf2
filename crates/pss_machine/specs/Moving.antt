-- What an effect makes of what is kept.
use Rattle.std.specs.Prelude.{ℕ, ◌+◌, ◌-◌, ◌==◌, ◌&&◌, ◌||◌, not, List, [], ◌∷◌, ◌++◌, length, drop, codes, decimal, Option, Bool, true, false, if◌then◌else◌}
use Rattle.std.specs.List.{list_any}
use Rattle.std.specs.FinMap.{get, insert, remove}
use Rattle.pss_base.specs.declared.pid.Pid.{Pid}
use Rattle.pss_base.specs.declared.owner.OwnerNo.{OwnerNo}
use Rattle.pss_base.specs.declared.session.SessionNo.{SessionNo}
use Rattle.type_layout.specs.Schemas.{given}
use Rattle.pss_catalog.specs.Catalog.{Catalog}
use Rattle.pss_machine.specs.declared.level.Level.{Level}
use Rattle.pss_machine.specs.declared.level.Level.TheVariants as level
use Rattle.pss_machine.specs.declared.session.Access.{Access}
use Rattle.pss_machine.specs.declared.session.Association.TheVariants.{NoTransaction, Ending}
use Rattle.pss_machine.specs.declared.session.Kind.{Kind}
use Rattle.pss_machine.specs.declared.session.Kind.TheVariants.{Basic, Transactional}
use Rattle.pss_machine.specs.declared.session.View.{View}
use Rattle.pss_machine.specs.declared.session.View.TheVariants.{Committed, Own, Kept as InCopy}
use Rattle.pss_machine.specs.Operations.{PlainOp, Create, Set, Destroy, PlainAnswer, Done, Found, Val}
use Rattle.pss_catalog.specs.Changes.{Change, over}
use Rattle.pss_machine.specs.Maps.{each, with_at}
use Rattle.pss_machine.specs.Same.{same_pid}
use Rattle.pss_machine.specs.Owners.{Owners, new_owner, net, Step, stepped}
use Rattle.pss_machine.specs.Sessions.{Session, Sessions, owner_of, is_owner, transaction_of, with_association, without_transaction}
use Rattle.pss_machine.specs.Copies.{Copies, AllCopies, no_copies, Body, same_view, view_in, number_for, obtained, at_entry, attached, detached}
use Rattle.pss_machine.specs.Kept.{Kept, Title}
use Rattle.pss_machine.specs.Asking.{Asked}
use Rattle.pss_machine.specs.Effects.{Effect, Stays, OpensBasic, OpensTransactional, ClosesBasic, ClosesTransactional, Begins, Associates, Ends, Holds, Steps, Commits, Flushes, RollsBack}

-- ---- sessions and owners that come and go

abbrev pub new_title : List ℕ → Title
new_title name = record { name = name; failed = false; commands = 0 }

-- a session comes
abbrev pub with_session : Kept → List ℕ → Kind → Access → Kept
with_session k name kind access = record k {
  sessions = insert k.sessions k.next_session (record { name = name; kind = kind; access = access; association = NoTransaction });
  copies = insert k.copies k.next_session no_copies;
  next_session = k.next_session + 1;
}

-- an owner comes
abbrev pub with_owner : Kept → List ℕ → Level → Kept
with_owner k name level = record k {
  owners = insert k.owners k.next_owner (new_owner level);
  titles = insert k.titles k.next_owner (new_title name);
  next_owner = k.next_owner + 1;
}

-- a session goes
abbrev pub without_session : Kept → SessionNo → Kept
without_session k s = record k { sessions = remove k.sessions s.0; copies = remove k.copies s.0 }

-- an owner goes, with its locks and changes
abbrev pub without_owner : Kept → OwnerNo → Kept
without_owner k n = record k { owners = remove k.owners n.0; titles = remove k.titles n.0 }

-- the session is in this transaction
abbrev pub is_in : OwnerNo → Session → Bool
is_in n session = is_owner n (transaction_of session.association)

-- a transaction goes: its sessions are in none, and none of their entries is attached
abbrev pub without_transaction_of : Kept → OwnerNo → Kept
without_transaction_of k n = record (without_owner k n) {
  sessions = each (λ s session. without_transaction n session) k.sessions;
  copies = detached k.owners k.sessions (λ s session body. is_in n session) k.copies;
}

-- ---- steps

-- a create takes its serial
abbrev pub next_after : ℕ → PlainOp → ℕ
next_after next (Create serial object) = next + 1
next_after next _ = next

abbrev pub one_more : Title → Title
one_more title = record { name = title.name; failed = title.failed; commands = title.commands + 1 }

-- the bodies of the owner's sessions on which no entry stands after the step: each of an object that it removes, and the older ones of an object that it sets
abbrev pub is_outdated : OwnerNo → Step → SessionNo → Session → Body → Bool
is_outdated n step s session body = is_owner n (owner_of session) && by_answer step.answer step.op
  where
    by_answer : PlainAnswer → PlainOp → Bool
    by_answer Done (Set p member value) = same_pid body.pid p && not (same_view body.view (Own n))
    by_answer Done (Destroy p) = same_pid body.pid p
    by_answer _ _ = false

-- the operation did what it was asked for
abbrev pub is_done : PlainAnswer → Bool
is_done Done = true
is_done (Found p) = true
is_done (Val v) = true
is_done _ = false

-- the entry that the command names is attached
abbrev pub with_named : Catalog → (Pid → View) → Option ℕ → Copies → Copies
with_named M seen named copies = given named copies (λ n. at_entry n (attached M seen) copies)

-- the object that was found is obtained, and its entry attached
abbrev pub with_found : Catalog → (Pid → View) → Bool → PlainAnswer → Copies → Copies
with_found M seen true (Found p) copies = at_entry (number_for copies p) (attached M seen) (obtained p copies)
with_found M seen _ _ copies = copies

-- the entries of the session after the step, where it did what it was asked for
abbrev pub seated : Catalog → (Pid → View) → Asked → PlainAnswer → Copies → Copies
seated M seen asked answer copies = if is_done answer then with_found M seen asked.obtains answer (with_named M seen asked.entry copies) else copies

-- how a session sees objects
abbrev pub seen_in : Owners → Sessions → SessionNo → Pid → View
seen_in owners sessions s pid = given (get sessions s.0) Committed (λ session. view_in owners s session pid)

abbrev pub owners_after : Kept → OwnerNo → Step → Owners
owners_after k n step = with_at k.owners n.0 (stepped step)

-- outdated bodies are left first, by the names before the step; what is attached then stands as the owner sees it after the step
abbrev pub copies_after : Kept → OwnerNo → SessionNo → Step → Asked → AllCopies
copies_after k n s step asked =
    with_at (detached k.owners k.sessions (is_outdated n step) k.copies) s.0
    (seated k.catalog (seen_in (owners_after k n step) k.sessions s) asked step.answer)

abbrev pub after_step : Kept → OwnerNo → SessionNo → Step → Asked → Kept
after_step k n s step asked = record k {
  next = next_after k.next step.op;
  owners = owners_after k n step;
  titles = with_at k.titles n.0 one_more;
  copies = copies_after k n s step asked;
}

-- ---- commits

-- a commit joins the history where it is serializable or changed an object
abbrev pub joins : Level → List Change → Bool
joins level.Serializable changes = true
joins level.ReadCommitted [] = false
joins level.ReadCommitted (c ∷ cs) = true
joins level.Basic [] = false
joins level.Basic (c ∷ cs) = true

abbrev pub level_text : Level → List ℕ
level_text level.Serializable = codes "SERIALIZABLE"
level_text level.ReadCommitted = codes "READ_COMMITTED"
level_text level.Basic = codes "BASIC"

-- the owner's name, its level, how many data commands it has done, and how many objects it changed
abbrev pub commit_text : Title → Level → List Change → List ℕ
commit_text title level changes = title.name ++ codes ":" ++ level_text level ++ codes ":" ++ decimal title.commands ++ codes ":" ++ decimal (length changes)

-- the last 64
abbrev pub last_64 : List (List ℕ) → List (List ℕ)
last_64 texts = drop (length texts - 64) texts

-- one of these objects is changed
abbrev pub is_among : List Change → Pid → Bool
is_among changes pid = list_any (λ c. c.serial == pid.serial) changes

-- the bodies on which no entry stands after a commit: the owner's own, and the committed ones of what it changed
abbrev pub is_settled : OwnerNo → List Change → SessionNo → Session → Body → Bool
is_settled n changes s session body = by_view body.view
  where
    by_view : View → Bool
    by_view Committed = is_among changes body.pid
    by_view (Own m) = m.0 == n.0
    by_view (InCopy t) = false

-- the changes are committed, and told in the history
abbrev pub with_commit : Kept → OwnerNo → Title → Level → List Change → Kept
with_commit k n title level changes = record k {
  catalog = over k.catalog changes;
  copies = detached k.owners k.sessions (is_settled n changes) k.copies;
  commits = if joins level changes then k.commits + 1 else k.commits;
  recent = if joins level changes then last_64 (k.recent ++ commit_text title level changes ∷ []) else k.recent;
}

abbrev pub title_of : Kept → OwnerNo → Title
title_of k n = given (get k.titles n.0) (new_title []) (λ title. title)

-- what an owner changed is committed
abbrev pub settled : Kept → OwnerNo → Kept
settled k n = given (get k.owners n.0) k (λ owner. with_commit k n (title_of k n) owner.level (net k.catalog owner))

abbrev pub unspent : Title → Title
unspent title = record { name = title.name; failed = title.failed; commands = 0 }

-- an owner that has locked, changed and done nothing again
abbrev pub emptied : Kept → OwnerNo → Kept
emptied k n = record k {
  owners = with_at k.owners n.0 (λ owner. new_owner owner.level);
  titles = with_at k.titles n.0 unspent;
}

-- ---- all effects

abbrev pub marked : Bool → Title → Title
marked failed title = record { name = title.name; failed = title.failed || failed; commands = title.commands }

abbrev pub is_session : SessionNo → SessionNo → Bool
is_session s t = s.0 == t.0

-- the session's part is done, and none of its entries is attached
abbrev pub ended : Kept → SessionNo → OwnerNo → Bool → Kept
ended k s n failed = record k {
  sessions = with_at k.sessions s.0 (with_association (Ending n));
  copies = detached k.owners k.sessions (λ t session body. is_session s t) k.copies;
  titles = with_at k.titles n.0 (marked failed);
}

abbrev pub moved : Kept → Effect → Kept
moved k Stays = k
moved k (OpensBasic name access) = with_owner (with_session k name (Basic (record { 0 = k.next_owner })) access) name level.Basic
moved k (OpensTransactional name access) = with_session k name Transactional access
moved k (ClosesBasic s n) = without_owner (without_session k s) n
moved k (ClosesTransactional s) = without_session k s
moved k (Begins name level) = with_owner k name level
moved k (Associates s association) = record k { sessions = with_at k.sessions s.0 (with_association association) }
moved k (Ends s n failed) = ended k s n failed
moved k (Holds s copies) = record k { copies = insert k.copies s.0 copies }
moved k (Steps n s step asked) = after_step k n s step asked
moved k (Commits n) = without_transaction_of (settled k n) n
moved k (Flushes n) = emptied (settled k n) n
moved k (RollsBack n) = without_transaction_of k n
