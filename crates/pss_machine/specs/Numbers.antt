-- How sessions and their entries are numbered in every run.
use Rattle.std.specs.Prelude.{ℕ, ◌≡◌, ◌<◌, List, ◌++◌, Some, Bool, false, is_some, IsTrue}
use Rattle.std.specs.FinMap.{get}
use Rattle.pss_base.specs.declared.session.SessionNo.{SessionNo}
use Rattle.type_layout.specs.declared.schema.Schema.{Schema}
use Rattle.pss_catalog.specs.Catalog.{Catalog}
use Rattle.pss_machine.specs.declared.limits.Limits.{Limits}
use Rattle.pss_machine.specs.Sessions.{Session}
use Rattle.pss_machine.specs.Copies.{Entry, entry_numbered}
use Rattle.pss_machine.specs.Kept.{Kept, copies_of}
use Rattle.pss_machine.specs.Run.{Said, first, run}

-- ---- moments of a run

-- in every run, of what is kept at a moment and at a later one
abbrev pub AtTwoMoments : (Kept → Kept → Type 0) → Type 0
AtTwoMoments P = (S : Schema) (limits : Limits) (M : Catalog) (next : ℕ) (xs ys : List Said) → P (run S limits (first M next) xs).kept (run S limits (first M next) (xs ++ ys)).kept

-- in every run, of what is kept at a moment, at a later one and at one later still
abbrev pub AtThreeMoments : (Kept → Kept → Kept → Type 0) → Type 0
AtThreeMoments P =
    (S : Schema) (limits : Limits) (M : Catalog) (next : ℕ) (xs ys zs : List Said)
    → P (run S limits (first M next) xs).kept (run S limits (first M next) (xs ++ ys)).kept (run S limits (first M next) (xs ++ ys ++ zs)).kept

-- ---- numbers that come once

-- a number that comes after a moment is above all that were there at that moment or before; so none that went comes again
abbrev pub ComeOnce : (Kept → ℕ → Bool) → Type 0
ComeOnce is_there = AtThreeMoments (λ before then later. (m n : ℕ) → IsTrue (is_there before m) → is_there then n ≡ false → IsTrue (is_there later n) → m < n)

-- a session has this number
abbrev pub has_session : Kept → ℕ → Bool
has_session k n = is_some (get k.sessions n)

-- an entry of the session has this number
abbrev pub has_entry : SessionNo → Kept → ℕ → Bool
has_entry s k n = is_some (entry_numbered (copies_of k s) n)

abbrev pub SessionsComeOnce : Type 0
SessionsComeOnce = ComeOnce has_session

abbrev pub EntriesComeOnce : Type 0
EntriesComeOnce = (s : SessionNo) → ComeOnce (has_entry s)

-- ---- what a number stands for

-- it is the session that was opened, whatever it is associated with
pub record IsSameSession (old new : Session) : Type 0 where
  pub name : new.name ≡ old.name
  pub kind : new.kind ≡ old.kind
  pub access : new.access ≡ old.access

-- a number stands for one session as long as it is there
abbrev pub SessionsStay : Type 0
SessionsStay = AtTwoMoments (λ before later. (n : ℕ) (old new : Session) → get before.sessions n ≡ Some old → get later.sessions n ≡ Some new → IsSameSession old new)

-- in a session a number stands for one object as long as an entry has it
abbrev pub EntriesStay : Type 0
EntriesStay = AtTwoMoments (λ before later. (s : SessionNo) (n : ℕ) (old new : Entry) → entry_numbered (copies_of before s) n ≡ Some old → entry_numbered (copies_of later s) n ≡ Some new → new.pid ≡ old.pid)
