-- Which entries the sessions have, and which bodies these stand on.
use Rattle.std.specs.Prelude.{ℕ, ◌≡◌, ◌⊎◌, ◌+◌, ◌-◌, ◌<◌, ◌≤◌, ◌==◌, ◌&&◌, List, filter, length, Option, Some, None, IsSome, IsSomeAnd, MatchOption, Bool, false, is_some, nat_lt, cond, refl}
use Rattle.std.specs.Option.{option_map, option_and_then}
use Rattle.std.specs.Coded.{Coded, code_by, coded×, coded_ℕ}
use Rattle.std.specs.FinMap as map
use Rattle.std.specs.FinMap.{FinMap, get, insert, remove}
use Rattle.pss_base.specs.declared.pid.Pid.{Pid}
use Rattle.pss_base.specs.declared.session.SessionNo.{SessionNo}
use Rattle.type_layout.specs.Types.{PlainValue}
use Rattle.type_layout.specs.Schemas.{given}
use Rattle.type_layout.specs.Codes.{record_code}
use Rattle.pss_machine.specs.declared.session.View.{View}
use Rattle.pss_machine.specs.Same.{same_pid}
use Rattle.pss_machine.specs.Copies.{same_view}
use Rattle.incarnations.specs.declared.names.Slot.{Slot}
use Rattle.incarnations.specs.declared.names.BodyName.{BodyName}
use Rattle.incarnations.specs.declared.names.Entry.{Entry}
use Rattle.incarnations.specs.Keys.{session_cmp, slot_cmp, body_cmp}
use Rattle.incarnations.specs.Codes.{session_code, slot_code, body_name_code, entry_code}
use Rattle.recent_table.specs.Maps.{count}

-- of each session the last number that an entry of it was given; the entries by session and number; the bodies by
-- object and view, with the values of the object there
pub record Meaning : Type 0 where
  pub lasts : FinMap session_cmp ℕ
  pub entries : FinMap slot_cmp Entry
  pub bodies : FinMap body_cmp (List PlainValue)

-- a meaning is stored as the tuple of its parts
abbrev pub meaning_code : Coded Meaning
meaning_code =
    code_by
    (FinMap session_cmp ℕ × (FinMap slot_cmp Entry × FinMap body_cmp (List PlainValue)))
    (coded× (map.code session_code coded_ℕ) (coded× (map.code slot_code entry_code) (map.code body_name_code record_code)))
    (λ m. (m.lasts, (m.entries, m.bodies)))
    (λ q. record { lasts = q.0; entries = q.1.0; bodies = q.1.1 })
    (λ _. refl)

-- ---- names

abbrev pub slot : SessionNo → ℕ → Slot
slot s n = record { session = s; number = n }

abbrev pub body : Pid → View → BodyName
body pid view = record { pid = pid; view = view }

abbrev pub same_slot : Slot → Slot → Bool
same_slot a b = (a.session.0 == b.session.0) && (a.number == b.number)

abbrev pub same_body : BodyName → BodyName → Bool
same_body a b = same_pid a.pid b.pid && same_view a.view b.view

-- ---- entries

-- of no session yet
abbrev pub no_copies : Meaning
no_copies = record { lasts = map.empty; entries = map.empty; bodies = map.empty }

abbrev pub entry_at : Meaning → SessionNo → ℕ → Option Entry
entry_at m s n = get m.entries (slot s n)

abbrev pub is_of : SessionNo → Slot × Entry → Bool
is_of s e = e.0.session.0 == s.0

-- the entries of a session, in the order of their numbers
abbrev pub entries_of : Meaning → SessionNo → List (Slot × Entry)
entries_of m s = filter (is_of s) (map.entries m.entries)

-- how many they are
abbrev pub length_of : Meaning → SessionNo → ℕ
length_of m s = length (entries_of m s)

abbrev pub is_attached : Slot × Entry → Bool
is_attached e = is_some e.1.view

-- how many of them stand on a body
abbrev pub attached_of : Meaning → SessionNo → ℕ
attached_of m s = count (λ e. is_of s e && is_attached e) m.entries

abbrev pub with_count : ℕ → Entry → Entry
with_count n e = record { pid = e.pid; count = n; view = e.view }

abbrev pub with_view : Option View → Entry → Entry
with_view view e = record { pid = e.pid; count = e.count; view = view }

abbrev pub with_entry : Meaning → Slot → Entry → Meaning
with_entry m x e = record { lasts = m.lasts; entries = insert m.entries x e; bodies = m.bodies }

-- a session comes, and no entry of it was given a number
abbrev pub opened : Meaning → SessionNo → Meaning
opened m s = record { lasts = insert m.lasts s 0; entries = m.entries; bodies = m.bodies }

-- a session goes
abbrev pub closed : Meaning → SessionNo → Meaning
closed m s = record { lasts = remove m.lasts s; entries = m.entries; bodies = m.bodies }

-- no entry of the session is for the object
abbrev pub HasNoEntry : Meaning → SessionNo → Pid → Type 0
HasNoEntry m s pid = (n : ℕ) (e : Entry) → entry_at m s n ≡ Some e → e.pid ≡ pid → ⊥

-- ---- bodies

-- the body that an entry stands on
abbrev pub body_of : Entry → Option BodyName
body_of e = option_map (body e.pid) e.view

abbrev pub stands_on : BodyName → Slot × Entry → Bool
stands_on b e = given (body_of e.1) false (same_body b)

-- how many entries stand on a body
abbrev pub entries_on : Meaning → BodyName → ℕ
entries_on m b = count (stands_on b) m.entries

-- the body that an entry stands on, by its name
abbrev pub body_under : Meaning → Slot → Option BodyName
body_under m x = option_and_then body_of (get m.entries x)

-- ---- what always holds

pub record AreCopies (m : Meaning) : Type 0 where
  -- numbers are from 1 to the last one that was given
  pub numbers : (x : Slot) (e : Entry) → get m.entries x ≡ Some e → IsSomeAnd (get m.lasts x.session) (λ last. (0 < x.number) × (x.number ≤ last))
  pub counts : (x : Slot) (e : Entry) → get m.entries x ≡ Some e → 0 < e.count
  -- a session has at most one entry for an object
  pub objects : (x y : Slot) (e f : Entry) → get m.entries x ≡ Some e → get m.entries y ≡ Some f → x.session ≡ y.session → e.pid ≡ f.pid → x ≡ y
  -- an entry stands on a body that is there, and on each body stands an entry
  pub bodies : (x : Slot) (b : BodyName) → body_under m x ≡ Some b → IsSome (get m.bodies b)
  pub stood_on : (b : BodyName) → IsSome (get m.bodies b) → 0 < entries_on m b

-- ---- what calls do

-- each entry becomes what a function makes of it, and the bodies on which one still stands are left
pub record Leaves (f : Slot → Entry → Option Entry) (old new : Meaning) : Type 0 where
  pub entries : (x : Slot) → get new.entries x ≡ option_and_then (f x) (get old.entries x)
  pub bodies : (b : BodyName) → get new.bodies b ≡ cond (nat_lt 0 (entries_on new b)) (get old.bodies b) None

-- the entries that pass a test stand on no body
abbrev pub loosened : (Slot → Entry → Bool) → Slot → Entry → Option Entry
loosened test x e = Some (cond (test x e) (with_view None e) e)

-- the entries that pass a test are gone
abbrev pub freed : (Slot → Entry → Bool) → Slot → Entry → Option Entry
freed test x e = cond (test x e) None (Some e)

abbrev pub of_session : SessionNo → Slot → Entry → Bool
of_session s x e = is_of s (x, e)

abbrev pub on_body : BodyName → Slot → Entry → Bool
on_body b x e = stands_on b (x, e)

-- it stands on a body of the view
abbrev pub in_view : View → Slot → Entry → Bool
in_view view x e = given e.view false (same_view view)

abbrev pub both : (Slot → Entry → Bool) → (Slot → Entry → Bool) → Slot → Entry → Bool
both f g x e = f x e && g x e

-- an entry for an object is obtained for the first time
pub record IsNew (old new : Meaning) (s : SessionNo) (pid : Pid) (n : ℕ) : Type 0 where
  pub none : HasNoEntry old s pid
  pub next : IsSomeAnd (get old.lasts s) (λ last. n ≡ last + 1)
  pub is : new ≡ record { lasts = insert old.lasts s n; entries = insert old.entries (slot s n) (record { pid = pid; count = 1; view = None }); bodies = old.bodies }

-- it is obtained again
pub record IsAgain (old new : Meaning) (s : SessionNo) (pid : Pid) (n : ℕ) (e : Entry) : Type 0 where
  pub same : e.pid ≡ pid
  pub is : new ≡ with_entry old (slot s n) (with_count (e.count + 1) e)

-- the last of an entry's count is released, and it goes
pub record IsGone (old new : Meaning) (x : Slot) : Type 0 where
  pub lasts : new.lasts ≡ old.lasts
  pub left : Leaves (freed (λ y e. same_slot y x)) old new

-- an object is obtained in a session
abbrev pub IsObtained : Meaning → Meaning → SessionNo → Pid → ℕ → Type 0
IsObtained old new s pid n = MatchOption (entry_at old s n) (IsNew old new s pid n) (IsAgain old new s pid n)

-- an entry is released once
abbrev pub IsReleased : Meaning → Meaning → Slot → Entry → Type 0
IsReleased old new x e = ((e.count ≡ 1) × IsGone old new x) ⊎ ((1 < e.count) × (new ≡ with_entry old x (with_count (e.count - 1) e)))

-- an entry comes to stand on a new body of its object
abbrev pub attached : Meaning → Slot → View → List PlainValue → Entry → Meaning
attached m x view value e = record { lasts = m.lasts; entries = insert m.entries x (with_view (Some view) e); bodies = insert m.bodies (body e.pid view) value }

-- the body of an owner has another value, where there is one
abbrev pub rewritten : Meaning → BodyName → List PlainValue → Meaning
rewritten m b value = record { lasts = m.lasts; entries = m.entries; bodies = given (get m.bodies b) m.bodies (λ v. insert m.bodies b value) }
