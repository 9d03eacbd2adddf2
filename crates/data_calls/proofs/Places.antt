-- Entries that are named, and objects that are found: the way goes on over them.
use Rattle.std.proofs.Common.{◌≡◌, ℕ, ◌<◌, ◌-◌, ◌^◌, Bool, true, false, List, Option, Some, None, IsSome, IsSomeAnd, refl, sym, ap, ◌∙◌, subst}
use Rattle.std.specs.Prelude.{IfSome, unwrap_or, if◌then◌else◌}
use Rattle.std.specs.Option.{option_map}
use Rattle.std.specs.FinMap.{get}
use Rattle.pss_base.specs.declared.pid.Pid.{Pid}
use Rattle.type_layout.specs.Types.{PlainValue}
use Rattle.pss_machine.specs.Operations.{PlainAnswer, Done, Found, IsThere, Val, Number, Listing, NotFound, Gone, Nil, Duplicate, TooLarge, Busy}
use Rattle.pss_machine.specs.Copies.{Copies, no_copies, obtained}
use Rattle.pss_machine.specs.Kept.{copies_of}
use Rattle.pss_machine.specs.Moving.{is_done}
use Rattle.pss_machine.proofs.Maps.{with_here}
use Rattle.incarnations.specs.declared.names.Entry.{Entry}
use Rattle.incarnations.specs.Meaning.{HasNoEntry, entry_at, length_of}
use Rattle.owner_accounts.specs.declared.accounts.Accounts.{Accounts}
use Rattle.owner_accounts.specs.Accounts.{AreAccounts}
use Rattle.pss_copies.specs.Told.{entry_told, IsTold}
use Rattle.pss_copies.specs.Seats.{IsObtainedIn, seated_at}
use Rattle.pss_copies.proofs.Counts.{length_at}
use Rattle.connector_parts.specs.declared.parts.Parts.{Parts}
use Rattle.data_calls.specs.declared.acting.Acting.{Acting}
use Rattle.data_calls.specs.Ways.{IsOnWay, IsSeen, HasValues, named_at, obtained_at, found_at, entry_found, MaySeat, MayName, MayObtain, MayFind, IsNamedNow, IsObtainedNow, IsFoundNow}
use Rattle.data_calls.proofs.Entries.{HasEntry, obtained_entry}

-- ---- the entry that a command names

module _ {c : Parts} {acting : Acting} {entry : Option ℕ} {answer : PlainAnswer} (m : MayName c acting entry answer) where
  -- nothing was done
  pub undone_way : is_done answer ≡ false → IsNamedNow m c
  undone_way e = subst (λ (b : Bool). IsOnWay m.on.schema m.on.limits c m.on.to (if b then named_at m.on.now acting.session entry else m.on.now)) (sym e) m.on.way

  -- no entry is named
  pub unnamed_way : entry ≡ None → IsNamedNow m c
  unnamed_way e = subst (λ (o : Option ℕ). IsOnWay m.on.schema m.on.limits c m.on.to (if is_done answer then named_at m.on.now acting.session o else m.on.now)) (sym e) (by (is_done answer))
    where
      by : (b : Bool) → IsOnWay m.on.schema m.on.limits c m.on.to (if b then m.on.now else m.on.now)
      by true = m.on.way
      by false = m.on.way

  -- one is
  abbrev pub may_seat_named : is_done answer ≡ true → (n : ℕ) → entry ≡ Some n → MaySeat c acting n None
  may_seat_named done n is = record { on = m.on; can = m.can done n is; made_is = tt }

  pub named_way : is_done answer ≡ true → (n : ℕ) → entry ≡ Some n → (new : Parts) → IsOnWay m.on.schema m.on.limits new m.on.to (seated_at m.on.now acting.session n) → IsNamedNow m new
  named_way done n is new way =
      subst (λ (b : Bool). IsOnWay m.on.schema m.on.limits new m.on.to (if b then named_at m.on.now acting.session entry else m.on.now)) (sym done)
      (subst (λ (o : Option ℕ). IsOnWay m.on.schema m.on.limits new m.on.to (named_at m.on.now acting.session o)) (sym is) way)

-- ---- an object that is obtained

there_of : (o : Option Copies) → IsSome o → o ≡ Some (unwrap_or o no_copies)
there_of None h = absurd cc
there_of (Some c) h = refl

module _ {c : Parts} {acting : Acting} {p : Pid} {made : Option (List PlainValue)} (m : MayObtain c acting p made) where
  before_there : get m.on.now.copies acting.session.0 ≡ Some (copies_of m.on.now acting.session)
  before_there = there_of (get m.on.now.copies acting.session.0) m.can.there

  told : IsTold c.attended.copies acting.session (copies_of m.on.now acting.session)
  told = m.on.way.attended.seats.told.each acting.session (copies_of m.on.now acting.session) before_there

  pub session_there : IsSome (get c.attended.copies.lasts acting.session)
  session_there = subst IsSome (sym told.last) refl

  pub has_room : length_of c.attended.copies acting.session < 65535
  has_room = subst (λ (n : ℕ). n < 65535) (sym (length_at m.on.now c.attended acting.session (copies_of m.on.now acting.session) before_there m.can.orderly m.on.way.attended)) m.can.room

  pub count_left : (n : ℕ) (e : Entry) → entry_at c.attended.copies acting.session n ≡ Some e → e.pid ≡ p → e.count < 2 ^ 32 - 1
  count_left n e is of = m.can.counts n (entry_told c.attended.copies n e) (told.entries n ∙ ap (option_map (entry_told c.attended.copies n)) is)

  pub number_left : HasNoEntry c.attended.copies acting.session p → IsSomeAnd (get c.attended.copies.lasts acting.session) (λ last. last < 2 ^ 32 - 1)
  number_left none = subst (λ (o : Option ℕ). IsSomeAnd o (λ last. last < 2 ^ 32 - 1)) (sym told.last) m.can.last

  module _ (new : Parts) (n : ℕ) (schema : new.schema ≡ c.schema) (limited : new.limits ≡ c.limits) (accounts : new.accounts ≡ c.accounts) (is : IsObtainedIn m.on.now acting.session p n new.attended) where
    entries_now : copies_of (obtained_at m.on.now acting.session p) acting.session ≡ obtained p (copies_of m.on.now acting.session)
    entries_now = ap (λ (o : Option Copies). unwrap_or o no_copies) (with_here m.on.now.copies acting.session.0 (obtained p) ∙ ap (option_map (obtained p)) before_there)

    pub entry_now : HasEntry (copies_of (obtained_at m.on.now acting.session p) acting.session) p n
    entry_now =
        subst (λ (d : Copies). HasEntry d p n) (sym entries_now)
        (subst (λ (i : ℕ). HasEntry (obtained p (copies_of m.on.now acting.session)) p i) (sym is.0) (obtained_entry p (copies_of m.on.now acting.session) m.can.orderly))

    pub way_now : IsOnWay m.on.schema m.on.limits new m.on.to (obtained_at m.on.now acting.session p)
    way_now = record {
      schema_is = schema ∙ m.on.way.schema_is;
      limits_is = limited ∙ m.on.way.limits_is;
      reached = m.on.way.reached;
      accounts = subst (λ (a : Accounts). AreAccounts m.on.schema a m.on.to) (sym accounts) m.on.way.accounts;
      attended = is.1;
      catalog = m.on.way.catalog;
      owners = m.on.way.owners;
      sessions = m.on.way.sessions;
    }

    -- its entry may stand on a body
    abbrev pub may_seat_obtained : MaySeat new acting n made
    may_seat_obtained = record {
      on = record { schema = m.on.schema; limits = m.on.limits; to = m.on.to; now = obtained_at m.on.now acting.session p; way = way_now; is = m.on.is };
      can = record { entry = entry_now.entry; there = entry_now.there; seen = λ loose. subst (IsSeen m.on.to acting m.on.is) (sym entry_now.object) m.can.seen };
      made_is = subst (λ (q : Pid). IfSome made (HasValues m.on.to acting m.on.is q)) (sym entry_now.object) m.made_is;
    }

    pub obtained_way : (later : Parts) → IsOnWay m.on.schema m.on.limits later m.on.to (seated_at (obtained_at m.on.now acting.session p) acting.session n) → IsObtainedNow m n later
    obtained_way later way = (is.0, subst (λ (i : ℕ). IsOnWay m.on.schema m.on.limits later m.on.to (seated_at (obtained_at m.on.now acting.session p) acting.session i)) is.0 way)

-- ---- what was found

module _ {c : Parts} {acting : Acting} {obtains : Bool} {answer : PlainAnswer} {made : Option (List PlainValue)} (m : MayFind c acting obtains answer made) where
  -- it is not to be obtained
  pub unwanted_way : obtains ≡ false → IsFoundNow m None c
  unwanted_way e = subst (λ (b : Bool). (None ≡ entry_found b answer (copies_of m.on.now acting.session)) × IsOnWay m.on.schema m.on.limits c m.on.to (found_at m.on.now acting.session b answer)) (sym e) (refl, m.on.way)

  -- nothing was found
  pub unfound_way : ((p : Pid) → answer ≡ Found p → ⊥) → IsFoundNow m None c
  unfound_way other = by obtains answer other
    where
      by : (b : Bool) (a : PlainAnswer) → ((p : Pid) → a ≡ Found p → ⊥) → (None ≡ entry_found b a (copies_of m.on.now acting.session)) × IsOnWay m.on.schema m.on.limits c m.on.to (found_at m.on.now acting.session b a)
      by true (Found p) other = absurd (other p refl)
      by true Done other = (refl, m.on.way)
      by true (IsThere b) other = (refl, m.on.way)
      by true (Val v) other = (refl, m.on.way)
      by true (Number n) other = (refl, m.on.way)
      by true (Listing n first) other = (refl, m.on.way)
      by true NotFound other = (refl, m.on.way)
      by true (Gone p) other = (refl, m.on.way)
      by true Nil other = (refl, m.on.way)
      by true (Duplicate key) other = (refl, m.on.way)
      by true TooLarge other = (refl, m.on.way)
      by true (Busy n) other = (refl, m.on.way)
      by false a other = (refl, m.on.way)

  -- an object was
  abbrev pub may_obtain : obtains ≡ true → (p : Pid) → answer ≡ Found p → MayObtain c acting p made
  may_obtain e p is = record { on = m.on; can = m.can e p is; made_is = m.made_is p is }

  pub found_way : (e : obtains ≡ true) (p : Pid) (is : answer ≡ Found p) (n : ℕ) (new : Parts) → IsObtainedNow (may_obtain e p is) n new → IsFoundNow m (Some n) new
  found_way e p is n new h =
      subst (λ (b : Bool). (Some n ≡ entry_found b answer (copies_of m.on.now acting.session)) × IsOnWay m.on.schema m.on.limits new m.on.to (found_at m.on.now acting.session b answer)) (sym e)
      (subst (λ (a : PlainAnswer). (Some n ≡ entry_found true a (copies_of m.on.now acting.session)) × IsOnWay m.on.schema m.on.limits new m.on.to (found_at m.on.now acting.session true a)) (sym is) (ap Some h.0, h.1))
