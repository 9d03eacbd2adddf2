-- Sessions that are associated otherwise, and transactions that go.
use Rattle.std.proofs.Common.{arith, ◌≡◌, ℕ, ◌==◌, Bool, true, false, List, Option, Some, None, IsSomeAnd, refl, sym, ap, ◌∙◌, subst, inl, inr}
use Rattle.std.specs.Prelude.{◌⊎◌, ◌||◌, is_some, if◌then◌else◌}
use Rattle.std.specs.Option.{option_map}
use Rattle.std.specs.FinMap.{get, insert, remove}
use Rattle.std.proofs.lemmas.Bool.{eqb-true, eq-eqb}
use Rattle.pss_base.specs.declared.pid.Pid.{Pid}
use Rattle.pss_base.specs.declared.owner.OwnerNo.{OwnerNo}
use Rattle.pss_base.specs.declared.session.SessionNo.{SessionNo}
use Rattle.type_layout.specs.Types.{PlainValue}
use Rattle.type_layout.specs.Schemas.{given}
use Rattle.pss_machine.specs.declared.level.Level.{Level}
use Rattle.pss_machine.specs.declared.session.View.{View}
use Rattle.pss_machine.specs.declared.session.View.TheVariants.{Committed, Own, Kept as InCopy}
use Rattle.pss_machine.specs.declared.session.Kind.{Kind}
use Rattle.pss_machine.specs.declared.session.Kind.TheVariants.{Basic, Transactional}
use Rattle.pss_machine.specs.declared.session.Association.{Association}
use Rattle.pss_machine.specs.declared.session.Association.TheVariants.{NoTransaction, Active, Suspended, Ending}
use Rattle.pss_machine.specs.Maps.{each, with_at}
use Rattle.pss_machine.specs.Owners.{Owner, Owners, new_owner, has_changed}
use Rattle.pss_machine.specs.Sessions.{Session, Sessions, is_basic, owner_of, active_in, open_in, transaction_of, with_association, without_transaction}
use Rattle.pss_machine.specs.Copies.{view_in, unchanged_in, is_changed_by}
use Rattle.pss_machine.specs.Kept.{Kept, is_transaction}
use Rattle.pss_machine.specs.Effects.{Associates}
use Rattle.pss_machine.specs.Moving.{moved, ended, is_session, with_owner, without_owner, without_transaction_of, is_in}
use Rattle.pss_machine.specs.Attaching.{is_open}
use Rattle.pss_machine.proofs.Maps.{get_each, same_or_apart, insert_apart, remove_here, remove_apart, with_here, with_apart}
use Rattle.pss_machine.proofs.Logic.{none_some, same_some, true_false}
use Rattle.pss_session.proofs.Having.{have_associated, have_told}
use Rattle.pss_session.specs.Meaning.{Meaning as Standing, HaveSessions, session_at, associated as associated_in, finished as finished_in, MayStart, of_sessions, is_in as is_in_it}
use Rattle.incarnations.specs.declared.names.Slot.{Slot}
use Rattle.incarnations.specs.declared.names.Entry.{Entry}
use Rattle.incarnations.specs.Meaning.{Meaning, AreCopies, Leaves, loosened, of_session, stands_on, same_body, body}
use Rattle.incarnations.proofs.Keys.{slot_key, body_told}
use Rattle.pss_copies.specs.declared.parts.Parts.{Parts}
use Rattle.pss_copies.specs.Ruled.{IsOwned, AreOwned}
use Rattle.pss_copies.specs.Seats.{IsSeat, AreSeated, AreValued, Seats, Attends}
use Rattle.pss_copies.proofs.Holders.{Holder, holder}
use Rattle.pss_copies.proofs.Left.{kept_entry, valued_less, told_left}
use Rattle.pss_copies.proofs.Seated.{seat_moves, seat_stays, seat_owned}
use Rattle.pss_copies.proofs.Owning.{owned_finished}

-- ---- whose a body is

-- a session that sees an object as an owner has changed it belongs to that owner, who has changed it
pub view_owner : (owners : Owners) (s : SessionNo) (x : Session) (pid : Pid) (m : OwnerNo) → Own m ≡ view_in owners s x pid → (owner_of x ≡ Some m) × (is_changed_by owners m pid ≡ true)
view_owner owners s x pid m is = by (owner_of x) refl is
  where
    not_own : (b : Bool) → Own m ≡ (if b then InCopy s else Committed) → ⊥
    not_own true e = cc
    not_own false e = cc

    same_number : (n : OwnerNo) → Own m ≡ Own n → n ≡ m
    same_number n e = cc

    changed : (n : OwnerNo) (b : Bool) → is_changed_by owners n pid ≡ b → owner_of x ≡ Some n → Own m ≡ (if b then Own n else unchanged_in s x) → (owner_of x ≡ Some m) × (is_changed_by owners m pid ≡ true)
    changed n true at of e = (of ∙ ap Some (same_number n e), ap (λ q. is_changed_by owners q pid) (sym (same_number n e)) ∙ at)
    changed n false at of e = absurd (not_own (is_basic x) e)

    by : (o : Option OwnerNo) → owner_of x ≡ o → Own m ≡ given o (unchanged_in s x) (λ n. if is_changed_by owners n pid then Own n else unchanged_in s x) → (owner_of x ≡ Some m) × (is_changed_by owners m pid ≡ true)
    by None of e = absurd (not_own (is_basic x) e)
    by (Some n) of e = changed n (is_changed_by owners n pid) refl of e

-- who stands on an owner's own body
pub record Standing_on (owners : Owners) (sessions : Sessions) (pid : Pid) (m : OwnerNo) : Type 0 where
  pub s : SessionNo
  pub session : Session
  pub there : get sessions s.0 ≡ Some session
  pub of : owner_of session ≡ Some m
  pub changed : is_changed_by owners m pid ≡ true

pub on_own : (owners : Owners) (sessions : Sessions) (m : Meaning) → AreCopies m → AreSeated owners sessions m → (pid : Pid) (n : OwnerNo) (values : List PlainValue) → get m.bodies (body pid (Own n)) ≡ Some values → Standing_on owners sessions pid n
on_own owners sessions m are seated pid n values there = by (holder slot_key (stands_on (body pid (Own n))) m.entries (are.stood_on (body pid (Own n)) (ap is_some there)))
  where
    at : (h : Holder _ (stands_on (body pid (Own n))) m.entries) (o : Option View) → h.thing.view ≡ o → given (option_map (body h.thing.pid) o) false (same_body (body pid (Own n))) ≡ true → Standing_on owners sessions pid n
    at h None view e = absurd cc
    at h (Some v) view e =
        let same : body pid (Own n) ≡ body h.thing.pid v = body_told (body pid (Own n)) (body h.thing.pid v) e in
        let seat = seated h.at h.thing v h.there view in
        let v_is : Own n ≡ v = ap (λ b. b.view) same in
        let p_is : pid ≡ h.thing.pid = ap (λ b. b.pid) same in
        let o = view_owner owners h.at.session seat.session h.thing.pid n (v_is ∙ seat.seen) in
        record { s = h.at.session; session = seat.session; there = seat.there; of = o.0; changed = ap (is_changed_by owners n) p_is ∙ o.1 }

    by : Holder _ (stands_on (body pid (Own n))) m.entries → Standing_on owners sessions pid n
    by h = at h h.thing.view refl h.passes

-- ---- one session

module _ (k : Kept) (old new : Parts) (s : SessionNo) (a : Association) (x : Session) (there : get k.sessions s.0 ≡ Some x) (changes : new.sessions ≡ associated_in old.sessions s a) (at : Attends k old) where
  sessions_now : new.sessions.sessions ≡ with_at k.sessions s.0 (with_association a)
  sessions_now = ap (λ (q : Standing). q.sessions) changes ∙ ap (λ m. with_at m s.0 (with_association a)) at.sessions

  next_now : new.sessions.next ≡ k.next_session
  next_now = ap (λ (q : Standing). q.next) changes ∙ at.next

  here_now : get (with_at k.sessions s.0 (with_association a)) s.0 ≡ Some (with_association a x)
  here_now = with_here k.sessions s.0 (with_association a) ∙ ap (option_map (with_association a)) there

  pub associated_attends : new.copies ≡ old.copies → (is_open x ≡ true → (is_open (with_association a x) ≡ true) × (owner_of x ≡ owner_of (with_association a x))) → Attends (moved k (Associates s a)) new
  associated_attends same fits = record {
    sessions = sessions_now;
    next = next_now;
    seats = subst (Seats k.catalog k.owners (with_at k.sessions s.0 (with_association a)) k.copies) (sym same) (record {
      told = at.seats.told;
      seated = λ y e v is view. by y e v (at.seats.seated y e v is view) (same_or_apart y.session.0 s.0);
      valued = at.seats.valued;
    });
  }
    where
      by : (y : Slot) (e : Entry) (v : View) → IsSeat k.owners k.sessions y.session e.pid v → ((y.session.0 ≡ s.0) ⊎ (y.session.0 ≡ s.0 → ⊥)) → IsSeat k.owners (with_at k.sessions s.0 (with_association a)) y.session e.pid v
      by y e v seat (inr ne) = seat_stays k.owners k.sessions (with_at k.sessions s.0 (with_association a)) y.session e.pid v (with_apart k.sessions s.0 (with_association a) y.session.0 ne) seat
      by y e v seat (inl is) =
          let one : seat.session ≡ x = same_some (sym seat.there ∙ ap (get k.sessions) is ∙ there) in
          let f = fits (sym (ap is_open one) ∙ seat.goes_on) in
          seat_moves k.owners k.sessions (with_at k.sessions s.0 (with_association a)) y.session e.pid v seat (with_association a x) (ap (get (with_at k.sessions s.0 (with_association a))) is ∙ here_now) f.0 (ap owner_of one ∙ f.1) (ap is_basic one)

-- a session starts
pub start_fits : (x : Session) (n : OwnerNo) → MayStart n x → is_open x ≡ true → (is_open (with_association (Active n) x) ≡ true) × (owner_of x ≡ owner_of (with_association (Active n) x))
start_fits x n may goes_on = by x.kind x.association may.0 may.1 goes_on
  where
    unlike : {m : OwnerNo} → Basic m ≡ Transactional → ⊥
    unlike e = cc

    in_none : (a : Association) → a ≡ NoTransaction → is_some (open_in a) ≡ true → ⊥
    in_none a e h = true_false h (ap (λ b. is_some (open_in b)) e)

    by : (kind : Kind) (a : Association) → kind ≡ Transactional → ((a ≡ NoTransaction) ⊎ (a ≡ Suspended n)) → is_open (record { name = x.name; kind = kind; access = x.access; association = a }) ≡ true
        → (is_open (with_association (Active n) (record { name = x.name; kind = kind; access = x.access; association = a })) ≡ true) × (owner_of (record { name = x.name; kind = kind; access = x.access; association = a }) ≡ owner_of (with_association (Active n) (record { name = x.name; kind = kind; access = x.access; association = a })))
    by (Basic m) a e q goes_on = absurd (unlike e)
    by Transactional a e (inl q) goes_on = absurd (in_none a q goes_on)
    by Transactional a e (inr q) goes_on = (refl, ap transaction_of q)

suspend_fits : (x : Session) (n : OwnerNo) → active_in x.association ≡ Some n → is_open x ≡ true → (is_open (with_association (Suspended n) x) ≡ true) × (owner_of x ≡ owner_of (with_association (Suspended n) x))
suspend_fits x n active goes_on = by x.kind x.association active
  where
    or_true : (b : Bool) → (b || true) ≡ true
    or_true true = refl
    or_true false = refl

    by : (kind : Kind) (a : Association) → active_in a ≡ Some n
        → (is_open (with_association (Suspended n) (record { name = x.name; kind = kind; access = x.access; association = a })) ≡ true) × (owner_of (record { name = x.name; kind = kind; access = x.access; association = a }) ≡ owner_of (with_association (Suspended n) (record { name = x.name; kind = kind; access = x.access; association = a })))
    by (Basic m) a e = (refl, refl)
    by Transactional (Active m) e = (refl, e)
    by Transactional NoTransaction e = absurd (none_some e)
    by Transactional (Suspended m) e = absurd (none_some e)
    by Transactional (Ending m) e = absurd (none_some e)

pub start_attends : (old new : Parts) (s : SessionNo) (n : OwnerNo) → IsSomeAnd (session_at old.sessions s) (MayStart n) → new.sessions ≡ associated_in old.sessions s (Active n) → new.copies ≡ old.copies → (k : Kept) → Attends k old → Attends (moved k (Associates s (Active n))) new
start_attends old new s n may changes same k at = by (get k.sessions s.0) refl (subst (λ m. IsSomeAnd (get m s.0) (MayStart n)) at.sessions may)
  where
    by : (o : Option Session) → get k.sessions s.0 ≡ o → IsSomeAnd o (MayStart n) → Attends (moved k (Associates s (Active n))) new
    by None is may = absurd may
    by (Some x) is may = associated_attends k old new s (Active n) x is changes at same (start_fits x n may)

-- it is suspended
pub suspend_attends : (old new : Parts) (s : SessionNo) → new.copies ≡ old.copies
    → IsSomeAnd (session_at old.sessions s) (λ x. IsSomeAnd (active_in x.association) (λ n. new.sessions ≡ associated_in old.sessions s (Suspended n)))
    → IsSomeAnd (session_at old.sessions s) (λ x. IsSomeAnd (active_in x.association) (λ n. (k : Kept) → Attends k old → Attends (moved k (Associates s (Suspended n))) new))
suspend_attends old new s same changes = by (session_at old.sessions s) refl changes
  where
    by_owner : (x : Session) → session_at old.sessions s ≡ Some x → (o : Option OwnerNo) → active_in x.association ≡ o → IsSomeAnd o (λ n. new.sessions ≡ associated_in old.sessions s (Suspended n)) → IsSomeAnd o (λ n. (k : Kept) → Attends k old → Attends (moved k (Associates s (Suspended n))) new)
    by_owner x is None active changes = changes
    by_owner x is (Some n) active changes = λ k at. associated_attends k old new s (Suspended n) x (ap (λ m. get m s.0) (sym at.sessions) ∙ is) changes at same (suspend_fits x n active)

    by : (o : Option Session) → session_at old.sessions s ≡ o → IsSomeAnd o (λ x. IsSomeAnd (active_in x.association) (λ n. new.sessions ≡ associated_in old.sessions s (Suspended n)))
        → IsSomeAnd o (λ x. IsSomeAnd (active_in x.association) (λ n. (k : Kept) → Attends k old → Attends (moved k (Associates s (Suspended n))) new))
    by None is changes = changes
    by (Some x) is changes = by_owner x is (active_in x.association) refl changes

-- ---- it ends

pub eq_back : (a b : ℕ) → (a == b) ≡ (b == a)
eq_back a b = by (a == b) refl (b == a) refl
  where
    by : (p : Bool) → (a == b) ≡ p → (q : Bool) → (b == a) ≡ q → p ≡ q
    by true e true f = refl
    by false e false f = refl
    by true e false f = absurd (true_false (eq-eqb b a (sym (eqb-true a b e))) f)
    by false e true f = absurd (true_false (eq-eqb a b (sym (eqb-true b a f))) e)

apart_of : (a b : ℕ) → (a == b) ≡ false → a ≡ b → ⊥
apart_of a b e same = true_false (eq-eqb a b same) e

pub end_attends : (old new : Parts) (s : SessionNo) → AreCopies old.copies → new.copies.lasts ≡ old.copies.lasts → Leaves (loosened (of_session s)) old.copies new.copies
    → IsSomeAnd (session_at old.sessions s) (λ x. IsSomeAnd (open_in x.association) (λ n. new.sessions ≡ associated_in old.sessions s (Ending n)))
    → IsSomeAnd (session_at old.sessions s) (λ x. IsSomeAnd (open_in x.association) (λ n. (k : Kept) (failed : Bool) → Attends k old → Attends (ended k s n failed) new))
end_attends old new s are lasts left changes = by (session_at old.sessions s) refl changes
  where
    one : (n : OwnerNo) → new.sessions ≡ associated_in old.sessions s (Ending n) → (k : Kept) (failed : Bool) → Attends k old → Attends (ended k s n failed) new
    one n changes k failed at = record {
      sessions = ap (λ (q : Standing). q.sessions) changes ∙ ap (λ m. with_at m s.0 (with_association (Ending n))) at.sessions;
      next = ap (λ (q : Standing). q.next) changes ∙ at.next;
      seats = record {
        told = told_left (of_session s) old.copies new.copies left k.owners k.sessions (λ t session body. is_session s t) are at.seats.seated (λ x e v session there view in_it. eq_back x.session.0 s.0) lasts k.copies at.seats.told;
        seated = λ x e v there view. let was = kept_entry (of_session s) old.copies new.copies left x e v there view in
            seat_stays k.owners k.sessions (with_at k.sessions s.0 (with_association (Ending n))) x.session e.pid v (with_apart k.sessions s.0 (with_association (Ending n)) x.session.0 (apart_of x.session.0 s.0 was.1)) (at.seats.seated x e v was.0 view);
        valued = valued_less (loosened (of_session s)) old.copies new.copies left k.catalog k.owners at.seats.valued;
      };
    }

    by_owner : (o : Option OwnerNo) → IsSomeAnd o (λ n. new.sessions ≡ associated_in old.sessions s (Ending n)) → IsSomeAnd o (λ n. (k : Kept) (failed : Bool) → Attends k old → Attends (ended k s n failed) new)
    by_owner None changes = changes
    by_owner (Some n) changes = one n changes

    by : (o : Option Session) → session_at old.sessions s ≡ o → IsSomeAnd o (λ x. IsSomeAnd (open_in x.association) (λ n. new.sessions ≡ associated_in old.sessions s (Ending n)))
        → IsSomeAnd o (λ x. IsSomeAnd (open_in x.association) (λ n. (k : Kept) (failed : Bool) → Attends k old → Attends (ended k s n failed) new))
    by None is changes = changes
    by (Some x) is changes = by_owner (open_in x.association) changes

-- ---- owners come and go

-- no body is of the owner
stays_with : (owners : Owners) (n m : ℕ) → (m ≡ n → ⊥) → (pid : Pid) → is_changed_by (remove owners n) (record { 0 = m }) pid ≡ is_changed_by owners (record { 0 = m }) pid
stays_with owners n m ne pid = ap (λ o. given o false (λ owner. has_changed owner pid.serial)) (remove_apart owners n m ne)

-- an owner comes
pub comes_attends : (k : Kept) (a : Parts) (name : List ℕ) (level : Level) → AreOwned k.owners k.sessions k.next_owner → Attends k a → Attends (with_owner k name level) a
comes_attends k a name level own at = record {
  sessions = at.sessions;
  next = at.next;
  seats = record {
    told = at.seats.told;
    seated = λ x e v there view. let seat = at.seats.seated x e v there view in
        seat_owned k.owners (insert k.owners k.next_owner (new_owner level)) k.sessions x.session e.pid v seat
        (λ m of. let o = own.each x.session.0 seat.session m seat.there of in ap (λ o. given o false (λ owner. has_changed owner e.pid.serial)) (insert_apart k.owners k.next_owner (new_owner level) m.0 (used m.0 o.owner o.there)));
    valued = record {
      committed = at.seats.valued.committed;
      own = λ pid m values there. let o = at.seats.valued.own pid m values there in record { owner = o.owner; there = insert_apart k.owners k.next_owner (new_owner level) m.0 (used m.0 o.owner o.there) ∙ o.there; seen = o.seen };
    };
  };
}
  where
    used : (n : ℕ) (owner : Owner) → get k.owners n ≡ Some owner → n ≡ k.next_owner → ⊥
    used n owner there same = none_some (sym (own.fresh n (omega (arith, same))) ∙ there)

-- an owner goes that no session belongs to
pub goes_attends : (k : Kept) (a : Parts) (n : OwnerNo) → AreCopies a.copies → ((s : ℕ) (session : Session) → get k.sessions s ≡ Some session → owner_of session ≡ Some n → ⊥) → Attends k a → Attends (without_owner k n) a
goes_attends k a n are none at = record {
  sessions = at.sessions;
  next = at.next;
  seats = record {
    told = at.seats.told;
    seated = λ x e v there view. let seat = at.seats.seated x e v there view in
        seat_owned k.owners (remove k.owners n.0) k.sessions x.session e.pid v seat (λ m of. stays_with k.owners n.0 m.0 (λ same. none x.session.0 seat.session seat.there (of ∙ ap (λ q. Some (record { 0 = q })) same)) e.pid);
    valued = record {
      committed = at.seats.valued.committed;
      own = λ pid m values there.
          let o = at.seats.valued.own pid m values there in
          let on = on_own k.owners k.sessions a.copies are at.seats.seated pid m values there in
          record { owner = o.owner; there = remove_apart k.owners n.0 m.0 (λ same. none on.s.0 on.session on.there (on.of ∙ ap (λ q. Some (record { 0 = q })) same)) ∙ o.there; seen = o.seen };
    };
  };
}

-- a transaction goes
pub finish_attends : (old new : Parts) (n : OwnerNo) → AreCopies old.copies → AreCopies new.copies → new.sessions ≡ finished_in old.sessions n → new.copies.lasts ≡ old.copies.lasts → Leaves (loosened (of_sessions (is_in_it n) old.sessions)) old.copies new.copies
    → (k : Kept) → AreOwned k.owners k.sessions k.next_owner → is_transaction k.owners n.0 ≡ true → Attends k old → Attends (without_transaction_of k n) new
finish_attends old new n are are_new changes lasts left k own tx at = record {
  sessions = ap (λ (q : Standing). q.sessions) changes ∙ ap (λ m. each (λ s session. without_transaction n session) m) at.sessions;
  next = ap (λ (q : Standing). q.next) changes ∙ at.next;
  seats = record {
    told = told_left g old.copies new.copies left k.owners k.sessions (λ s session body. is_in n session) are at.seats.seated (λ x e v session there view in_it. ap (λ o. given o false (is_in_it n)) (ap (λ m. get m x.session.0) at.sessions ∙ in_it)) lasts k.copies at.seats.told;
    seated = seated;
    valued = record {
      committed = less.committed;
      own = λ pid m values there.
          let o = less.own pid m values there in
          let on = on_own (remove k.owners n.0) (each (λ s session. without_transaction n session) k.sessions) new.copies are_new seated pid m values there in
          let is = after.each on.s.0 on.session m on.there on.of in
          record { owner = o.owner; there = remove_apart k.owners n.0 m.0 (other m is) ∙ o.there; seen = o.seen };
    };
  };
}
  where
    g : Slot → Entry → Bool
    g = of_sessions (is_in_it n) old.sessions

    after : AreOwned (remove k.owners n.0) (each (λ s session. without_transaction n session) k.sessions) k.next_owner
    after = owned_finished k.owners k.sessions k.next_owner own n tx

    other : {x : Session} (m : OwnerNo) → IsOwned (remove k.owners n.0) x m → m.0 ≡ n.0 → ⊥
    other m is same = none_some (sym (ap (get (remove k.owners n.0)) same ∙ remove_here k.owners n.0) ∙ is.there)

    less : AreValued k.catalog k.owners new.copies
    less = valued_less (loosened (of_sessions (is_in_it n) old.sessions)) old.copies new.copies left k.catalog k.owners at.seats.valued

    seated : AreSeated (remove k.owners n.0) (each (λ s session. without_transaction n session) k.sessions) new.copies
    seated x e v there view =
        let was = kept_entry (of_sessions (is_in_it n) old.sessions) old.copies new.copies left x e v there view in
        by (at.seats.seated x e v was.0 view) was.1
      where
        by : (seat : IsSeat k.owners k.sessions x.session e.pid v) → of_sessions (is_in_it n) old.sessions x e ≡ false → IsSeat (remove k.owners n.0) (each (λ s session. without_transaction n session) k.sessions) x.session e.pid v
        by seat off =
            let out : is_in_it n seat.session ≡ false = sym (ap (λ o. given o false (is_in_it n)) (ap (λ m. get m x.session.0) at.sessions ∙ seat.there)) ∙ off in
            let same : without_transaction n seat.session ≡ seat.session = ap (λ b. with_association (if b then NoTransaction else seat.session.association) seat.session) out in
            let now : get (each (λ s session. without_transaction n session) k.sessions) x.session.0 ≡ Some seat.session = get_each (λ s session. without_transaction n session) k.sessions x.session.0 ∙ ap (option_map (without_transaction n)) seat.there ∙ ap Some same in
            seat_owned k.owners (remove k.owners n.0) (each (λ s session. without_transaction n session) k.sessions) x.session e.pid v (record { session = seat.session; there = now; goes_on = seat.goes_on; seen = seat.seen }) (λ m of. stays_with k.owners n.0 m.0 (other m (after.each x.session.0 seat.session m now of)) e.pid)

-- the copies have the sessions after it is suspended
pub suspend_have : (old new : Standing) (m : Meaning) (s : SessionNo) → HaveSessions old m → IsSomeAnd (session_at old s) (λ x. IsSomeAnd (active_in x.association) (λ n. new ≡ associated_in old s (Suspended n))) → HaveSessions new m
suspend_have old new m s have changes = by (session_at old s) changes
  where
    by_owner : (o : Option OwnerNo) → IsSomeAnd o (λ n. new ≡ associated_in old s (Suspended n)) → HaveSessions new m
    by_owner None changes = absurd changes
    by_owner (Some n) changes = have_told new (associated_in old s (Suspended n)) m changes (have_associated old m m have s (Suspended n) refl)

    by : (o : Option Session) → IsSomeAnd o (λ x. IsSomeAnd (active_in x.association) (λ n. new ≡ associated_in old s (Suspended n))) → HaveSessions new m
    by None changes = absurd changes
    by (Some x) changes = by_owner (active_in x.association) changes
