-- A transaction commits, and goes; a basic session commits, and begins anew.
use Rattle.std.proofs.Common.{◌≡◌, ℕ, ◌==◌, ◌&&◌, Bool, true, false, List, Option, Some, None, refl, sym, ap, ◌∙◌, subst, inl, inr}
use Rattle.std.specs.Prelude.{◌⊎◌, ◌||◌, is_some, not, if◌then◌else◌, find}
use Rattle.std.specs.List.{list_any}
use Rattle.std.specs.Option.{option_map}
use Rattle.std.specs.Ordering.{nat_cmp}
use Rattle.std.specs.FinMap.{get, get-empty, entries}
use Rattle.std.proofs.lemmas.Bool.{eqb-true, eq-eqb}
use Rattle.pss_base.specs.declared.pid.Pid.{Pid}
use Rattle.pss_base.specs.declared.owner.OwnerNo.{OwnerNo}
use Rattle.type_layout.specs.Schemas.{given}
use Rattle.pss_machine.specs.declared.session.View.{View}
use Rattle.pss_machine.specs.declared.session.View.TheVariants.{Committed, Own, Kept as InCopy}
use Rattle.pss_machine.specs.declared.session.Kind.{Kind}
use Rattle.pss_machine.specs.declared.session.Kind.TheVariants.{Basic, Transactional}
use Rattle.pss_machine.specs.declared.session.Association.{Association}
use Rattle.pss_machine.specs.declared.session.Association.TheVariants.{NoTransaction, Active, Suspended, Ending}
use Rattle.pss_machine.specs.Maps.{with_at}
use Rattle.pss_machine.specs.Same.{same_pid}
use Rattle.pss_machine.specs.Owners.{Owner, new_owner, has_changed, net, is_basic as is_basic_level}
use Rattle.pss_machine.specs.Sessions.{Session, is_basic, is_owner, owner_of, open_in}
use Rattle.pss_machine.specs.Copies.{unchanged_in, is_changed_by, same_view}
use Rattle.pss_machine.specs.Kept.{Kept}
use Rattle.pss_machine.specs.Attaching.{is_open}
use Rattle.pss_machine.specs.Effects.{Commits, Flushes}
use Rattle.pss_machine.specs.Moving.{moved, emptied, without_transaction_of, with_commit, title_of}
use Rattle.pss_machine.proofs.Maps.{same_or_apart, with_here, with_apart}
use Rattle.pss_machine.proofs.Logic.{none_some, same_some, true_false}
use Rattle.pss_session.specs.Meaning.{finished as finished_in, of_sessions, is_in as is_in_it}
use Rattle.pss_session.proofs.Leaving.{leaves_then}
use Rattle.incarnations.specs.declared.names.Slot.{Slot}
use Rattle.incarnations.specs.declared.names.BodyName.{BodyName}
use Rattle.incarnations.specs.declared.names.Entry.{Entry}
use Rattle.incarnations.specs.Meaning.{Meaning, AreCopies, Leaves, loosened, body, same_body, stands_on}
use Rattle.incarnations.proofs.Keys.{slot_key, body_told}
use Rattle.pss_copies.specs.declared.parts.Parts.{Parts}
use Rattle.pss_copies.specs.Ruled.{AreOwned}
use Rattle.pss_copies.specs.Seats.{IsSeat, Attends}
use Rattle.pss_copies.specs.Settling.{MayCommit, MayFlush, on_bodies, on_committed}
use Rattle.pss_copies.proofs.Holders.{Holder, holder}
use Rattle.pss_copies.proofs.Associated.{view_owner, eq_back, finish_attends}
use Rattle.pss_copies.proofs.Left.{kept_entry}
use Rattle.pss_copies.proofs.Seated.{seat_owned}
use Rattle.pss_copies.proofs.Settled.{Goes, none_passes, settled_is, settled_attends, and_true, none_any, on_view_of, on_committed_is, on_committed_own, on_committed_kept}
use Rattle.pss_copies.proofs.Changed.{own_among}

-- an entry on an owner's own body is of a session that belongs to it
own_seat : (k : Kept) (a : Parts) (at : Attends k a) (x : Slot) (e : Entry) (m n : OwnerNo) → get a.copies.entries x ≡ Some e → e.view ≡ Some (Own m) → (m.0 == n.0) ≡ true → (seat : IsSeat k.owners k.sessions x.session e.pid (Own m)) × (owner_of seat.session ≡ Some n)
own_seat k a at x e m n was on same =
    let seat = at.seats.seated x e (Own m) was on in
    let of = (view_owner k.owners x.session seat.session e.pid m seat.seen).0 in
    (seat, of ∙ ap (λ q. Some (record { 0 = q })) (eqb-true m.0 n.0 same))

-- the kind of a session is that of its owner
kind_is : (k : Kept) (own : AreOwned k.owners k.sessions k.next_owner) (s : ℕ) (session : Session) (n : OwnerNo) (owner : Owner) → get k.sessions s ≡ Some session → owner_of session ≡ Some n → get k.owners n.0 ≡ Some owner → is_basic session ≡ is_basic_level owner.level
kind_is k own s session n owner there of is =
    let o = own.each s session n there of in
    sym o.kind ∙ ap (λ (q : Owner). is_basic_level q.level) (same_some (sym o.there ∙ is))

-- ---- a transaction

-- a transactional session that is open with a transaction is active or suspended with it
open_with : (session : Session) (n : OwnerNo) → is_basic session ≡ false → is_open session ≡ true → owner_of session ≡ Some n → open_in session.association ≡ Some n
open_with session n kind goes_on of = by session.kind session.association kind goes_on of
  where
    by : (q : Kind) (a : Association) → is_basic (record { name = session.name; kind = q; access = session.access; association = a }) ≡ false → is_open (record { name = session.name; kind = q; access = session.access; association = a }) ≡ true
        → owner_of (record { name = session.name; kind = q; access = session.access; association = a }) ≡ Some n → open_in a ≡ Some n
    by (Basic m) a kind goes_on of = absurd (true_false refl kind)
    by Transactional NoTransaction kind goes_on of = absurd (true_false goes_on refl)
    by Transactional (Active m) kind goes_on of = of
    by Transactional (Suspended m) kind goes_on of = of
    by Transactional (Ending m) kind goes_on of = absurd (true_false goes_on refl)

module _ (k : Kept) (old mid new : Parts) (n : OwnerNo) (pids : List Pid) (may : MayCommit k n pids) (are : AreCopies old.copies) (are_mid : AreCopies mid.copies) (are_new : AreCopies new.copies) (at : Attends k old) where
  no_own : (x : Slot) (e : Entry) (m : OwnerNo) → get old.copies.entries x ≡ Some e → e.view ≡ Some (Own m) → (m.0 == n.0) ≡ false
  no_own x e m was on = by (m.0 == n.0) refl
    where
      none_of : (o : Option (ℕ × Session)) → option_map (λ e. e.1) o ≡ None → o ≡ None
      none_of None is = refl
      none_of (Some z) is = absurd (none_some (sym is))

      by : (b : Bool) → (m.0 == n.0) ≡ b → b ≡ false
      by false is = refl
      by true is =
          let s = own_seat k old at x e m n was on is in
          let kind = kind_is k may.settles.own x.session.0 s.0.session n may.settles.owner s.0.there s.1 may.settles.there ∙ may.transaction in
          let opened = open_with s.0.session n kind s.0.goes_on s.1 in
          let off = none_passes (λ e. is_owner n (open_in e.1.association)) k.sessions (none_of (find (λ e. is_owner n (open_in e.1.association)) (entries k.sessions)) may.closed) x.session.0 s.0.session s.0.there in
          absurd (true_false (ap (is_owner n) opened ∙ eq-eqb n.0 n.0 refl) off)

  goes : Goes old.copies n pids (on_committed pids)
  goes = record {
    committed = λ x e on. on_committed_is pids x e on;
    own = λ x e m was on. on_committed_own pids x e m on ∙ sym (no_own x e m was on);
    kept = λ x e s on. on_committed_kept pids x e s on;
  }

  pub commit_attends : mid.sessions ≡ old.sessions → mid.copies.lasts ≡ old.copies.lasts → Leaves (loosened (on_committed pids)) old.copies mid.copies
      → new.sessions ≡ finished_in mid.sessions n → new.copies.lasts ≡ mid.copies.lasts → Leaves (loosened (of_sessions (is_in_it n) mid.sessions)) mid.copies new.copies → Attends (moved k (Commits n)) new
  commit_attends stays lasts left changes lasts_on left_on =
      subst (λ j. Attends (without_transaction_of j n) new) (sym (settled_is k old mid n pids may.settles (on_committed pids) goes are are_mid at stays lasts left))
      (finish_attends mid new n are_mid are_new changes lasts_on left_on (with_commit k n (title_of k n) may.settles.owner.level (net k.catalog may.settles.owner)) may.settles.own
      (ap (λ q. given q false (λ owner. not (is_basic_level owner.level))) may.settles.there ∙ ap not may.transaction)
      (settled_attends k old mid n pids may.settles (on_committed pids) goes are are_mid at stays lasts left))

-- ---- a basic session

abbrev begins_anew : Owner → Owner
begins_anew owner = new_owner owner.level

module _ (k : Kept) (old new : Parts) (mid : Meaning) (n : OwnerNo) (pids own : List Pid) (may : MayFlush k n pids own) (are : AreCopies old.copies) (are_new : AreCopies new.copies) (at : Attends k old) (stays : new.sessions ≡ old.sessions) (lasts : new.copies.lasts ≡ old.copies.lasts)
    (first : Leaves (loosened (on_committed pids)) old.copies mid) (second : Leaves (loosened (on_bodies (Own n) own)) mid new.copies) where
  -- what leaves: the entries on the committed bodies of the first, and on the owner's own of the second
  abbrev on_either : Slot → Entry → Bool
  on_either x e = on_committed pids x e || on_bodies (Own n) own x e

  left : Leaves (loosened on_either) old.copies new.copies
  left = leaves_then (on_committed pids) (on_bodies (Own n) own) old.copies mid new.copies first second

  -- on another's body, or on none of an owner's
  off_own : (x : Slot) (e : Entry) (v : View) → e.view ≡ Some v → same_view (Own n) v ≡ false → on_bodies (Own n) own x e ≡ false
  off_own x e v on other = on_view_of (Own n) own x e v on ∙ ap (λ b. list_any (λ p. same_pid p e.pid && b) own) other ∙ none_any (λ p. same_pid p e.pid) own

  -- each entry on the owner's own body of an object, since it gave this a value
  none_own : (x : Slot) (e : Entry) (m : OwnerNo) → get old.copies.entries x ≡ Some e → e.view ≡ Some (Own m) → on_either x e ≡ (m.0 == n.0)
  none_own x e m was on = ap (λ b. b || on_bodies (Own n) own x e) (on_committed_own pids x e m on) ∙ by (m.0 == n.0) refl
    where
      by : (b : Bool) → (m.0 == n.0) ≡ b → on_bodies (Own n) own x e ≡ b
      by false is = off_own x e (Own m) on (eq_back n.0 m.0 ∙ is)
      by true is =
          on_view_of (Own n) own x e (Own m) on ∙ ap (λ b. list_any (λ p. same_pid p e.pid && b) own) (eq_back n.0 m.0 ∙ is) ∙ (λ i. list_any (λ p. and_true (same_pid p e.pid) i) own)
          ∙ own_among k old n may.settles.owner own may.settles.there may.covered are at x e m was on (eqb-true m.0 n.0 is)

  goes_flushed : Goes old.copies n pids on_either
  goes_flushed = record {
    committed = λ x e on. ap (λ b. on_committed pids x e || b) (off_own x e Committed on refl) ∙ or_false (on_committed pids x e) ∙ on_committed_is pids x e on;
    own = none_own;
    kept = λ x e t on. ap (λ b. on_committed pids x e || b) (off_own x e (InCopy t) on refl) ∙ or_false (on_committed pids x e) ∙ on_committed_kept pids x e t on;
  }
    where
      or_false : (c : Bool) → (c || false) ≡ c
      or_false true = refl
      or_false false = refl

  flushed : Attends (with_commit k n (title_of k n) may.settles.owner.level (net k.catalog may.settles.owner)) new
  flushed = settled_attends k old new n pids may.settles on_either goes_flushed are are_new at stays lasts left

  -- no entry stands on the owner's own body of an object
  gone : (x : Slot) (e : Entry) (m : OwnerNo) → get new.copies.entries x ≡ Some e → e.view ≡ Some (Own m) → m.0 ≡ n.0 → ⊥
  gone x e m there on same =
      let was = kept_entry on_either old.copies new.copies left x e (Own m) there on in
      true_false (none_own x e m was.0 on ∙ eq-eqb m.0 n.0 same) was.1

  owner_now : get (with_at k.owners n.0 begins_anew) n.0 ≡ Some (begins_anew may.settles.owner)
  owner_now = with_here k.owners n.0 begins_anew ∙ ap (option_map begins_anew) may.settles.there

  seated_anew : (x : Slot) (e : Entry) (v : View) → get new.copies.entries x ≡ Some e → e.view ≡ Some v → IsSeat (with_at k.owners n.0 begins_anew) k.sessions x.session e.pid v
  seated_anew x e v there on = (let seat = flushed.seats.seated x e v there on in seat_owned k.owners (with_at k.owners n.0 begins_anew) k.sessions x.session e.pid v seat (λ m of. by seat m of (same_or_apart m.0 n.0)))
    where
      none_now : is_changed_by (with_at k.owners n.0 begins_anew) n e.pid ≡ false
      none_now = ap (λ o. given o false (λ owner. has_changed owner e.pid.serial)) owner_now ∙ ap is_some (get-empty nat_cmp e.pid.serial)

      none_then : (seat : IsSeat k.owners k.sessions x.session e.pid v) (m : OwnerNo) → owner_of seat.session ≡ Some m → m.0 ≡ n.0 → (b : Bool) → is_changed_by k.owners m e.pid ≡ b → b ≡ false
      none_then seat m of same false is = refl
      none_then seat m of same true is =
          let own : v ≡ Own m = seat.seen ∙ ap (λ o. given o (unchanged_in x.session seat.session) (λ q. if is_changed_by k.owners q e.pid then Own q else unchanged_in x.session seat.session)) of ∙ ap (λ (b : Bool). if b then Own m else unchanged_in x.session seat.session) is in
          absurd (gone x e m there (on ∙ ap Some own) same)

      by : (seat : IsSeat k.owners k.sessions x.session e.pid v) (m : OwnerNo) → owner_of seat.session ≡ Some m → ((m.0 ≡ n.0) ⊎ (m.0 ≡ n.0 → ⊥)) → is_changed_by (with_at k.owners n.0 begins_anew) m e.pid ≡ is_changed_by k.owners m e.pid
      by seat m of (inr ne) = ap (λ o. given o false (λ owner. has_changed owner e.pid.serial)) (with_apart k.owners n.0 begins_anew m.0 ne)
      by seat m of (inl same) =
          ap (λ q. is_changed_by (with_at k.owners n.0 begins_anew) (record { 0 = q }) e.pid) same ∙ none_now ∙ sym (none_then seat m of same (is_changed_by k.owners m e.pid) refl)

  -- whose own body is still there
  other_owner : (pid : Pid) (m : OwnerNo) → Holder _ (stands_on (body pid (Own m))) new.copies.entries → m.0 ≡ n.0 → ⊥
  other_owner pid m h same = by h.thing.view refl h.passes
    where
      by : (o : Option View) → h.thing.view ≡ o → given (option_map (body h.thing.pid) o) false (same_body (body pid (Own m))) ≡ true → ⊥
      by None on e = absurd cc
      by (Some v) on e =
          let is : body pid (Own m) ≡ body h.thing.pid v = body_told (body pid (Own m)) (body h.thing.pid v) e in
          gone h.at h.thing m h.there (on ∙ ap Some (sym (ap (λ (b : BodyName). b.view) is))) same

  pub flush_attends : Attends (moved k (Flushes n)) new
  flush_attends =
      subst (λ j. Attends (emptied j n) new) (sym (settled_is k old new n pids may.settles on_either goes_flushed are are_new at stays lasts left))
      (record {
        sessions = flushed.sessions;
        next = flushed.next;
        seats = record {
          told = flushed.seats.told;
          seated = seated_anew;
          valued = record {
            committed = flushed.seats.valued.committed;
            own = λ pid m vs here.
                let o = flushed.seats.valued.own pid m vs here in
                record {
                  owner = o.owner;
                  there = with_apart k.owners n.0 begins_anew m.0 (other_owner pid m (holder slot_key (stands_on (body pid (Own m))) new.copies.entries (are_new.stood_on (body pid (Own m)) (ap is_some here)))) ∙ o.there;
                  seen = o.seen;
                };
          };
        };
      })
