-- What a destroy leaves of entries and bodies.
use Rattle.std.proofs.Common.{◌≡◌, ◌&&◌, Bool, true, false, not, Option, Some, None, refl, sym, ap, ◌∙◌}
use Rattle.std.specs.Prelude.{◌||◌, is_some}
use Rattle.std.specs.Option.{option_map}
use Rattle.std.specs.FinMap.{get}
use Rattle.std.proofs.lemmas.Bool.{eq-eqb}
use Rattle.pss_base.specs.declared.pid.Pid.{Pid}
use Rattle.pss_base.specs.declared.owner.OwnerNo.{OwnerNo}
use Rattle.pss_base.specs.declared.session.SessionNo.{SessionNo}
use Rattle.type_layout.specs.Types.{PlainValue}
use Rattle.type_layout.specs.Schemas.{given}
use Rattle.std.proofs.Common.{List}
use Rattle.pss_machine.specs.declared.session.View.{View}
use Rattle.pss_machine.specs.declared.session.View.TheVariants.{Committed, Own}
use Rattle.pss_machine.specs.Operations.{Done}
use Rattle.pss_machine.specs.Same.{same_pid}
use Rattle.pss_machine.specs.Owners.{Step, view}
use Rattle.pss_machine.specs.Sessions.{Session, owner_of, is_owner}
use Rattle.pss_machine.specs.Copies.{is_changed_by, view_in, body_in, same_view}
use Rattle.pss_machine.specs.Kept.{Kept}
use Rattle.pss_machine.specs.Moving.{is_outdated}
use Rattle.pss_machine.proofs.Logic.{same_some, true_false}
use Rattle.pss_laws.proofs.Footprint.{object_there}
use Rattle.pss_laws.proofs.Living.{home_of_it}
use Rattle.pss_session.specs.Meaning.{Meaning as Standing, belongs_to, of_sessions, is_unchanged, on_unchanged}
use Rattle.pss_session.proofs.Leaving.{leaves_then}
use Rattle.incarnations.specs.declared.names.Slot.{Slot}
use Rattle.incarnations.specs.declared.names.Entry.{Entry}
use Rattle.incarnations.specs.Meaning.{Meaning, AreCopies, Leaves, loosened, both, body, same_body, stands_on, on_body}
use Rattle.incarnations.proofs.Keys.{slot_key, view_told, pid_self}
use Rattle.pss_copies.specs.declared.parts.Parts.{Parts}
use Rattle.pss_copies.specs.Seats.{OwnerSees, Attends}
use Rattle.pss_copies.specs.Ruled.{HomesAgree}
use Rattle.pss_copies.specs.Stepped.{left_by, DestroysAt}
use Rattle.pss_copies.proofs.Holders.{Holder, holder}
use Rattle.pss_copies.proofs.Associated.{view_owner}
use Rattle.pss_copies.proofs.Left.{kept_entry, old_body, told_left}
use Rattle.pss_copies.proofs.Held.{same_view_back}
use Rattle.pss_copies.proofs.Outdated.{values_there, p_home, seat_after, sees_after}
use Rattle.pss_copies.proofs.Written.{pid_back, own_or_unchanged}

module _ (k : Kept) (old new : Parts) (mid : Meaning) (n : OwnerNo) (step : Step) (p : Pid) (goes : DestroysAt k n step p) (homes : HomesAgree k) (are : AreCopies old.copies) (are_new : AreCopies new.copies) (at : Attends k old) (stays : new.sessions ≡ old.sessions) (lasts : new.copies.lasts ≡ old.copies.lasts)
    (first : Leaves (loosened (both (of_sessions (belongs_to n) old.sessions) (on_unchanged p))) old.copies mid) (then : Leaves (loosened (on_body (body p (Own n)))) mid new.copies) where
  abbrev g : Slot → Entry → Bool
  g x e = both (of_sessions (belongs_to n) old.sessions) (on_unchanged p) x e || on_body (body p (Own n)) x e

  left : Leaves (loosened (λ x e. both (of_sessions (belongs_to n) old.sessions) (on_unchanged p) x e || on_body (body p (Own n)) x e)) old.copies new.copies
  left = leaves_then (both (of_sessions (belongs_to n) old.sessions) (on_unchanged p)) (on_body (body p (Own n))) old.copies mid new.copies first then

  leaves_by : (x : Slot) (e : Entry) (v : View) (session : Session) → e.view ≡ Some v → get k.sessions x.session.0 ≡ Some session
      → (both (of_sessions (belongs_to n) old.sessions) (on_unchanged p) x e || on_body (body p (Own n)) x e) ≡ ((is_owner n (owner_of session) && (same_pid p e.pid && is_unchanged x.session v)) || (same_pid p e.pid && same_view (Own n) v))
  leaves_by x e v session on in_it =
      ap (λ o. (given o false (belongs_to n) && on_unchanged p x e) || on_body (body p (Own n)) x e) (ap (λ m. get m x.session.0) at.sessions ∙ in_it)
      ∙ ap (λ o. (is_owner n (owner_of session) && (same_pid p e.pid && given o false (is_unchanged x.session))) || given (option_map (body e.pid) o) false (same_body (body p (Own n)))) on

  outdated_by : (s : SessionNo) (session : Session) (pid : Pid) → is_outdated n step s session (body_in k.owners s session pid) ≡ (is_owner n (owner_of session) && same_pid pid p)
  outdated_by s session pid =
      ap (λ a. is_outdated n (record { op = step.op; answer = a; needs = step.needs; own = step.own }) s session (body_in k.owners s session pid)) goes.changes.answer
      ∙ ap (λ o. is_outdated n (record { op = o; answer = Done; needs = step.needs; own = step.own }) s session (body_in k.owners s session pid)) goes.op

  agree : (x : Slot) (e : Entry) (v : View) (session : Session) → get old.copies.entries x ≡ Some e → e.view ≡ Some v → get k.sessions x.session.0 ≡ Some session
      → (both (of_sessions (belongs_to n) old.sessions) (on_unchanged p) x e || on_body (body p (Own n)) x e) ≡ is_outdated n step x.session session (body_in k.owners x.session session e.pid)
  agree x e v session was on in_it = leaves_by x e v session on in_it ∙ by (is_owner n (owner_of session)) refl ∙ sym (outdated_by x.session session e.pid)
    where
      seen : v ≡ view_in k.owners x.session session e.pid
      seen = (let seat = at.seats.seated x e v was on in seat.seen ∙ ap (λ z. view_in k.owners x.session z e.pid) (same_some (sym seat.there ∙ in_it)))

      either : (q w : Bool) → ((q && not w) || (q && w)) ≡ q
      either true true = refl
      either true false = refl
      either false w = refl

      none : (q : Bool) → (q && false) ≡ false
      none true = refl
      none false = refl

      other : (w : Bool) → same_view (Own n) v ≡ w → is_owner n (owner_of session) ≡ false → w ≡ false
      other false is of = refl
      other true is of =
          let own : Own n ≡ view_in k.owners x.session session e.pid = view_told (Own n) v is ∙ seen in
          absurd (true_false (ap (is_owner n) (view_owner k.owners x.session session e.pid n own).0 ∙ eq-eqb n.0 n.0 refl) of)

      by : (b : Bool) → is_owner n (owner_of session) ≡ b → ((b && (same_pid p e.pid && is_unchanged x.session v)) || (same_pid p e.pid && same_view (Own n) v)) ≡ (b && same_pid e.pid p)
      by false is = ap (λ w. same_pid p e.pid && w) (other (same_view (Own n) v) refl is) ∙ none (same_pid p e.pid)
      by true is =
          ap (λ w. (same_pid p e.pid && w) || (same_pid p e.pid && same_view (Own n) v)) (ap (is_unchanged x.session) seen ∙ own_or_unchanged k.owners x.session session n e.pid is ∙ ap (λ w. not (same_view w (Own n))) (sym seen))
          ∙ ap (λ w. (same_pid p e.pid && not (same_view v (Own n))) || (same_pid p e.pid && w)) (same_view_back (Own n) v)
          ∙ either (same_pid p e.pid) (same_view v (Own n))
          ∙ pid_back p e.pid

  pub destroy_attends : Attends (left_by k n step) new
  destroy_attends = record {
    sessions = ap (λ (q : Standing). q.sessions) stays ∙ at.sessions;
    next = ap (λ (q : Standing). q.next) stays ∙ at.next;
    seats = record {
      told = told_left g old.copies new.copies left k.owners k.sessions (is_outdated n step) are at.seats.seated agree lasts k.copies at.seats.told;
      seated = λ x e v here on. let was = kept_entry g old.copies new.copies left x e v here on in seat_after k old homes are at n step p None goes.changes x e v was.0 on (never x e v was.0 on was.1);
      valued = record {
        committed = λ pid vs here. at.seats.valued.committed pid vs (old_body (loosened g) old.copies new.copies left (body pid Committed) vs here);
        own = λ pid m vs here. let before = at.seats.valued.own pid m vs (old_body (loosened g) old.copies new.copies left (body pid (Own m)) vs here) in
            sees_after k old homes are at n step p None goes.changes pid m vs before (λ same serial. nobody pid m vs here (both_same pid m vs before same serial));
      };
    };
  }
    where
      never : (x : Slot) (e : Entry) (v : View) → get old.copies.entries x ≡ Some e → e.view ≡ Some v → (both (of_sessions (belongs_to n) old.sessions) (on_unchanged p) x e || on_body (body p (Own n)) x e) ≡ false
          → (session : Session) → get k.sessions x.session.0 ≡ Some session → owner_of session ≡ Some n → e.pid ≡ p → is_changed_by k.owners n p ≡ true
      never x e v was on off session in_it of is =
          let passes = agree x e v session was on in_it ∙ outdated_by x.session session e.pid ∙ ap (λ o. is_owner n o && same_pid e.pid p) of ∙ ap (λ b. b && same_pid e.pid p) (eq-eqb n.0 n.0 refl) ∙ ap (λ q. same_pid q p) is ∙ pid_self p in
          absurd (true_false passes off)

      both_same : (pid : Pid) (m : OwnerNo) (vs : List PlainValue) → OwnerSees k.catalog k.owners m pid vs → m.0 ≡ n.0 → pid.serial ≡ p.serial → body pid (Own m) ≡ body p (Own n)
      both_same pid m vs o same serial =
          let x = values_there (view k.catalog o.owner) pid vs o.seen in
          let home : pid.home ≡ p.home = sym (home_of_it (view k.catalog o.owner) pid x.0 x.1) ∙ homes.views m.0 o.owner pid.serial x.0 o.there (object_there (view k.catalog o.owner) pid x.0 x.1) ∙ ap homes.home serial ∙ sym (p_home k old homes are at n step p None goes.changes) in
          λ i. body (record { home = home i; serial = serial i }) (Own (record { 0 = same i }))

      or_true : (b : Bool) → (b || true) ≡ true
      or_true true = refl
      or_true false = refl

      -- no entry stands on the body of the owner for the object
      nobody : (pid : Pid) (m : OwnerNo) (vs : List PlainValue) → get new.copies.bodies (body pid (Own m)) ≡ Some vs → body pid (Own m) ≡ body p (Own n) → ⊥
      nobody pid m vs here same = one (holder slot_key (stands_on (body pid (Own m))) new.copies.entries (are_new.stood_on (body pid (Own m)) (ap is_some here)))
        where
          by : (h : Holder _ (stands_on (body pid (Own m))) new.copies.entries) (o : Option View) → h.thing.view ≡ o → given (option_map (body h.thing.pid) o) false (same_body (body pid (Own m))) ≡ true → ⊥
          by h None on e = absurd cc
          by h (Some v) on e =
              let off = (kept_entry (λ x e. both (of_sessions (belongs_to n) old.sessions) (on_unchanged p) x e || on_body (body p (Own n)) x e) old.copies new.copies left h.at h.thing v h.there on).1 in
              let passes : on_body (body p (Own n)) h.at h.thing ≡ true = ap (λ b. stands_on b (h.at, h.thing)) (sym same) ∙ h.passes in
              true_false (ap (λ b. both (of_sessions (belongs_to n) old.sessions) (on_unchanged p) h.at h.thing || b) passes ∙ or_true (both (of_sessions (belongs_to n) old.sessions) (on_unchanged p) h.at h.thing)) off

          one : Holder _ (stands_on (body pid (Own m))) new.copies.entries → ⊥
          one h = by h h.thing.view refl h.passes
